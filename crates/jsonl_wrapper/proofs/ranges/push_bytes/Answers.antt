use Rattle.std.proofs.Common.{◌≡◌, ◌+◌, ◌++◌, ◌∙◌, ℕ, List, ap, length, map, rules, arith}
use Rattle.std.proofs.lemmas.List.{length-append}
use Rattle.jsonl_wrapper.specs.declared.lines.Span.{Span}
use Rattle.std.specs.List.{slice_range}
use Rattle.jsonl_wrapper.specs.Lines.{text_of, moved, spans_from}
use Rattle.jsonl_wrapper.specs.Tables.{lines_in}
use Rattle.jsonl_wrapper.proofs.RangeLaws.{range_of_bytes, range_of_places, range_moves, range_follows}
use Rattle.jsonl_wrapper.proofs.ranges.push_bytes.Goals as goal

pub slice_bounds-extend_from_slice-count : goal.slice_bounds-extend_from_slice-count
slice_bounds-extend_from_slice-count c =
    let t = c.args.table.now in
    let b = range_of_bytes t.content.items t.lines.items (lines_in t) c.args.from c.args.to c.start_of-first.result c.start_of-end.result
    (t.image c.requires.image) c.requires.ordered c.start_of-first.ensures c.start_of-end.ensures in
    let size = b.1 in
    omega arith

pub slice_bounds-extend_from_slice-start : goal.slice_bounds-extend_from_slice-start
slice_bounds-extend_from_slice-start c =
    let t = c.args.table.now in
    let b = range_of_bytes t.content.items t.lines.items (lines_in t) c.args.from c.args.to c.start_of-first.result c.start_of-end.result
    (t.image c.requires.image) c.requires.ordered c.start_of-first.ensures c.start_of-end.ensures in
    let size = b.1 in
    let len = ap length c.deref.ensures.value in
    omega arith

pub slice_bounds-extend_from_slice-end : goal.slice_bounds-extend_from_slice-end
slice_bounds-extend_from_slice-end c =
    let t = c.args.table.now in
    let b = range_of_bytes t.content.items t.lines.items (lines_in t) c.args.from c.args.to c.start_of-first.result c.start_of-end.result
    (t.image c.requires.image) c.requires.ordered c.start_of-first.ensures c.start_of-end.ensures in
    let size = b.1 in
    let within = b.2 in
    let len = ap length c.deref.ensures.value in
    omega arith

pub push_moved-requires : goal.push_moved-requires
push_moved-requires c =
    let t = c.args.table.now in
    let run = slice_range (lines_in t) c.args.from c.args.to in
    let b = range_of_bytes t.content.items t.lines.items (lines_in t) c.args.from c.args.to c.start_of-first.result c.start_of-end.result
    (t.image c.requires.image) c.requires.ordered c.start_of-first.ensures c.start_of-end.ensures in
    let bytes : slice_range c.deref.result.now c.start_of-first.result c.start_of-end.result ≡ text_of run =
    ap (λ (bs : List ℕ). slice_range bs c.start_of-first.result c.start_of-end.result) c.deref.ensures.value ∙ b.0 in
    let size : c.len-size.result ≡ c.len-base.result + length (text_of run) =
    (let e = ap length c.in_ok-extend_from_slice.ensures.items in
    let n = length-append c.args.image.now.content.items (slice_range c.deref.result.now c.start_of-first.result c.start_of-end.result) in
    let m = ap length bytes in omega arith) in
    let places = range_of_places t.content.items t.lines.items (lines_in t) c.args.from c.args.to c.start_of-first.result
    (t.image c.requires.image) c.requires.ordered c.requires.within c.start_of-first.ensures in
    rw c.deref-2.ensures.value (range_moves c.start_of-first.result c.len-base.result c.len-size.result (slice_range t.lines.items c.args.from c.args.to) run places size c.len-size.type_inv).0

pub returns : goal.returns
returns c = λ lines is.
    let t = c.args.table.now in
    let run = slice_range (lines_in t) c.args.from c.args.to in
    let spans = slice_range t.lines.items c.args.from c.args.to in
    let b = range_of_bytes t.content.items t.lines.items (lines_in t) c.args.from c.args.to c.start_of-first.result c.start_of-end.result
    (t.image c.requires.image) c.requires.ordered c.start_of-first.ensures c.start_of-end.ensures in
    let bytes : slice_range c.deref.result.now c.start_of-first.result c.start_of-end.result ≡ text_of run =
    ap (λ (bs : List ℕ). slice_range bs c.start_of-first.result c.start_of-end.result) c.deref.ensures.value ∙ b.0 in
    let size : c.len-size.result ≡ c.len-base.result + length (text_of run) =
    (let e = ap length c.in_ok-extend_from_slice.ensures.items in
    let n = length-append c.args.image.now.content.items (slice_range c.deref.result.now c.start_of-first.result c.start_of-end.result) in
    let m = ap length bytes in omega arith) in
    let places = range_of_places t.content.items t.lines.items (lines_in t) c.args.from c.args.to c.start_of-first.result
    (t.image c.requires.image) c.requires.ordered c.requires.within c.start_of-first.ensures in
    let base : c.len-base.result ≡ length c.args.image.now.content.items = search rules in
    let moves : map (moved c.start_of-first.result c.len-base.result) spans ≡ spans_from (length c.args.image.now.content.items) run =
    (range_moves c.start_of-first.result c.len-base.result c.len-size.result spans run places size c.len-size.type_inv).1 ∙ ap (λ (n : ℕ). spans_from n run) base in
    let after : c.push_moved.new.lines.items ≡ c.args.image.now.lines.items ++ map (moved c.start_of-first.result c.len-base.result) spans =
    c.in_ok-push_moved.ensures ∙ ap (λ (ss : List Span). c.args.image.now.lines.items ++ map (moved c.start_of-first.result c.len-base.result) (slice_range ss c.args.from c.args.to)) c.deref-2.ensures.value in
    range_follows c.args.image.now.content.items (slice_range c.deref.result.now c.start_of-first.result c.start_of-end.result) c.args.image.now.lines.items _
    c.extend_from_slice.new.self.items c.push_moved.new.lines.items lines run c.in_ok-extend_from_slice.ensures.items bytes after moves is
