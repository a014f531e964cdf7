use Rattle.std.proofs.Common.{◌≡◌, ◌≤◌, ◌-◌, ◌++◌, ◌∙◌, [], ap, sym, map, take, drop, length, arith, List, ℕ}
use Rattle.std.proofs.lemmas.List.{take_at, drop_at, length-append}
use Rattle.csv.specs.Records.{last_end, prev}
use Rattle.csv_tables.specs.Held.{held_of, moved}
use Rattle.csv_tables.proofs.Moving.{held_size, closed, range_text, range_size, text_range, prev_order, range_rising, moved_rising, moved_fields, moved_last}
use Rattle.csv_tables.proofs.Exchanging.{can_move}
use Rattle.csv_tables.proofs.flat_fields.Fields.with_range.Goals as goal

pub start_of-start-requires : goal.start_of-start-requires
start_of-start-requires c =
    let n = held_size (record { bytes = c.others.inside.bytes.items; ends = c.others.inside.ends.items }) in
    let w : c.args.to ≤ length (held_of (record { bytes = c.others.inside.bytes.items; ends = c.others.inside.ends.items })) = rw (← c.others.view_is) at c.requires.within in
    let o = c.requires.order in
    omega arith

pub offset_bounds-as_slice-from : goal.offset_bounds-as_slice-from
offset_bounds-as_slice-from c =
    let n = held_size (record { bytes = c.others.inside.bytes.items; ends = c.others.inside.ends.items }) in
    let w : c.args.to ≤ length (held_of (record { bytes = c.others.inside.bytes.items; ends = c.others.inside.ends.items })) = rw (← c.others.view_is) at c.requires.within in
    let o = c.requires.order in
    let l = c.as_slice.type_inv.1 in
    let e = ap length c.as_slice.ensures.value in
    omega arith

pub slice_bounds-extend_from_slice-end : goal.slice_bounds-extend_from_slice-end
slice_bounds-extend_from_slice-end c =
    let n = held_size (record { bytes = c.others.inside.bytes.items; ends = c.others.inside.ends.items }) in
    let w : c.args.to ≤ length (held_of (record { bytes = c.others.inside.bytes.items; ends = c.others.inside.ends.items })) = rw (← c.others.view_is) at c.requires.within in
    let o = c.requires.order in
    let e = ap length c.as_slice.ensures.value in
    omega arith

pub move_behind-requires : goal.move_behind-requires
move_behind-requires c =
    let x = c.self.inside.ends.items in
    let y = c.self.inside.bytes.items in
    let ends = c.others.inside.ends.items in
    let bytes = c.others.inside.bytes.items in
    let n = held_size (record { bytes = c.others.inside.bytes.items; ends = c.others.inside.ends.items }) in
    let w : c.args.to ≤ length (held_of (record { bytes = c.others.inside.bytes.items; ends = c.others.inside.ends.items })) = rw (← c.others.view_is) at c.requires.within in
    let within : c.args.to ≤ length ends = omega arith in
    let size : c.len-base.result ≡ length y = c.len-base.ensures ∙ c.self.inside.bytes.ok.0 in
    let range : c.text-added.result.now ≡ range_text ends bytes c.args.from c.args.to =
    rw (← c.others.view_is) at c.text-added.ensures ∙ text_range ends bytes c.args.from c.args.to c.others.invariant c.requires.order within in
    let some = take (c.args.to - c.args.from) (drop c.args.from ends) in
    let count : length x ≡ c.len-first.result = sym (c.len-first.ensures ∙ c.self.inside.ends.ok.0) in
    let grown : c.extend_from_slice-2.new.self.items ≡ x ++ some = rw c.as_slice.ensures.value at c.in_ok-extend_from_slice-2.ensures.items in
    let behind : drop c.len-first.result c.extend_from_slice-2.new.self.items ≡ some = ap (drop c.len-first.result) grown ∙ drop_at x some c.len-first.result count in
    let more = range_size ends bytes c.args.from c.args.to c.others.invariant c.requires.order in
    let added = ap length range in
    let fits = c.saturating_add.ensures in
    let rising = range_rising ends (length bytes) c.args.from c.args.to c.others.invariant c.requires.order within in
    let low = c.start_of-start.ensures in
    let order = prev_order 0 ends (length bytes) c.args.from c.args.to c.others.invariant c.requires.order in
    let l = ap length grown in
    let a = length-append x some in
    record {
      within = omega arith;
      can_move = rw (behind, low) (can_move (prev 0 ends c.args.from) c.len-base.result (prev 0 ends c.args.to) some rising (omega arith));
    }

pub invariant_of-result : goal.invariant_of-result
invariant_of-result c =
    let x = c.self.inside.ends.items in
    let y = c.self.inside.bytes.items in
    let ends = c.others.inside.ends.items in
    let bytes = c.others.inside.bytes.items in
    let n = held_size (record { bytes = c.others.inside.bytes.items; ends = c.others.inside.ends.items }) in
    let w : c.args.to ≤ length (held_of (record { bytes = c.others.inside.bytes.items; ends = c.others.inside.ends.items })) = rw (← c.others.view_is) at c.requires.within in
    let within : c.args.to ≤ length ends = omega arith in
    let size : c.len-base.result ≡ length y = c.len-base.ensures ∙ c.self.inside.bytes.ok.0 in
    let range : c.text-added.result.now ≡ range_text ends bytes c.args.from c.args.to =
    rw (← c.others.view_is) at c.text-added.ensures ∙ text_range ends bytes c.args.from c.args.to c.others.invariant c.requires.order within in
    let some = take (c.args.to - c.args.from) (drop c.args.from ends) in
    let count : length x ≡ c.len-first.result = sym (c.len-first.ensures ∙ c.self.inside.ends.ok.0) in
    let grown : c.extend_from_slice-2.new.self.items ≡ x ++ some = rw c.as_slice.ensures.value at c.in_ok-extend_from_slice-2.ensures.items in
    let behind : drop c.len-first.result c.extend_from_slice-2.new.self.items ≡ some = ap (drop c.len-first.result) grown ∙ drop_at x some c.len-first.result count in
    let partial : drop (last_end 0 x) y ≡ [] = rw (← c.self.view_is) at c.requires.partial in
    let whole = closed x y c.self.invariant partial in
    let text : c.extend_from_slice.new.self.items ≡ y ++ range_text ends bytes c.args.from c.args.to =
    c.in_ok-extend_from_slice.ensures.items ∙ ap (λ (l : List ℕ). y ++ l) range in
    let first : take c.len-first.result c.extend_from_slice-2.new.self.items ≡ x = ap (take c.len-first.result) grown ∙ take_at x some c.len-first.result count in
    let places : c.move_behind.new.ends.items ≡ x ++ map (moved (prev 0 ends c.args.from) (length y)) some =
    rw (size, c.start_of-start.ensures, first, behind) at c.move_behind.ensures in
    rw (text, places) (moved_rising x y ends bytes c.args.from c.args.to c.self.invariant whole c.others.invariant c.requires.order within)

pub returns-clause-fields : goal.returns-clause-fields
returns-clause-fields c =
    let x = c.self.inside.ends.items in
    let y = c.self.inside.bytes.items in
    let ends = c.others.inside.ends.items in
    let bytes = c.others.inside.bytes.items in
    let n = held_size (record { bytes = c.others.inside.bytes.items; ends = c.others.inside.ends.items }) in
    let w : c.args.to ≤ length (held_of (record { bytes = c.others.inside.bytes.items; ends = c.others.inside.ends.items })) = rw (← c.others.view_is) at c.requires.within in
    let within : c.args.to ≤ length ends = omega arith in
    let size : c.len-base.result ≡ length y = c.len-base.ensures ∙ c.self.inside.bytes.ok.0 in
    let range : c.text-added.result.now ≡ range_text ends bytes c.args.from c.args.to =
    rw (← c.others.view_is) at c.text-added.ensures ∙ text_range ends bytes c.args.from c.args.to c.others.invariant c.requires.order within in
    let some = take (c.args.to - c.args.from) (drop c.args.from ends) in
    let count : length x ≡ c.len-first.result = sym (c.len-first.ensures ∙ c.self.inside.ends.ok.0) in
    let grown : c.extend_from_slice-2.new.self.items ≡ x ++ some = rw c.as_slice.ensures.value at c.in_ok-extend_from_slice-2.ensures.items in
    let behind : drop c.len-first.result c.extend_from_slice-2.new.self.items ≡ some = ap (drop c.len-first.result) grown ∙ drop_at x some c.len-first.result count in
    let partial : drop (last_end 0 x) y ≡ [] = rw (← c.self.view_is) at c.requires.partial in
    let whole = closed x y c.self.invariant partial in
    let text : c.extend_from_slice.new.self.items ≡ y ++ range_text ends bytes c.args.from c.args.to =
    c.in_ok-extend_from_slice.ensures.items ∙ ap (λ (l : List ℕ). y ++ l) range in
    let first : take c.len-first.result c.extend_from_slice-2.new.self.items ≡ x = ap (take c.len-first.result) grown ∙ take_at x some c.len-first.result count in
    let places : c.move_behind.new.ends.items ≡ x ++ map (moved (prev 0 ends c.args.from) (length y)) some =
    rw (size, c.start_of-start.ensures, first, behind) at c.move_behind.ensures in
    rw (← c.others.view_is, ← c.self.view_is, text, places) (moved_fields x y ends bytes c.args.from c.args.to c.self.invariant whole c.others.invariant c.requires.order within)

pub returns-clause-partial : goal.returns-clause-partial
returns-clause-partial c =
    let x = c.self.inside.ends.items in
    let y = c.self.inside.bytes.items in
    let ends = c.others.inside.ends.items in
    let bytes = c.others.inside.bytes.items in
    let n = held_size (record { bytes = c.others.inside.bytes.items; ends = c.others.inside.ends.items }) in
    let w : c.args.to ≤ length (held_of (record { bytes = c.others.inside.bytes.items; ends = c.others.inside.ends.items })) = rw (← c.others.view_is) at c.requires.within in
    let within : c.args.to ≤ length ends = omega arith in
    let size : c.len-base.result ≡ length y = c.len-base.ensures ∙ c.self.inside.bytes.ok.0 in
    let range : c.text-added.result.now ≡ range_text ends bytes c.args.from c.args.to =
    rw (← c.others.view_is) at c.text-added.ensures ∙ text_range ends bytes c.args.from c.args.to c.others.invariant c.requires.order within in
    let some = take (c.args.to - c.args.from) (drop c.args.from ends) in
    let count : length x ≡ c.len-first.result = sym (c.len-first.ensures ∙ c.self.inside.ends.ok.0) in
    let grown : c.extend_from_slice-2.new.self.items ≡ x ++ some = rw c.as_slice.ensures.value at c.in_ok-extend_from_slice-2.ensures.items in
    let behind : drop c.len-first.result c.extend_from_slice-2.new.self.items ≡ some = ap (drop c.len-first.result) grown ∙ drop_at x some c.len-first.result count in
    let partial : drop (last_end 0 x) y ≡ [] = rw (← c.self.view_is) at c.requires.partial in
    let whole = closed x y c.self.invariant partial in
    let text : c.extend_from_slice.new.self.items ≡ y ++ range_text ends bytes c.args.from c.args.to =
    c.in_ok-extend_from_slice.ensures.items ∙ ap (λ (l : List ℕ). y ++ l) range in
    let first : take c.len-first.result c.extend_from_slice-2.new.self.items ≡ x = ap (take c.len-first.result) grown ∙ take_at x some c.len-first.result count in
    let places : c.move_behind.new.ends.items ≡ x ++ map (moved (prev 0 ends c.args.from) (length y)) some =
    rw (size, c.start_of-start.ensures, first, behind) at c.move_behind.ensures in
    rw (text, places) (moved_last x y ends bytes c.args.from c.args.to whole c.others.invariant c.requires.order within)
