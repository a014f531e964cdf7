use Rattle.std.proofs.Common.{◌<◌, ◌≤◌, ◌∙◌, length, sym, ap, arith, rules}
use Rattle.csv.proofs.RecordFacts.{field-bounds, field-none}
use Rattle.csv_tables.specs.Held.{held_of}
use Rattle.csv_tables.proofs.Moving.{held_size, held_field}
use Rattle.csv_tables.proofs.flat_fields.Fields.get.Goals as goal

pub returns-then-at-len-clause-value : goal.returns-then-at-len-clause-value
returns-then-at-len-clause-value c =
    let n = held_size (record { bytes = c.self.inside.bytes.items; ends = c.self.inside.ends.items }) in
    let size = c.len.ensures ∙ c.self.inside.ends.ok.0 in
    let past = c.if-at-len.true in
    let le : length (held_of (record { bytes = c.self.inside.bytes.items; ends = c.self.inside.ends.items })) ≤ c.args.at = omega arith in
    rw (← c.self.view_is) (sym (field-none _ c.args.at le))

pub returns-clause-value : goal.returns-clause-value
returns-clause-value c =
    let size = c.len.ensures ∙ c.self.inside.ends.ok.0 in
    let lt : c.args.at < length c.self.inside.ends.items = search rules in
    let b = c.bounds-start.ensures in
    rw (← c.self.view_is, c.as_slice.ensures.value, b.start, b.last) (sym (held_field c.self.inside.ends.items c.self.inside.bytes.items c.args.at c.self.invariant lt))

pub slice_bounds-result-count : goal.slice_bounds-result-count
slice_bounds-result-count c =
    let b = c.bounds-start.ensures in
    omega (arith, b.start, b.last)

pub slice_bounds-result-start : goal.slice_bounds-result-start
slice_bounds-result-start c =
    let size = c.len.ensures ∙ c.self.inside.ends.ok.0 in
    let lt : c.args.at < length c.self.inside.ends.items = omega (arith, c.if-at-len.false) in
    let b = c.bounds-start.ensures in
    let f = field-bounds 0 c.self.inside.ends.items (length c.self.inside.bytes.items) c.args.at c.self.invariant lt in
    omega (arith, b.start, b.last, f.0, f.1, ap length c.as_slice.ensures.value)

pub slice_bounds-result-end : goal.slice_bounds-result-end
slice_bounds-result-end c =
    let size = c.len.ensures ∙ c.self.inside.ends.ok.0 in
    let lt : c.args.at < length c.self.inside.ends.items = omega (arith, c.if-at-len.false) in
    let b = c.bounds-start.ensures in
    let f = field-bounds 0 c.self.inside.ends.items (length c.self.inside.bytes.items) c.args.at c.self.invariant lt in
    omega (arith, b.start, b.last, f.0, f.1, ap length c.as_slice.ensures.value)
