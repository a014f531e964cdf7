use Rattle.std.proofs.Common.{◌≤◌, sym, ap, length, arith}
use Rattle.csv_tables.specs.Held.{held_of}
use Rattle.csv_tables.proofs.Moving.{held_size, prev_within, prev_order, text_range}
use Rattle.csv_tables.proofs.flat_fields.Fields.text.Goals as goal

pub start_of-start-requires : goal.start_of-start-requires
start_of-start-requires c =
    let n = held_size (record { bytes = c.self.inside.bytes.items; ends = c.self.inside.ends.items }) in
    let w : c.args.to ≤ length (held_of (record { bytes = c.self.inside.bytes.items; ends = c.self.inside.ends.items })) = rw (← c.self.view_is) at c.requires.within in
    let o = c.requires.order in
    omega arith

pub start_of-end-requires : goal.start_of-end-requires
start_of-end-requires c =
    let n = held_size (record { bytes = c.self.inside.bytes.items; ends = c.self.inside.ends.items }) in
    let w : c.args.to ≤ length (held_of (record { bytes = c.self.inside.bytes.items; ends = c.self.inside.ends.items })) = rw (← c.self.view_is) at c.requires.within in
    omega arith

pub slice_bounds-result-count : goal.slice_bounds-result-count
slice_bounds-result-count c =
    let o = prev_order 0 c.self.inside.ends.items (length c.self.inside.bytes.items) c.args.from c.args.to c.self.invariant c.requires.order in
    omega (arith, c.start_of-start.ensures, c.start_of-end.ensures, o)

pub slice_bounds-result-start : goal.slice_bounds-result-start
slice_bounds-result-start c =
    let o = (prev_within 0 c.self.inside.ends.items (length c.self.inside.bytes.items) c.args.from c.self.invariant).1 in
    let p = (prev_within 0 c.self.inside.ends.items (length c.self.inside.bytes.items) c.args.to c.self.invariant).1 in
    let q = prev_order 0 c.self.inside.ends.items (length c.self.inside.bytes.items) c.args.from c.args.to c.self.invariant c.requires.order in
    omega (arith, c.start_of-start.ensures, c.start_of-end.ensures, o, p, q, ap length c.as_slice.ensures.value)

pub slice_bounds-result-end : goal.slice_bounds-result-end
slice_bounds-result-end c =
    let o = (prev_within 0 c.self.inside.ends.items (length c.self.inside.bytes.items) c.args.to c.self.invariant).1 in
    omega (arith, c.start_of-end.ensures, o, ap length c.as_slice.ensures.value)

pub returns : goal.returns
returns c =
    let n = held_size (record { bytes = c.self.inside.bytes.items; ends = c.self.inside.ends.items }) in
    let w : c.args.to ≤ length (held_of (record { bytes = c.self.inside.bytes.items; ends = c.self.inside.ends.items })) = rw (← c.self.view_is) at c.requires.within in
    let within : c.args.to ≤ length c.self.inside.ends.items = omega arith in
    rw (← c.self.view_is, c.as_slice.ensures.value, c.start_of-start.ensures, c.start_of-end.ensures)
    (sym (text_range c.self.inside.ends.items c.self.inside.bytes.items c.args.from c.args.to c.self.invariant c.requires.order within))
