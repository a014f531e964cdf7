use Rattle.std.proofs.Common.{◌≡◌, ◌<◌, ◌+◌, ◌-◌, ◌/◌, true, false, length, sym, ◌∙◌, to_z, of_z, w64, arith}
use Rattle.med_value.specs.Datum.{cell}
use Rattle.wrapper_parts.specs.Scans.{column_cells}
use Rattle.wrapper_parts.specs.Halves.{is_under}
use Rattle.place_wrapper.proofs.Rows.{cells_length}
use Rattle.wrapper_parts.proofs.Halving.{under_before, over_behind}
use Rattle.place_wrapper.proofs.spans.first_at_least.Goals as goal

pub loop-first-preserved-then-branch : goal.loop-first-preserved-then-branch
loop-first-preserved-then-branch g c =
    let rows = g.T.PlacedTable.form.rows c.args.table.now in
    let cells = column_cells 0 rows in
    let key = to_z w64 (of_z w64 c.args.key) in
    let many = cells_length 0 rows in
    let test = c.loop-first-test.true in
    let within = c.loop-first.invariant.within in
    let middle = c.loop-first.first + (c.loop-first.end - c.loop-first.first) / 2 in
    let less : middle < length rows = omega arith in
    let under : is_under key (cell cells middle) ≡ true = sym c.in_ok-key_under.ensures ∙ c.if-branch.true in
    record {
      ordered = omega arith;
      within = within;
      before = λ k lt. under_before cells key k middle c.requires (omega arith) (omega arith) under;
      behind = c.loop-first.invariant.behind;
    }

pub loop-first-preserved : goal.loop-first-preserved
loop-first-preserved g c =
    let rows = g.T.PlacedTable.form.rows c.args.table.now in
    let cells = column_cells 0 rows in
    let key = to_z w64 (of_z w64 c.args.key) in
    let many = cells_length 0 rows in
    let test = c.loop-first-test.true in
    let within = c.loop-first.invariant.within in
    let middle = c.loop-first.first + (c.loop-first.end - c.loop-first.first) / 2 in
    let less : middle < length rows = omega arith in
    let over : is_under key (cell cells middle) ≡ false = sym c.in_ok-key_under.ensures ∙ c.if-branch.false in
    record {
      ordered = omega arith;
      within = omega arith;
      before = c.loop-first.invariant.before;
      behind = λ k le lt. over_behind cells key middle k c.requires le (omega arith) over;
    }
