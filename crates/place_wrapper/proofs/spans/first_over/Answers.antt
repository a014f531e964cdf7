use Rattle.std.proofs.Common.{arith}
use Rattle.std.proofs.lemmas.Int.{ints}
use Rattle.std.proofs.lemmas.Result.{IfOk-weaker}
use Rattle.wrapper_parts.specs.Scans.{column_cells}
use Rattle.place_wrapper.proofs.Rows.{cells_length}
use Rattle.wrapper_parts.proofs.Halving.{beyond_by, beyond_all}
use Rattle.place_wrapper.proofs.spans.first_over.Goals as goal

pub returns : goal.returns
returns g c =
    let cells = column_cells 0 (g.T.PlacedTable.form.rows c.args.table.now) in
    IfOk-weaker c.first_at_least.result _ _ (λ end p. beyond_by cells c.args.key _ end (omega (arith, ints)) p) c.first_at_least.ensures

pub returns-then-key-eq9223372036854775807 : goal.returns-then-key-eq9223372036854775807
returns-then-key-eq9223372036854775807 g c =
    let rows = g.T.PlacedTable.form.rows c.args.table.now in
    let many = cells_length 0 rows in
    beyond_all (column_cells 0 rows) c.args.key c.count.result (omega arith)
