use Rattle.std.proofs.Common.{◌≡◌, length, subst, arith}
use Rattle.sqlite.specs.Held.{state}
use Rattle.sqlite.specs.Order.{Row}
use Rattle.sqlite.specs.State.{ExecutesInside}
use Rattle.sqlite_writes.proofs.Filling.{bound_row}
use Rattle.sqlite_writes.proofs.statements.execute_wide.Goals as goal

pub returns-clause-runs : goal.returns-clause-runs
returns-clause-runs g c clean inside =
    let old = state g.S.Store c.args.tx.now.conn.now in
    let new = state g.S.Store c.execute.new.self.conn.now in
    let count : c.len.result ≡ length c.args.row.now.cells.items = omega (arith, c.len.ensures) in
    subst (λ (ps : Row). ExecutesInside 0 c.args.text.now ps old new c.execute.result)
    (bound_row c.fill.new.cells c.args.row.now.cells.items c.len.result count c.fill.ensures.filled) (c.execute.ensures.runs clean inside)
