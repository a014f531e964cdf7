use Rattle.std.proofs.Common.{◌≡◌, ◌∷◌, ◌++◌, [], map, arith}
use Rattle.std.proofs.lemmas.Grind.{common_steps}
use Rattle.std.proofs.lemmas.Result.{err_from_is_err_and}
use Rattle.fdw_api.specs.Calls.{row_of}
use Rattle.med_exec.proofs.ScanLemmas.{fewer, stops, breaks, open_now}
use Rattle.med_exec.proofs.RowScans.{start_rows, more_rows, done_rows}
use Rattle.med_exec.proofs.reading.read_rows.Goals as goal

pub loop-rows-init : goal.loop-rows-init
loop-rows-init g c = rw c.new-rows.ensures.items (start_rows c.args.ticket.now.number (g.W.Wrapper.meaning c.args.b.now) c.requires)

pub iterate-requires : goal.iterate-requires
iterate-requires g c = open_now _ _ _ _ c.loop-rows.invariant.scanned

pub loop-rows-preserved : goal.loop-rows-preserved
loop-rows-preserved g c =
    let given : map row_of c.push.new.self.items ≡ map row_of c.loop-rows.rows.items ++ row_of c.in-Some.row ∷ [] = grind (arith, common_steps) in
    rw given (more_rows _ _ _ _ _ _ c.loop-rows.invariant (rw c.in-Some.is at c.in_ok-row.ensures.ok))

pub loop-rows-smaller : goal.loop-rows-smaller
loop-rows-smaller g c = fewer _ _ _ _ (rw c.in-Some.is at c.in_ok-row.ensures.ok)

pub returns-clause-ok : goal.returns-clause-ok
returns-clause-ok g c = λ kinds r. done_rows _ _ _ _ _ c.loop-rows.invariant (rw c.in_default.is at c.in_ok-row.ensures.ok) kinds r

pub returns-in_err-push-clause-err : goal.returns-in_err-push-clause-err
returns-in_err-push-clause-err g c =
    let p = err_from_is_err_and c.from_residual-in_err-push.result c.from_residual-in_err-push.ensures.1 in
    rw (p.1, p.2) (stops _ _ _ _ _ _ c.loop-rows.invariant.scanned (rw c.in-Some.is at c.in_ok-row.ensures.ok))

pub returns-in_err-row-clause-err : goal.returns-in_err-row-clause-err
returns-in_err-row-clause-err g c =
    let p = err_from_is_err_and c.from_residual.result c.from_residual.ensures.1 in
    rw (p.1, p.2) (breaks _ _ _ _ _ _ c.loop-rows.invariant.scanned c.in_err-row.ensures.err)
