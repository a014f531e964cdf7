use Rattle.std.proofs.Common.{◌≡◌, ◌∷◌, ◌++◌, [], map, arith}
use Rattle.std.proofs.lemmas.Grind.{common_steps}
use Rattle.std.proofs.lemmas.Result.{err_from_is_err_and}
use Rattle.fdw_api.specs.Calls.{row_of}
use Rattle.probe_wrapper.proofs.ShuffledReads.{start, more, fewer, done, stops, breaks, open_now}
use Rattle.probe_wrapper.proofs.shuffled.read_out.Goals as goal

pub loop-rows-init : goal.loop-rows-init
loop-rows-init g c = rw c.new-rows.ensures.items (start c.args.ticket.now.number (g.W.Wrapper.meaning c.args.inner.now) c.requires)

pub iterate-requires : goal.iterate-requires
iterate-requires g c = open_now _ _ _ _ c.loop-rows.invariant

pub loop-rows-preserved : goal.loop-rows-preserved
loop-rows-preserved g c =
    let given : map row_of c.push.new.self.items ≡ map row_of c.loop-rows.rows.items ++ row_of c.in-Some.row ∷ [] = grind (arith, common_steps) in
    rw given (more _ _ _ _ _ _ c.loop-rows.invariant (rw c.in-Some.is at c.in_ok-row.ensures.ok))

pub loop-rows-smaller : goal.loop-rows-smaller
loop-rows-smaller g c = fewer _ _ _ _ (rw c.in-Some.is at c.in_ok-row.ensures.ok)

pub returns-clause-ok : goal.returns-clause-ok
returns-clause-ok g c = done _ _ _ _ _ c.loop-rows.invariant (rw c.in_default.is at c.in_ok-row.ensures.ok)

pub returns-in_err-push-clause-err : goal.returns-in_err-push-clause-err
returns-in_err-push-clause-err g c =
    let p = err_from_is_err_and c.from_residual-in_err-push.result c.from_residual-in_err-push.ensures.1 in
    rw (p.1, p.2) (stops _ _ _ _ _ _ c.loop-rows.invariant (rw c.in-Some.is at c.in_ok-row.ensures.ok))

pub returns-in_err-row-clause-err : goal.returns-in_err-row-clause-err
returns-in_err-row-clause-err g c =
    let p = err_from_is_err_and c.from_residual.result c.from_residual.ensures.1 in
    rw (p.1, p.2) (breaks _ _ _ _ _ _ c.loop-rows.invariant c.in_err-row.ensures.err)
