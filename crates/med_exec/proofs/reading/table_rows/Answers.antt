use Rattle.std.proofs.Common.{map}
use Rattle.std.proofs.lemmas.Result.{err_from_is_err_and}
use Rattle.fdw_api.specs.Calls.{row_of}
use Rattle.med_exec.proofs.ScanLemmas.{open_begun, begin_fails, err_fails}
use Rattle.med_exec.proofs.RowScans.{ok_table, live_still, none_begun}
use Rattle.med_exec.proofs.reading.table_rows.Goals as goal

pub returns-in_err-spec-clause-err : goal.returns-in_err-spec-clause-err
returns-in_err-spec-clause-err g c =
    let p = err_from_is_err_and c.from_residual.result c.from_residual.ensures.1 in
    rw (p.1, p.2, c.in_err-spec.ensures.err) (none_begun (g.W.Wrapper.meaning c.args.b.now))

pub returns-in_err-ticket-clause-err : goal.returns-in_err-ticket-clause-err
returns-in_err-ticket-clause-err g c =
    let p = err_from_is_err_and c.from_residual-in_err-ticket.result c.from_residual-in_err-ticket.ensures.1 in
    rw (p.1, p.2) (begin_fails _ _ _ c.in_err-ticket.ensures.err)

pub read_rows-rows-requires : goal.read_rows-rows-requires
read_rows-rows-requires g c = open_begun _ _ _ _ _ _ c.in_ok-ticket.ensures.ok

pub returns-clause-ok : goal.returns-clause-ok
returns-clause-ok g c = ok_table _ _ _ _ _ c.in_ok-spec.ensures.offers _ _ c.in_ok-ticket.ensures.ok (λ v. map row_of v.items) _ _ c.read_rows-rows.result c.read_rows-rows.ensures.ok c.end.ensures

pub returns-clause-err : goal.returns-clause-err
returns-clause-err g c = err_fails _ _ _ _ _ _ _ _ c.read_rows-rows.result c.in_ok-ticket.ensures.ok c.read_rows-rows.ensures.err c.end.ensures

pub end-requires : goal.end-requires
end-requires g c = live_still _ _ _ _ _ c.in_ok-spec.ensures.offers _ _ c.in_ok-ticket.ensures.ok (λ v. map row_of v.items) _ c.read_rows-rows.result c.read_rows-rows.ensures.ok c.read_rows-rows.ensures.err
