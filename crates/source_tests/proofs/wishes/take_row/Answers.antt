use Rattle.probe_wrapper.proofs.CallLemmas.{open_is_live}
use Rattle.source_tests.proofs.CallLemmas.{broken_is_live, given_is_open, on_ok_any}
use Rattle.source_tests.proofs.wishes.take_row.Goals as goal

pub returns-in_err-row-clause-live : goal.returns-in_err-row-clause-live
returns-in_err-row-clause-live g c = broken_is_live _ _ _ _ c.in_err-row.ensures.err

pub returns-clause-open : goal.returns-clause-open
returns-clause-open g c =
    let old = g.W.Wrapper.meaning c.args.source.now in
    let new = g.W.Wrapper.meaning c.iterate.new.self in
    on_ok_any c.write_row.result (given_is_open old new c.args.ticket.now.number c.in_ok-row.row c.in_ok-row.ensures.ok c.requires)

pub returns-clause-live : goal.returns-clause-live
returns-clause-live g c =
    let old = g.W.Wrapper.meaning c.args.source.now in
    let new = g.W.Wrapper.meaning c.iterate.new.self in
    let n = c.args.ticket.now.number in
    open_is_live new n (given_is_open old new n c.in_ok-row.row c.in_ok-row.ensures.ok c.requires)
