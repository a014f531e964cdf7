use Rattle.source_tests.proofs.CallLemmas.{can_is_open, can_is_live, on_ok_any, given_can_rescan, broken_is_live}
use Rattle.source_tests.proofs.scans.take_row.Goals as goal

pub iterate-requires : goal.iterate-requires
iterate-requires g c = can_is_open _ _ _ c.requires

pub returns-in_err-row-clause-live : goal.returns-in_err-row-clause-live
returns-in_err-row-clause-live g c = broken_is_live _ _ _ _ c.in_err-row.ensures.err

pub returns-clause-again : goal.returns-clause-again
returns-clause-again g c =
    let old = g.W.Wrapper.meaning c.args.source.now in
    let new = g.W.Wrapper.meaning c.iterate.new.self in
    on_ok_any c.write_row.result (given_can_rescan old new c.args.ticket.now.number c.in_ok-row.row _ c.in_ok-row.ensures.ok c.requires)

pub returns-clause-live : goal.returns-clause-live
returns-clause-live g c =
    let old = g.W.Wrapper.meaning c.args.source.now in
    let new = g.W.Wrapper.meaning c.iterate.new.self in
    can_is_live new _ _ (given_can_rescan old new c.args.ticket.now.number c.in_ok-row.row _ c.in_ok-row.ensures.ok c.requires)
