use Rattle.tab_tests.proofs.Calls.{broken_is_live, given_goes_on, going_is_live, on_ok_any}
use Rattle.tab_tests.proofs.scans.take_row.Goals as goal

pub returns-in_err-row-clause-live : goal.returns-in_err-row-clause-live
returns-in_err-row-clause-live g c = broken_is_live _ _ _ _ c.in_err-row.ensures.err

pub returns-clause-going : goal.returns-clause-going
returns-clause-going g c =
    on_ok_any c.write_row.result
    (given_goes_on (g.W.Wrapper.meaning c.args.source.now) (g.W.Wrapper.meaning c.iterate.new.self) c.args.ticket.now.number c.in_ok-row.row c.in_ok-row.ensures.ok c.requires)

pub returns-clause-live : goal.returns-clause-live
returns-clause-live g c =
    going_is_live (g.W.Wrapper.meaning c.iterate.new.self) _
    (given_goes_on (g.W.Wrapper.meaning c.args.source.now) (g.W.Wrapper.meaning c.iterate.new.self) c.args.ticket.now.number c.in_ok-row.row c.in_ok-row.ensures.ok c.requires)
