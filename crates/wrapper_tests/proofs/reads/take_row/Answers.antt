use Rattle.probe_wrapper.proofs.CallLemmas.{open_is_live}
use Rattle.wrapper_tests.proofs.CallLemmas.{given_is_open, on_ok_any, given_can_rescan, given_keeps, given_tables, broken_tables, broken_is_live, broken_keeps}
use Rattle.wrapper_tests.proofs.reads.take_row.Goals as goal

pub returns-in_err-row-clause-live : goal.returns-in_err-row-clause-live
returns-in_err-row-clause-live g c = broken_is_live _ _ _ _ c.in_err-row.ensures.err

pub returns-in_err-row-clause-others : goal.returns-in_err-row-clause-others
returns-in_err-row-clause-others g c = λ q ne. broken_keeps _ _ _ q _ c.in_err-row.ensures.err ne

pub returns-clause-open : goal.returns-clause-open
returns-clause-open g c =
    let old = g.W.Wrapper.meaning c.args.source.now in
    let new = g.W.Wrapper.meaning c.iterate.new.self in
    on_ok_any c.write_row.result (given_is_open old new c.args.ticket.now.number c.in_ok-row.row c.in_ok-row.ensures.ok c.requires)

pub returns-clause-live : goal.returns-clause-live
returns-clause-live g c =
    let old = g.W.Wrapper.meaning c.args.source.now in
    let new = g.W.Wrapper.meaning c.iterate.new.self in
    let n = c.args.ticket.now.number in
    open_is_live new n (given_is_open old new n c.in_ok-row.row c.in_ok-row.ensures.ok c.requires)

pub returns-clause-others : goal.returns-clause-others
returns-clause-others g c = λ q ne. given_keeps _ _ _ q c.in_ok-row.row c.in_ok-row.ensures.ok ne

pub returns-clause-again : goal.returns-clause-again
returns-clause-again g c =
    let old = g.W.Wrapper.meaning c.args.source.now in
    let new = g.W.Wrapper.meaning c.iterate.new.self in
    on_ok_any c.write_row.result (λ params can. given_can_rescan old new c.args.ticket.now.number c.in_ok-row.row params c.in_ok-row.ensures.ok can)

pub returns-in_err-row-clause-tables : goal.returns-in_err-row-clause-tables
returns-in_err-row-clause-tables g c = λ t. broken_tables _ _ _ t _ c.in_err-row.ensures.err

pub returns-clause-tables : goal.returns-clause-tables
returns-clause-tables g c = λ t. given_tables _ _ _ t c.in_ok-row.row c.in_ok-row.ensures.ok
