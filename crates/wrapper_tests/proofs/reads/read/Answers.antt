use Rattle.probe_wrapper.proofs.CallLemmas.{begun_is_open}
use Rattle.wrapper_tests.proofs.CallLemmas.{scanned_has_table, on_ok_any}
use Rattle.wrapper_tests.proofs.reads.read.Goals as goal

pub begin-requires : goal.begin-requires
begin-requires g c = c.plain.ensures.allowed _ _ c.requires

pub take_four-taken-requires : goal.take_four-taken-requires
take_four-taken-requires g c = begun_is_open _ _ _ _ _ _ c.in_ok-ticket.ensures.ok

pub returns : goal.returns
returns g c = on_ok_any c.take_four-taken.result (scanned_has_table (g.W.Wrapper.meaning c.args.source.now) (g.W.Wrapper.meaning c.begin.new.self) (g.W.Wrapper.meaning c.take_four-taken.new.source) (g.W.Wrapper.meaning c.end.new.self) _ _ _ _ c.in_ok-ticket.ensures.ok c.take_four-taken.ensures.tables c.end.ensures c.requires)
