use Rattle.probe_wrapper.proofs.CallLemmas.{begun_is_open, open_is_live}
use Rattle.wrapper_tests.proofs.reads.begin_and_end.Goals as goal

pub begin-requires : goal.begin-requires
begin-requires g c = c.plain.ensures.allowed _ _ c.requires

pub end-requires : goal.end-requires
end-requires g c = open_is_live (g.W.Wrapper.meaning c.begin.new.self) c.in_ok-ticket.ticket.number (begun_is_open _ _ _ _ _ _ c.in_ok-ticket.ensures.ok)
