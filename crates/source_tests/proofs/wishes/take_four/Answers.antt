use Rattle.probe_wrapper.proofs.CallLemmas.{open_is_live}
use Rattle.source_tests.proofs.wishes.take_four.Goals as goal

pub returns : goal.returns
returns g c = open_is_live (g.W.Wrapper.meaning c.loop.source) c.args.ticket.now.number c.loop.invariant
