use Rattle.std.proofs.Common.{true}
use Rattle.probe_wrapper.specs.Shy.{asked_of}
use Rattle.probe_wrapper.proofs.ShyLemmas.{is_idle}
use Rattle.probe_wrapper.proofs.vague.Vague.new.Goals as goal

pub returns-clause-idle : goal.returns-clause-idle
returns-clause-idle g c = λ i. is_idle true (g.W.Wrapper.meaning c.args.inner) (asked_of c.new.result) i
