use Rattle.std.proofs.Common.{false}
use Rattle.probe_wrapper.specs.Shy.{asked_of}
use Rattle.probe_wrapper.proofs.ShyLemmas.{is_idle}
use Rattle.probe_wrapper.proofs.shy.Shy.new.Goals as goal

pub returns-clause-idle : goal.returns-clause-idle
returns-clause-idle g c = λ i. is_idle false (g.W.Wrapper.meaning c.args.inner) (asked_of c.new.result) i
