use Rattle.probe_wrapper.specs.Shuffled.{turns_of}
use Rattle.probe_wrapper.proofs.ShuffledCalls.{is_idle}
use Rattle.probe_wrapper.proofs.shuffled.Shuffled.new.Goals as goal

pub returns-clause-idle : goal.returns-clause-idle
returns-clause-idle g c = λ i. is_idle (g.W.Wrapper.meaning c.args.inner) (turns_of c.new.result) 0 i
