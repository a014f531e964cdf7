use Rattle.fed_hub.proofs.EngineHubs.{all_follow}
use Rattle.fed_hub.proofs.serving.exchanged_worlds_follow.Goals as goal

pub returns : goal.returns
returns g c = λ old new es h w agrees. all_follow g.W.Wrapper.meaning old new es h w agrees
