use Rattle.session_wire.proofs.EngineRuns.{fed_in_worlds, broken_in_worlds}
use Rattle.session_wire.proofs.worlds.worlds_follow.Goals as goal

pub returns : goal.returns
returns g c = record {
  fed = λ old new bytes text left h w agrees. fed_in_worlds g.W.Wrapper.meaning old new bytes text left h w agrees;
  broken = λ old new bytes text h w agrees. broken_in_worlds g.W.Wrapper.meaning old new bytes text h w agrees;
}
