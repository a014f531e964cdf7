use Rattle.fed_cli.proofs.StreamWorlds.{Laws, serves_in_worlds}
use Rattle.fed_cli.proofs.worlds.served_worlds_follow.Goals as goal

pub returns : goal.returns
returns g c = λ old new before left input output result h w agrees.
    let law : Laws g.W.Wrapper.meaning = record { fed = c.worlds_follow.ensures.fed; broken = c.worlds_follow.ensures.broken } in
    serves_in_worlds g.W.Wrapper.meaning law old before new left input output result h w agrees
