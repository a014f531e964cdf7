use Rattle.med_session.specs.Shows.{shown}
use Rattle.med_world.proofs.Faring.{none_rises}
use Rattle.session_wire.proofs.EngineRuns.{fed_rises, broken_rises}
use Rattle.session_wire.proofs.worlds.boxes_rise.Goals as goal

pub returns : goal.returns
returns g c = record {
  same = λ e. none_rises (shown g.W.Wrapper.meaning e).boxes;
  fed = λ old new bytes text left h. fed_rises g.W.Wrapper.meaning old new bytes text left h;
  broken = λ old new bytes text h. broken_rises g.W.Wrapper.meaning old new bytes text h;
}
