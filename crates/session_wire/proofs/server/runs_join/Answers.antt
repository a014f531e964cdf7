use Rattle.std.proofs.Common.{[], Some, refl, subst, append-nil}
use Rattle.session_wire.specs.Run.{Fed}
use Rattle.session_wire.proofs.FrontOfLine.{front_is_rest}
use Rattle.session_wire.proofs.Runs.{fed_none, fed_more, fed_parts, fed_closed, broken_between}
use Rattle.session_wire.proofs.server.runs_join.Goals as goal

pub returns : goal.returns
returns g c = record {
  none = λ old bytes front.
      subst (λ bs. Fed g.H.Handler.step g.H.Handler.ended old bs [] old (Some bytes)) (append-nil bytes)
      (fed_none g.H.Handler.step g.H.Handler.ended old bytes (Some bytes) (front_is_rest bytes front) refl);
  joined = λ old mid new bytes more text others after left h k.
      fed_more g.H.Handler.step g.H.Handler.ended old bytes text mid after more others new left h k;
  parted = λ old new bytes more all after left e h.
      fed_parts g.H.Handler.step g.H.Handler.ended old new bytes more all after left e h;
  closed = λ old new bytes more text h.
      fed_closed g.H.Handler.step g.H.Handler.ended old bytes text new more h;
  broken = λ old mid new bytes piece more text others after h k.
      broken_between g.H.Handler.step g.H.Handler.ended old bytes text mid after piece others new more h k;
}
