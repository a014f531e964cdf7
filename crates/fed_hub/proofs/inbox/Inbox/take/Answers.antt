use Rattle.std.proofs.Common.{sym, ap, subst}
use Rattle.session_wire.specs.Lines.{IsFrontOfLine, unread_after}
use Rattle.session_wire.proofs.FrontOfLine.{left_is_front}
use Rattle.fed_hub.proofs.inbox.Inbox.take.Goals as goal

pub invariant_of-self-in-Nothing : goal.invariant_of-self-in-Nothing
invariant_of-self-in-Nothing c =
    let found = rw c.in-Nothing.is at c.in_ok-text.ensures.found in
    record { front = λ _. subst IsFrontOfLine (sym found.1) (left_is_front _ _ (ap unread_after found.0)) }
