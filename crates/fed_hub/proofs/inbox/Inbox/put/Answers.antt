use Rattle.std.proofs.Common.{◌≡◌, ◌-◌, ◌≤◌, ◌++◌, true, false, length, sym, ap, subst, ◌∙◌, arith}
use Rattle.med_value.specs.Limits.{line_limit}
use Rattle.session_wire.specs.Lines.{IsFrontOfLine}
use Rattle.session_wire.proofs.FrontOfLine.{front-append}
use Rattle.fed_hub.proofs.inbox.Inbox.put.Goals.{then-self, else-self}
use Rattle.fed_hub.proofs.inbox.Inbox.put.Goals as goal

pub invariant_of-self-2 : goal.invariant_of-self-2
invariant_of-self-2 c =
    let added : c.extend_from_slice.new.self.items ≡ c.args.self.now.unread.items ++ c.args.piece.now = grind arith in
    let goes_on : c.if-self.goes_on ≡ true → IsFrontOfLine (c.args.self.now.unread.items ++ c.args.piece.now) =
    λ e. elim c.if-self.branch [
      | then-self w ↦
          let both = w.is_more_of_line-goes_on.ensures (sym w.goes_on-is ∙ e) in
          let held : w.len.result ≡ length c.args.self.now.unread.items = w.len.ensures.value in
          front-append _ _ (c.args.self.now.front w.if-self.true) both.0 (subst
          (λ n. length c.args.piece.now ≤ line_limit - n) held both.1)
      | else-self w ↦
          let no : c.args.self.now.is_front ≡ true = sym w.goes_on-is ∙ e in
          let not : c.args.self.now.is_front ≡ false = w.if-self.false in
          let never : false ≡ true = sym not ∙ no in
          absurd cc
    ] in
    record { front = λ e. subst IsFrontOfLine (sym added) (goes_on e) }
