use Rattle.std.proofs.Common.{◌≡◌, ◌-◌, ◌≤◌, ℕ, List, [], ◌++◌, Bool, false, true, not, ◌<◌, length, Some, refl, sym, ap, ◌∙◌, append-nil}
use Rattle.std.proofs.Common.{arith, Result, Ok, Err, OnErr, inl, inr, subst}
use Rattle.std.proofs.lemmas.Bool.{leb-true, not-true}
use Rattle.med_value.specs.Limits.{line_limit}
use Rattle.session_wire.specs.Lines.{IsFrontOfLine, Lines, lines_of, unread_after}
use Rattle.session_wire.specs.Run.{RunUpTo}
use Rattle.session_wire.proofs.FrontOfLine.{front-append, front_is_rest, no_front}
use Rattle.session_wire.proofs.Runs.{front_stops}
use Rattle.session_wire.proofs.answers.answer_piece.Goals.{then-piece-len, else-piece-len}
use Rattle.session_wire.proofs.answers.answer_piece.Goals as goal

pub returns-then-is_err-clause-err : goal.returns-then-is_err-clause-err
returns-then-is_err-clause-err g c = ([], sym (append-nil _), front_stops _ _ _)

pub returns-then-is_front-clause-ok : goal.returns-then-is_front-clause-ok
returns-then-is_front-clause-ok g c =
    let front : IsFrontOfLine (c.args.unread.now.items ++ c.args.piece.now) =
    elim c.if-piece-len.branch [
      | then-piece-len w ↦
          let none : w.contains.result ≡ false = not-true _ (sym w.is_front-is ∙ c.if-is_front.true) in
          front-append _ _ c.requires.front (sym w.contains.ensures.value ∙ none) (omega arith)
      | else-piece-len w ↦
          let long : line_limit - c.len.result < length c.args.piece.now = w.if-piece-len.false in
          let short : length c.args.piece.now ≤ line_limit - c.len.result = leb-true _ _ (sym w.is_front-is ∙ c.if-is_front.true) in
          absurd (omega arith)
    ] in
    let lines = front_is_rest _ front in
    let added : c.extend_from_slice.new.self.items ≡ c.args.unread.now.items ++ c.args.piece.now = grind arith in
    ([], sym (append-nil _), rw lines (refl, refl), ap unread_after lines ∙ ap Some (sym added))

on_err : {T E : Type 0} (r : Result T E) (P : Type 0) → P → OnErr r P
on_err (Ok x) P p = tt
on_err (Err e) P p = p

-- a piece that ends no line is not read again
pub returns-clause-room : goal.returns-clause-room
returns-clause-room g c =
    on_err c.answer_lines.result _ (λ front.
    let both = no_front c.args.unread.now.items c.args.piece.now front in
    let bad : ⊥ = elim c.if-piece-len.branch [
      | then-piece-len w ↦
          let none : w.contains.result ≡ false = w.contains.ensures.value ∙ both.0 in
          let no : true ≡ false = ap not (sym none) ∙ sym w.is_front-is ∙ c.if-is_front.false in
          cc
      | else-piece-len w ↦
          let long : line_limit - c.len.result < length c.args.piece.now = w.if-piece-len.false in
          let short : length c.args.piece.now ≤ line_limit - length c.args.unread.now.items = both.1 in
          let size : c.len.result ≡ length c.args.unread.now.items = c.len.ensures.value in
          omega arith
    ] in
    absurd bad)

then_err : {T E : Type 0} (r : Result T E) (P Q : Type 0) → (P → Q) → OnErr r P → OnErr r Q
then_err (Ok x) P Q f p = tt
then_err (Err e) P Q f p = f p

-- the room for the bytes held back was less than the piece
pub returns-then-is_err-clause-cause : goal.returns-then-is_err-clause-cause
returns-then-is_err-clause-cause g c = inl (grind arith, refl, refl)

-- room was refused for the next line
pub returns-clause-cause : goal.returns-clause-cause
returns-clause-cause g c =
    let added : c.extend_from_slice.new.self.items ≡ c.args.unread.now.items ++ c.args.piece.now = grind arith in
    let up_to : (bs text : List ℕ) (left : Lines) → Type 0 =
    λ bs text left. RunUpTo g.H.Handler.step c.args.handler.now (lines_of bs) text c.answer_lines.new.handler left in
    then_err c.answer_lines.result _ _ (λ h. inr (h.0, h.1, (h.2.0, subst (λ bs. up_to bs h.0 h.2.0) added h.2.1, h.2.2)))
    c.answer_lines.ensures.cause
