use Rattle.std.proofs.Common.{◌≡◌, sym, ap, ◌∙◌, length, take, drop, arith}
use Rattle.std.specs.Str.{chars}
use Rattle.tri_expr.specs.Like.{pieces}
use Rattle.std.proofs.lemmas.List.{take-append-drop}
use Rattle.std.proofs.lemmas.Str.{IsUtf8-take, IsUtf8-drop}
use Rattle.tri_expr.proofs.Searching.{from_place, nowhere}
use Rattle.tri_expr.proofs.like.first_place.Goals as goal

pub returns-in_err-start : goal.returns-in_err-start
returns-in_err-start c = rw c.from_residual.ensures (nowhere (pieces (chars c.args.pattern.now)) c.sought.result.now c.args.text.now c.sought.utf8 c.utf8.text c.sought.ensures c.in_err-start.ensures.cases)

pub returns : goal.returns
returns c =
    let text = c.args.text.now in
    let start = c.in_ok-start.start in
    let found = c.in_ok-start.ensures.cases in
    let long : length (take start text) ≡ start = ap length (sym c.split_at.ensures.front) ∙ c.split_at.ensures.front_len in
    rw c.split_at.ensures.back (from_place (pieces (chars c.args.pattern.now)) c.sought.result.now (take start text) (drop start text) text
    c.sought.utf8 (IsUtf8-take text start c.utf8.text found.3) (IsUtf8-drop text start c.utf8.text found.3) c.sought.ensures
    (sym (take-append-drop start text)) (λ i less. found.1.0 i (omega (arith, less, long))))
