use Rattle.std.proofs.Common.{◌≡◌, ℕ, ◌-◌, sym, ap, ◌∙◌, take, drop, arith}
use Rattle.std.specs.Str.{chars}
use Rattle.std.proofs.lemmas.List.{take-append-drop}
use Rattle.tri_expr.specs.Like.{pieces}
use Rattle.tri_expr.proofs.Searching.{shorter_start}
use Rattle.tri_expr.proofs.like.sought.Goals as goal

pub returns-in-Some-eq95 : goal.returns-in-Some-eq95
returns-in-Some-eq95 c =
    let fixed = c.fixed_start-fixed.result.now in
    let end = c.floor_char_boundary.result in
    let all : end - 0 ≡ end = omega arith in
    let cut : c.range.result.now ≡ take end fixed = c.range.ensures.value ∙ ap (λ (n : ℕ). take n fixed) all in
    shorter_start fixed c.range.result.now (drop end fixed) (pieces (chars c.args.pattern.now)) c.range.utf8 (rw cut (sym (take-append-drop end fixed))) c.fixed_start-fixed.ensures
