use Rattle.std.proofs.Common.{◌≡◌, ℕ, ◌-◌, refl, sym, ap, ◌∙◌, take, drop, arith}
use Rattle.std.proofs.lemmas.List.{take-append-drop}
use Rattle.tri_expr.proofs.Searching.{spelt_plain, all_plain}
use Rattle.tri_expr.proofs.like.fixed_start.Goals as goal

pub returns-in-None : goal.returns-in-None
returns-in-None c = all_plain c.args.pattern.now c.utf8.pattern (c.in-None.ensures.cases _ (λ k. refl))

pub returns-in-Some : goal.returns-in-Some
returns-in-Some c =
    let pattern = c.args.pattern.now in
    let end = c.in-Some.end in
    let all : end - 0 ≡ end = omega arith in
    let cut : c.range.result.now ≡ take end pattern = c.range.ensures.value ∙ ap (λ (n : ℕ). take n pattern) all in
    let plain = (c.in-Some.ensures.cases.1 _ (λ k. refl)).0 in
    spelt_plain pattern c.range.result.now (drop end pattern) c.range.utf8 (rw cut (sym (take-append-drop end pattern))) (rw cut plain)
