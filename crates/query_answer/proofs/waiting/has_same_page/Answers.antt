use Rattle.std.proofs.Common.{◌≡◌, Bool, true, false, ℕ, refl, sym, ap, ◌∙◌, subst, not, arith, Option, Some, None, ◌==◌}
use Rattle.std.specs.Bool.{Decides}
use Rattle.std.specs.Cmp.{booleans_Decides}
use Rattle.std.specs.Option.{option_eq}
use Rattle.std.proofs.lemmas.Bool.{and_parts}
use Rattle.std.proofs.lemmas.Slice.Eq.{slice_eq-Decides}
use Rattle.std.proofs.lemmas.Bool.Decides.{Decides-eqb}
use Rattle.med_query.specs.declared.select.SortDirection.{SortDirection}
use Rattle.med_query.specs.contracts.select.SortDirectionPartialEq.TheImpl.{eq-value}
use Rattle.query_answer.proofs.waiting.has_same_page.Goals as goal

abbrev made : Bool → Bool → SortDirection
made descending nulls_first = record { descending = descending; nulls_first = nulls_first }

alike : (a b : SortDirection) → a.descending ≡ b.descending → a.nulls_first ≡ b.nulls_first → a ≡ b
alike a b e f = ap (λ x. made x a.nulls_first) e ∙ ap (made b.descending) f

itself : (x y : Bool) → eq-value.it (made x y) (made x y) ≡ true
itself true true = refl
itself true false = refl
itself false true = refl
itself false false = refl

same_direction : (a b : SortDirection) → Decides (eq-value.it a b) (a ≡ b)
same_direction a b = (
  λ e. let p = and_parts _ _ e in alike a b ((booleans_Decides a.descending b.descending).0 p.0) ((booleans_Decides a.nulls_first b.nulls_first).0 p.1),
  λ e. subst (λ x. eq-value.it a x ≡ true) e (itself a.descending a.nulls_first),
)

same_truth : (b : Bool) → false ≡ not b → b ≡ true
same_truth true e = refl
same_truth false e = absurd cc

same_limit : (one other : Option ℕ) → false ≡ not (option_eq (λ a b. a == b) one other) → one ≡ other
same_limit None None e = refl
same_limit None (Some n) e = absurd cc
same_limit (Some n) None e = absurd cc
same_limit (Some n) (Some m) e = ap Some ((Decides-eqb n m).0 (same_truth (n == m) e))

pub returns : goal.returns
returns c = λ e.
    let a = c.args.one.now in
    let b = c.args.other.now in
    record {
      directions = sym c.as_slice.ensures.value ∙ (slice_eq-Decides same_direction c.as_slice.result.now c.as_slice-2.result.now c.eq.result c.eq.ensures).0 e ∙ c.as_slice-2.ensures.value;
      offset = omega (arith, c.if-one-other.false);
      limit = same_limit a.limit b.limit c.if-ne.ensures;
    }
