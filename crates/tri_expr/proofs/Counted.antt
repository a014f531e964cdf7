-- An aggregate row by row.
use Rattle.std.proofs.Common.{◌≡◌, ◌≤◌, ◌<◌, ◌+◌, ◌*◌, ◌^◌, ℕ, List, [], ◌∷◌, ◌++◌, map, take, length, get_or, refl, sym, ap, ◌∙◌, arith, subst}
use Rattle.std.proofs.lemmas.List.{map_more}
use Rattle.med_value.specs.Datum.{Datum, Tuple, tuple}
use Rattle.med_value.specs.declared.value.Row.{Row}
use Rattle.tri_expr.specs.declared.expr.SetFunction.{SetFunction}
use Rattle.tri_expr.specs.declared.tally.Tally.{Tally}
use Rattle.tri_expr.specs.Outcome.{Is, value_of}
use Rattle.tri_expr.specs.Meaning.{OnClass, argument}
use Rattle.tri_expr.specs.Tally.{Tallied, IsAdded, magnitude}
use Rattle.tri_expr.proofs.Tallies.{tallied_more}

pub record Counted (t : Tally) (k : SetFunction) (f : OnClass) (class : List Tuple) (n : ℕ) : Type 0 where
  pub tallied : Tallied t (argument f class)
  pub function : t.function ≡ k
  pub few : t.count ≤ n
  pub small : magnitude t.total ≤ t.count * 2 ^ 63

argument-append : (f : OnClass) (rs ss : List Tuple) → argument f (rs ++ ss) ≡ argument f rs ++ argument f ss
argument-append f [] ss = refl
argument-append f (r ∷ rs) ss = ap (λ (l : List Datum). value_of (f (r ∷ [])) ∷ l) (argument-append f rs ss)

pub argument-map : (f : OnClass) (rs : List Tuple) → argument f rs ≡ map (λ r. value_of (f (r ∷ []))) rs
argument-map f [] = refl
argument-map f (r ∷ rs) = ap (λ (l : List Datum). value_of (f (r ∷ [])) ∷ l) (argument-map f rs)

one_by : (f : OnClass) (rows : List Row) (i : ℕ) (d : Row) → i < length rows → d ≡ get_or rows i d → argument f (map tuple (take (i + 1) rows)) ≡ argument f (map tuple (take i rows)) ++ value_of (f (tuple d ∷ [])) ∷ []
one_by f rows i d lt e = rw (map_more tuple rows i d lt, ← e) (argument-append f (map tuple (take i rows)) (tuple d ∷ []))

pub counted_more : (f : OnClass) (function : SetFunction) (rows : List Row) (i : ℕ) (d : Row) (old new : Tally) (v : Datum) → i < length rows → d ≡ get_or rows i d → Is (value_of (f (tuple d ∷ []))) ≡ Is v → IsAdded old new v → new.count ≤ old.count + 1 → magnitude new.total ≤ new.count * 2 ^ 63
    → Counted old function f (map tuple (take i rows)) i → Counted new function f (map tuple (take (i + 1) rows)) (i + 1)
counted_more f function rows i d old new v lt e is a one small h =
    let same : value_of (f (tuple d ∷ [])) ≡ v = cc in
    record {
      tallied = subst (Tallied new) (sym (one_by f rows i d lt e)) (subst (λ w. Tallied new (argument f (map tuple (take i rows)) ++ w ∷ [])) (sym same) (tallied_more old new (argument f (map tuple (take i rows))) v a h.tallied));
      function = a.function ∙ h.function;
      few = omega (arith, h.few, one);
      small = small;
    }
