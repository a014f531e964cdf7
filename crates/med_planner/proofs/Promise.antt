-- A query shows the same causes over the same rows in any order.
use Rattle.std.proofs.Common.{◌<◌, ◌^◌, ℕ, sym, subst, inl, inr}
use Rattle.std.specs.List.{Any}
use Rattle.std.proofs.lemmas.List.Sorted.{length_permutation}
use Rattle.med_value.specs.declared.cause.Cause.{Cause}
use Rattle.med_query.specs.Prelude.{IsSteady, AnswersIgnoreOrder, Query, Tables, SameRows, kept, IsTooLarge, IsShownCause}

abbrev pub AnyOrder : Type 0
AnyOrder = (q : Query) (db other : Tables) → IsSteady q → SameRows db other → AnswersIgnoreOrder q db other

-- a core is too large in whatever order its rows come
large_any : AnyOrder → (q : Query) → IsSteady q → (db other : Tables) → SameRows db other → Any (λ k. IsTooLarge k db) q.cores → Any (λ k. IsTooLarge k other) q.cores
large_any any q is db other same w =
    let as_many = length_permutation (kept w.1 db) (kept w.1 other) ((any q db other is same).kept w.1) in
    (w.0, w.1, w.2, w.3, (w.4.0, subst (λ (n : ℕ). 2 ^ 62 < n) (sym as_many) w.4.1))

pub causes_any : AnyOrder → (q : Query) → IsSteady q → (db other : Tables) → SameRows db other → (c : Cause) → IsShownCause q db c → IsShownCause q other c
causes_any any q is db other same c (inl (f, told, e)) = inl (f, (any q db other is same).told f told, e)
causes_any any q is db other same c (inr (large, e)) = inr (large_any any q is db other same large, e)
