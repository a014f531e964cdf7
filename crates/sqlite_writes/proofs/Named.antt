-- A change that is the first to name its row keeps the rows named once.
use Rattle.std.proofs.Common.{◌≡◌, ℕ, true, false, not, nat_eq, List, [], ◌∷◌, ◌++◌, sym, ◌∙◌, subst, append-nil, IsPermutation}
use Rattle.std.specs.List.{AllByRecursion, IsDistinct}
use Rattle.std.proofs.lemmas.Bool.{or_parts, not-true}
use Rattle.std.proofs.lemmas.Grind.{flat_map-append}
use Rattle.std.proofs.lemmas.List.Sorted.{IsPermutation-middle, IsPermutation-sym}
use Rattle.std.proofs.lemmas.Map.Keys.{IsDistinct-cons, IsDistinct-IsPermutation}
use Rattle.fdw_api.specs.Prelude.{Change, Inserts, Updates, Deletes, is_first}
use Rattle.sqlite_writes.specs.Splitting.{id_of_change, ids_named, IsNamedOnce}
use Rattle.sqlite_writes.proofs.Woven.{named, turned}

apart : (changes : List Change) (j : ℕ) → named changes j ≡ false → AllByRecursion (λ k. nat_eq j k ≡ false) (ids_named changes)
apart [] j h = tt
apart (Inserts x ∷ cs) j h = apart cs j h
apart (Updates k x ∷ cs) j h = ((or_parts _ _ h).0, apart cs j (or_parts _ _ h).1)
apart (Deletes k ∷ cs) j h = ((or_parts _ _ h).0, apart cs j (or_parts _ _ h).1)

one_more : (cs : List Change) (j : ℕ) → IsNamedOnce cs → not (named cs j) ≡ true → IsDistinct nat_eq (ids_named cs ++ j ∷ [])
one_more cs j once first =
    let front : IsPermutation (j ∷ ids_named cs) (ids_named cs ++ j ∷ []) =
    IsPermutation-sym _ _ (subst (λ l. IsPermutation (ids_named cs ++ j ∷ []) (j ∷ l)) (append-nil (ids_named cs)) (IsPermutation-middle
    (ids_named cs) j [])) in
    IsDistinct-IsPermutation nat_eq turned _ _ front (IsDistinct-cons nat_eq j (ids_named cs) (apart cs j (not-true _ first)) once)

pub once_more : (cs : List Change) (c : Change) → IsNamedOnce cs → is_first cs c ≡ true → IsNamedOnce (cs ++ c ∷ [])
once_more cs (Inserts x) once first = subst (IsDistinct nat_eq) (sym (flat_map-append id_of_change cs (Inserts x ∷ [])
    ∙ append-nil (ids_named cs))) once
once_more cs (Updates j x) once first = subst (IsDistinct nat_eq) (sym (flat_map-append id_of_change cs (Updates j x ∷ [])))
    (one_more cs j once first)
once_more cs (Deletes j) once first = subst (IsDistinct nat_eq) (sym (flat_map-append id_of_change cs (Deletes j ∷ [])))
    (one_more cs j once first)

pub none_named : IsNamedOnce []
unfolding IsDistinct
none_named = tt
