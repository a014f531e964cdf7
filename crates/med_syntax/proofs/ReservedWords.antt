-- The test of a word against the reserved words.
use Rattle.std.proofs.Common.{◌≡◌, ℕ, List, Decides, Contains, subst, refl}
use Rattle.std.specs.List.{list_any, slice_index_or}
use Rattle.std.specs.Str.{bytes_eq}
use Rattle.std.proofs.lemmas.List.Folds.{Any-from_list_any, list_any-from_Any}
use Rattle.std.proofs.lemmas.Slice.Eq.{bytes_eq-Decides}
use Rattle.med_syntax.specs.Words.{reserved, is_reserved}

member : (ws : List (List ℕ)) (w : List ℕ) → Decides (list_any (λ r. bytes_eq r w) ws) (Contains ws w)
member ws w = (
  (λ h. let a = Any-from_list_any (λ r. bytes_eq r w) ws h in
      (a.0, a.2, subst (λ y. slice_index_or ws a.0 y ≡ y) ((bytes_eq-Decides a.1 w).0 a.4) a.3)),
  (λ h. list_any-from_Any (λ r. bytes_eq r w) ws (h.0, w, h.1, h.2, (bytes_eq-Decides w w).1 refl)),
)

pub is_reserved-Decides : (w : List ℕ) → Decides (is_reserved w) (Contains reserved w)
unfolding is_reserved
is_reserved-Decides w = member reserved w
