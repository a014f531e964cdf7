-- No two rows of a table have one id.
use Rattle.std.proofs.Common.{◌≡◌, ℕ, ℤ, ◌<ℤ◌, Bool, true, false, nat_eq, List, [], ◌∷◌, map, filter, IsTrue, FitsSigned, w64, to_z, refl}
use Rattle.std.proofs.Common.{ap, sym, ◌∙◌, arith}
use Rattle.std.proofs.lemmas.Int.{ints, to_z-of_z}
use Rattle.std.specs.List.{AllByRecursion, IsDistinct}
use Rattle.std.specs.declared.cmp.Ordering.TheVariants.{Less}
use Rattle.sqlite.specs.Order.{Row as SqlRow, value_cmp}
use Rattle.sqlite.specs.Tree.{rowid, IsTable}
use Rattle.sqlite.specs.View.{IsShaped, is_int}
use Rattle.sqlite_trees.specs.declared.store.Shape.TheVariants as shape
use Rattle.sqlite_trees.proofs.ListLemmas.{all-filter}
use Rattle.sqlite_catalog.proofs.LayoutLemmas.{ascending_filter}
use Rattle.sqlite_looks.specs.Pages.{in_range, key_of, paged}
use Rattle.sqlite_tables.specs.Layouts.{Layout, places}
use Rattle.sqlite_tables.specs.Cells.{id_of, row_in, rows_in, least, greatest}
use Rattle.sqlite_tables.proofs.PagesJoin.{Inside, Ints, key_fits, lower, inside_filter}

one_key : (a b : ℤ) → FitsSigned w64 a → FitsSigned w64 b → id_of a ≡ id_of b → a ≡ b
one_key a b fa fb e = sym (to_z-of_z w64 a fa) ∙ ap (to_z w64) e ∙ to_z-of_z w64 b fb

apart : (a b : ℤ) → FitsSigned w64 a → FitsSigned w64 b → a <ℤ b → nat_eq (id_of a) (id_of b) ≡ false
apart a b fa fb lt = go (id_of a) (id_of b) (nat_eq (id_of a) (id_of b)) refl
    (λ e. let t = one_key a b fa fb e in omega (arith, ints, lt, t))
  where
    go : (m n : ℕ) (c : Bool) → nat_eq m n ≡ c → (m ≡ n → ⊥) → nat_eq m n ≡ false
    go m n false e differ = e
    go m n true e differ = absurd (differ (grind arith))

module _ (l : Layout) where
  others : (r : SqlRow) (es : List SqlRow) → in_range least greatest r ≡ true → IsTrue (is_int (rowid r))
      → AllByRecursion (λ e. value_cmp (rowid r) (rowid e) ≡ Less) es
      → Inside least greatest es → Ints es
      → AllByRecursion (λ y. nat_eq (id_of (key_of r)) y ≡ false) (map (λ x. x.id) (map (row_in l) (map (paged (places l)) es)))
  others r [] at is up inside ints_are = tt
  others r (e ∷ es) at is up inside ints_are = (
    apart (key_of r) (key_of e) (key_fits (key_of r) at) (key_fits (key_of e) inside.0) (lower (rowid r) (rowid e) is ints_are.0 up.0),
    others r es at is up.1 inside.1 ints_are.1,
  )

  each_once : (es : List SqlRow) → Inside least greatest es → IsTable es → Ints es
      → IsDistinct nat_eq (map (λ x. x.id) (map (row_in l) (map (paged (places l)) es)))
  unfolding IsDistinct
  each_once [] inside up ints_are = tt
  each_once (r ∷ es) inside up ints_are = (others r es inside.0 ints_are.0 up.0 inside.1 ints_are.1, each_once es inside.1 up.1 ints_are.1)

  pub no_rows_once : IsDistinct nat_eq (map (λ x. x.id) (rows_in l []))
  unfolding IsDistinct
  no_rows_once = tt

  pub ids_once : (entries : List SqlRow) → IsShaped shape.Table entries → IsDistinct nat_eq (map (λ x. x.id) (rows_in l entries))
  ids_once entries shaped =
      each_once (filter (in_range least greatest) entries) (inside_filter greatest least entries)
      (ascending_filter _ (in_range least greatest) entries shaped.0)
      (all-filter (λ r. IsTrue (is_int (rowid r))) (in_range least greatest) entries shaped.1)
