-- The rows of a table are in the order of their keys, and the first n of them come.
use Rattle.std.proofs.Common.{
  ◌≡◌,
  ℕ,
  ℤ,
  ◌+◌,
  ◌-◌,
  ◌<ℤ◌,
  Bool,
  true,
  false,
  not,
  nat_eq,
  List,
  [],
  ◌∷◌,
  map,
  filter,
  take,
  Option,
  Some,
  None,
  option_map,
  zero,
  suc,
  IsTrue,
  IsSorted,
  refl,
  ap,
  sym,
  ◌∙◌,
  arith,
}
use Rattle.std.proofs.lemmas.Int.{ints}
use Rattle.std.specs.declared.cmp.Ordering.{Ordering}
use Rattle.std.specs.declared.cmp.Ordering.TheVariants.{Less, Equal, Greater}
use Rattle.std.specs.Ordering.{is_lt, int_cmp, ordering_then}
use Rattle.std.specs.List.{AllByRecursion}
use Rattle.std.proofs.lemmas.Bool.{and_parts, not-true}
use Rattle.sqlite.specs.Order.{Row as SqlRow, value_cmp}
use Rattle.sqlite.specs.Tree.{rowid, IsTable}
use Rattle.sqlite.specs.View.{IsShaped, is_int}
use Rattle.sqlite_trees.specs.declared.store.Shape.TheVariants as shape
use Rattle.sqlite_trees.specs.Tree.{IsAscending}
use Rattle.sqlite_trees.proofs.ListLemmas.{all-filter, ascending-filter, ascending-get_or}
use Rattle.sqlite_tables.specs.Prelude.{in_range, key_of, range_of, paged, places, Layout, row_in, page_cells}
use Rattle.med_value.specs.Prelude.{Datum, cell, key_cmp}
use Rattle.fdw_api.specs.Scan.{KeyForm, TableRow, first_of, row_cmp}
use Rattle.sqlite_tables.proofs.PagesJoin.{Ints, lower}
use Rattle.sqlite_wrapper.specs.Boxes.{is_by_key}
use Rattle.sqlite_wrapper.proofs.Keys.{HasKeyFirst, key_cell, keys_rise}
use Rattle.sqlite_wrapper.specs.Pages.{is_spent}

-- ---- the first n

-- the first n of what is shown are the first n, shown
pub first_map : {X Y : Type 0} (f : X → Y) (limit : Option ℕ) (xs : List X) → first_of limit (map f xs) ≡ map f (first_of limit xs)
first_map {X} {Y} f None xs = refl
first_map {X} {Y} f (Some n) xs = taken n xs
  where
    taken : (n : ℕ) (xs : List X) → take n (map f xs) ≡ map f (take n xs)
    taken zero xs = refl
    taken (suc n) [] = refl
    taken (suc n) (x ∷ xs) = ap (λ (l : List Y). f x ∷ l) (taken n xs)

-- none of none
pub first_none : {X : Type 0} (room : Option ℕ) → first_of {X = X} room [] ≡ []
first_none None = refl
first_none (Some zero) = refl
first_none (Some (suc n)) = refl

-- where no more may come none does
pub first_spent : {X : Type 0} (room : Option ℕ) (xs : List X) → is_spent room ≡ true → first_of room xs ≡ []
first_spent None xs e = absurd cc
first_spent (Some zero) xs e = refl
first_spent (Some (suc n)) xs e = absurd (grind arith)

-- where one more may come the first does, and after it one less may
pub first_more : {X : Type 0} (room : Option ℕ) (x : X) (xs : List X) → is_spent room ≡ false
    → first_of room (x ∷ xs) ≡ x ∷ first_of (option_map (λ n. n - 1) room) xs
first_more None x xs e = refl
first_more (Some zero) x xs e = absurd cc
first_more {X} (Some (suc n)) x xs e = let less : suc n - 1 ≡ n = omega arith in ap (λ (k : ℕ). x ∷ take k xs) (sym less)

-- ---- the order of keys

is_first : (n : ℕ) → nat_eq n 0 ≡ true → n ≡ 0
is_first zero e = refl
is_first (suc n) e = absurd (grind arith)

or_equal : (o : Ordering) → is_lt o ≡ false → is_lt (ordering_then o Equal) ≡ false
or_equal Less e = e
or_equal Equal e = refl
or_equal Greater e = refl

-- a cell of a row that a page shows
abbrev cell_in : Layout → SqlRow → ℕ → Datum
cell_in l r n = cell (page_cells l (paged (places l) r)) n

-- a row of a greater key does not come before one of a lower key
behind : (l : Layout) → HasKeyFirst l → (order : List KeyForm) → is_by_key order ≡ true → (a b : SqlRow)
    → IsTrue (is_int (rowid a)) → IsTrue (is_int (rowid b)) → key_of a <ℤ key_of b
    → is_lt (row_cmp order (row_in l (paged (places l) b)) (row_in l (paged (places l) a))) ≡ false
behind l first [] by a b ha hb less = refl
behind l first (k ∷ []) by a b ha hb less =
    let w = and_parts (nat_eq k.column 0) (not k.descending) by in
    let here : k.column ≡ 0 = is_first k.column w.0 in
    or_equal (key_cmp k.descending k.nulls_first (cell_in l b k.column) (cell_in l a k.column))
    (keys_rise k.descending k.nulls_first (cell_in l b k.column) (cell_in l a k.column) (key_of a) (key_of b) (not-true k.descending w.1)
    (ap (cell_in l b) here ∙ key_cell l first b hb) (ap (cell_in l a) here ∙ key_cell l first a ha) less)
behind l first (k ∷ j ∷ ks) by a b ha hb less = absurd cc

module _ (l : Layout) (first : HasKeyFirst l) (order : List KeyForm) (by : is_by_key order ≡ true) where
  abbrev NotBefore : TableRow → TableRow → Type 0
  NotBefore x y = is_lt (row_cmp order y x) ≡ false

  all_behind : (e : SqlRow) (es : List SqlRow) → IsTrue (is_int (rowid e)) → AllByRecursion (λ x. value_cmp (rowid e) (rowid x) ≡ Less) es
      → Ints es
      → AllByRecursion (NotBefore (row_in l (paged (places l) e))) (map (row_in l) (map (paged (places l)) es))
  all_behind e [] h up ints_are = tt
  all_behind e (x ∷ es) h up ints_are = (
    behind l first order by e x h ints_are.0 (lower (rowid e) (rowid x) h ints_are.0 up.0),
    all_behind e es h up.1 ints_are.1,
  )

  rise : (es : List SqlRow) → IsTable es → Ints es → IsAscending NotBefore (map (row_in l) (map (paged (places l)) es))
  rise [] up ints_are = tt
  rise (e ∷ es) up ints_are = (all_behind e es ints_are.0 up.0 ints_are.1, rise es up.1 ints_are.1)

  -- the rows of a key range are in the order
  pub rows_rise : (low high : ℤ) (entries : List SqlRow) → IsShaped shape.Table entries
      → IsSorted (row_cmp order) (map (row_in l) (range_of (places l) low high entries))
  rows_rise low high entries shaped k d from within =
      ascending-get_or NotBefore (map (row_in l) (range_of (places l) low high entries)) k (k + 1) d
      (rise (filter (in_range low high) entries) (ascending-filter _ (in_range low high) entries shaped.0)
      (all-filter (λ r. IsTrue (is_int (rowid r))) (in_range low high) entries shaped.1))
      (omega arith) within
