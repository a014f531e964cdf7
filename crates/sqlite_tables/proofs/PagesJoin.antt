-- Pages: the rows of a key range are those of its first page, and after a full page those of the keys after it.
use Rattle.std.proofs.Common.{◌≡◌, ℕ, ℤ, pos, zero, suc, ◌+ℤ◌, ◌≤◌, ◌≤ℤ◌, ◌<ℤ◌, Bool, true, false, cond, ◌&&◌, if◌then◌else◌, nat_eq}
use Rattle.std.proofs.Common.{List, [], ◌∷◌, ◌++◌, map, filter, take, drop, length, IsTrue, append-nil, FitsSigned, w64, refl, ap, sym}
use Rattle.std.proofs.Common.{◌∙◌, arith}
use Rattle.std.proofs.lemmas.Int.{ints}
use Rattle.std.proofs.lemmas.List.{take-map, take-append-drop, length-take}
use Rattle.std.specs.declared.cmp.Ordering.{Ordering}
use Rattle.std.specs.declared.cmp.Ordering.TheVariants.{Less, Equal, Greater}
use Rattle.std.specs.Ordering.{is_ge, is_le, int_cmp, MatchOrdering}
use Rattle.std.specs.Cmp.{int_ranks}
use Rattle.std.specs.List.{AllByRecursion}
use Rattle.sqlite.specs.declared.types.Value.{Value}
use Rattle.sqlite.specs.declared.types.Value.TheVariants.{Null, Int, Real, Text, Blob}
use Rattle.sqlite.specs.Order.{Row as SqlRow, value_cmp}
use Rattle.sqlite.specs.Edit.{id_in}
use Rattle.sqlite.specs.Tree.{rowid, IsTable}
use Rattle.sqlite.specs.View.{IsShaped, is_int}
use Rattle.sqlite_trees.specs.declared.store.Shape.TheVariants as shape
use Rattle.sqlite_trees.proofs.ListLemmas.{filter-filter, filter_all, all-filter}
use Rattle.sqlite_catalog.proofs.LayoutLemmas.{ascending_filter}
use Rattle.sqlite_value.proofs.OrderLemmas.{value_cmp-Int}
use Rattle.sqlite_looks.specs.Pages.{in_range, key_of, range_of, paged}
use Rattle.sqlite_tables.specs.Layouts.{Layout, places}
use Rattle.sqlite_tables.specs.Cells.{least, greatest}
use Rattle.sqlite_tables.specs.Tables.{behind, rest_of}

-- the keys from a low to a high one
abbrev pub between : ℤ → ℤ → ℤ → Bool
between low high k = is_ge (int_cmp k low) && is_le (int_cmp k high)

pub key_fits : (k : ℤ) → between least greatest k ≡ true → FitsSigned w64 k
key_fits k e =
    let low : least ≤ℤ k = grind (arith, ints) in
    let high : k ≤ℤ greatest = grind (arith, ints) in
    omega (arith, ints)

less_in : (o : Ordering) (P Q R : Type 0) → MatchOrdering o P Q R → o ≡ Less → P
less_in Less P Q R m e = m
less_in Equal P Q R m e = absurd cc
less_in Greater P Q R m e = absurd cc

-- a lower rowid is a lower key
pub lower : (a b : Value) → IsTrue (is_int a) → IsTrue (is_int b) → value_cmp a b ≡ Less → id_in a <ℤ id_in b
lower (Int n) (Int m) h k e = less_in (int_cmp n m) _ _ _ (int_ranks n m) (sym (value_cmp-Int n m) ∙ e)
lower (Int n) Null h k e = absurd (cc)
lower (Int n) (Real x) h k e = absurd (cc)
lower (Int n) (Text t) h k e = absurd (cc)
lower (Int n) (Blob x) h k e = absurd (cc)
lower Null b h k e = absurd (cc)
lower (Real x) b h k e = absurd (cc)
lower (Text t) b h k e = absurd (cc)
lower (Blob x) b h k e = absurd (cc)

within : (low high k : ℤ) → low ≤ℤ k → k ≤ℤ high → between low high k ≡ true
within low high k p q = grind (arith, ints)

at_most : (low high k : ℤ) → between low high k ≡ true → k ≤ℤ high
at_most low high k e = grind (arith, ints)

at_least : (low high k : ℤ) → between low high k ≡ true → low ≤ℤ k
at_least low high k e = grind (arith, ints)

below_low : (low high k : ℤ) → k <ℤ low → between low high k ≡ false
below_low low high k p = grind (arith, ints)

narrower : (low m high k : ℤ) → low ≤ℤ m → between m high k ≡ true → between low high k ≡ true
narrower low m high k p e = grind (arith, ints)

one_up : (k m : ℤ) → (k +ℤ pos 1) ≤ℤ m → k <ℤ m
one_up k m p = omega (arith, ints)

up_one : (k m : ℤ) → k <ℤ m → (k +ℤ pos 1) ≤ℤ m
up_one k m p = omega (arith, ints)

chain : (low k m : ℤ) → low ≤ℤ k → (k +ℤ pos 1) ≤ℤ m → low ≤ℤ m
chain low k m p q = omega (arith, ints)

same_low : (low : ℤ) → low ≤ℤ low
same_low low = omega (arith, ints)

abbrev pub Ints : List SqlRow → Type 0
Ints = AllByRecursion (λ r. IsTrue (is_int (rowid r)))

abbrev pub Inside : ℤ → ℤ → List SqlRow → Type 0
Inside low high = AllByRecursion (λ r. in_range low high r ≡ true)

module _ (high : ℤ) where
  -- the rows after a row are in the range after its key
  after : (low : ℤ) (r : SqlRow) (es : List SqlRow) → IsTrue (is_int (rowid r))
      → AllByRecursion (λ e. value_cmp (rowid r) (rowid e) ≡ Less) es
      → Ints es → Inside low high es → Inside (key_of r +ℤ pos 1) high es
  after low r [] h up ints_are inside = tt
  after low r (e ∷ es) h up ints_are inside = (
    within (key_of r +ℤ pos 1) high (key_of e) (up_one (key_of r) (key_of e) (lower (rowid r) (rowid e) h ints_are.0 up.0))
        (at_most low high (key_of e) inside.0),
    after low r es h up.1 ints_are.1 inside.1,
  )

  pub inside_filter : (low : ℤ) (es : List SqlRow) → Inside low high (filter (in_range low high) es)
  inside_filter low [] = tt
  inside_filter low (r ∷ es) = go (inside_filter low es) (in_range low high r) refl
    where
      go : Inside low high (filter (in_range low high) es) → (b : Bool) → in_range low high r ≡ b
          → Inside low high (cond b (r ∷ filter (in_range low high) es) (filter (in_range low high) es))
      go more true e = (e, more)
      go more false e = more

module _ (l : Layout) (high : ℤ) where
  abbrev seen : List SqlRow → List SqlRow
  seen = map (paged (places l))

  rises : (low : ℤ) (n : ℕ) (es : List SqlRow) → Inside low high es → IsTable es → Ints es → low ≤ℤ behind low (seen (take n es))
  rises low zero es inside up ints_are = same_low low
  rises low (suc n) [] inside up ints_are = same_low low
  rises low (suc n) (r ∷ es) inside up ints_are =
      chain low (key_of r) _ (at_least low high (key_of r) inside.0)
      (rises (key_of r +ℤ pos 1) n es (after high low r es ints_are.0 up.0 ints_are.1 inside.1) up.1 ints_are.1)

  drops : (low : ℤ) (n : ℕ) (es : List SqlRow) → Inside low high es → IsTable es → Ints es
      → filter (in_range (behind low (seen (take n es))) high) es ≡ drop n es
  drops low zero es inside up ints_are = filter_all (in_range low high) es inside
  drops low (suc n) [] inside up ints_are = refl
  drops low (suc n) (r ∷ es) inside up ints_are =
      let inner = after high low r es ints_are.0 up.0 ints_are.1 inside.1 in
      let m = behind (key_of r +ℤ pos 1) (seen (take n es)) in
      let out : in_range m high r ≡ false =
      below_low m high (key_of r) (one_up (key_of r) m (rises (key_of r +ℤ pos 1) n es inner up.1 ints_are.1)) in
      rw out (drops (key_of r +ℤ pos 1) n es inner up.1 ints_are.1)

  -- the rows after the first n are those of the keys after them
  pub behind_page : (low : ℤ) (n : ℕ) (entries : List SqlRow) → IsShaped shape.Table entries
      → range_of (places l) (behind low (take n (range_of (places l) low high entries))) high entries ≡ drop n
      (range_of (places l) low high entries)
  behind_page low n entries shaped =
      let es = filter (in_range low high) entries in
      let inside = inside_filter high low entries in
      let up = ascending_filter _ (in_range low high) entries shaped.0 in
      let ints_are = all-filter (λ r. IsTrue (is_int (rowid r))) (in_range low high) entries shaped.1 in
      let m = behind low (seen (take n es)) in
      let first : take n (range_of (places l) low high entries) ≡ seen (take n es) = take-map (paged (places l)) n es in
      let wider = filter-filter (in_range m high) (in_range low high)
      (λ r e. narrower low m high (key_of r) (rises low n es inside up ints_are) e) entries in
      ap (λ (p : List SqlRow). range_of (places l) (behind low p) high entries) first
      ∙ ap (map (paged (places l))) (sym wider ∙ drops low n es inside up ints_are) ∙ drop_map n es
    where
      drop_map : (n : ℕ) (es : List SqlRow) → seen (drop n es) ≡ drop n (seen es)
      drop_map zero es = refl
      drop_map (suc n) [] = refl
      drop_map (suc n) (e ∷ es) = drop_map n es

take_short : (n : ℕ) (xs : List SqlRow) → length xs ≤ n → take n xs ≡ xs
take_short zero [] h = refl
take_short zero (x ∷ xs) h = absurd (omega arith)
take_short (suc n) [] h = refl
take_short (suc n) (x ∷ xs) h = ap (λ (l : List SqlRow). x ∷ l) (take_short n xs (omega arith))

short_page : (xs : List SqlRow) → nat_eq (length (take 64 xs)) 64 ≡ false → take 64 xs ≡ xs
short_page xs short = take_short 64 xs (let n = length-take 64 xs in grind arith)

-- the theorem of pages
pub pages_join : (l : Layout) (low high : ℤ) (entries page : List SqlRow) → IsShaped shape.Table entries
    → page ≡ take 64 (range_of (places l) low high entries)
    → range_of (places l) low high entries ≡ page ++ rest_of l low high entries page
pages_join l low high entries page shaped is =
    let rows = range_of (places l) low high entries in
    rw is (go rows (behind_page l high low 64 entries shaped) (nat_eq (length (take 64 rows)) 64) refl)
  where
    go : (xs : List SqlRow) → range_of (places l) (behind low (take 64 xs)) high entries ≡ drop 64 xs → (b : Bool)
        → nat_eq (length (take 64 xs)) 64 ≡ b
        → xs ≡ take 64 xs ++ (if b then range_of (places l) (behind low (take 64 xs)) high entries else [])
    go xs on true e = rw on (sym (take-append-drop 64 xs))
    go xs on false e = sym (append-nil (take 64 xs) ∙ short_page xs e)
