-- A step of the loop that splits changes.
use Rattle.std.proofs.Common.{◌≡◌, ℤ, Bool, true, false, not, ◌&&◌, ◌||◌, List, [], ◌∷◌, ◌++◌, map, Some, slice_get, All, FitsSigned, w64}
use Rattle.std.proofs.Common.{string_bytes, refl, sym, ap, ◌∙◌, arith, append_assoc}
use Rattle.std.specs.List.{list_all, list_any}
use Rattle.std.specs.Ordering.{is_ge, is_le, int_cmp}
use Rattle.std.proofs.lemmas.Bool.{and_parts, and_from}
use Rattle.std.proofs.lemmas.Int.{ints}
use Rattle.std.proofs.lemmas.List.{map-append}
use Rattle.std.proofs.lemmas.List.Elements.{All-nil, All-cons}
use Rattle.std.proofs.lemmas.Str.{is_utf8-from_IsUtf8, IsUtf8-string_bytes}
use Rattle.med_value.specs.Prelude.{Whole, Tuple, datum, tuple, cell, is_missing}
use Rattle.med_value.specs.declared.value.Value.{Value}
use Rattle.med_value.specs.declared.value.Value.TheVariants.{Null, Int, Text, Bool as Truth}
use Rattle.med_value.specs.declared.value.Row.{Row}
use Rattle.fdw_api.specs.Prelude.{row_fits, Change, row_of_change_fits}
use Rattle.sqlite_tables.specs.Prelude.{Layout, kinds_in, least, greatest}
use Rattle.sqlite_writes.specs.Rewriting.{has_place}
use Rattle.sqlite_writes.specs.Kinds.{lacks_key}
use Rattle.sqlite_writes.specs.Splitting.{id_of_change, row_of_change, ids_named, keys_gone, rows_come, key_for, is_key, is_readable}
use Rattle.sqlite_writes.specs.Splitting.{is_holdable}

-- ---- a row that a program holds

in_bits : (k : ℤ) → FitsSigned w64 k → (is_ge (int_cmp k least) && is_le (int_cmp k greatest)) ≡ true
in_bits k fits = grind (arith, ints)

readable : (cells : List Value) → list_all is_readable (map datum cells) ≡ true
readable [] = refl
readable (Null ∷ cells) = readable cells
readable (Int n ∷ cells) = readable cells
readable (Truth b ∷ cells) = readable cells
readable (Text t ∷ cells) = and_from _ _ (is_utf8-from_IsUtf8 (string_bytes t) (IsUtf8-string_bytes t)) (readable cells)

pub holdable_row : (cells : List Value) (k : ℤ) → cell (map datum cells) 0 ≡ Whole k → FitsSigned w64 k
    → is_holdable (map datum cells) ≡ true
holdable_row cells k is fits = and_from _ _ (ap is_key is ∙ in_bits k fits) (readable cells)

pub first_key : (cells slice : List Value) (v : Value) (k : ℤ) → Some v ≡ slice_get slice 0 → slice ≡ cells → v ≡ Int k
    → cell (map datum cells) 0 ≡ Whole k
first_key cells [] v k is same int = absurd cc
first_key cells (w ∷ ws) v k is same int =
    let here : w ≡ Int k = cc in
    ap (λ (vs : List Value). cell (map datum vs) 0) (sym same) ∙ ap datum here

-- a row of which the first cell is a key or is NULL
pub holdable_first : (cells slice : List Value) (v : Value) → Some v ≡ slice_get slice 0 → slice ≡ cells → is_key (datum v) ≡ true
    → is_holdable (map datum cells) ≡ true
holdable_first cells [] v is same key = absurd cc
holdable_first cells (w ∷ ws) v is same key =
    let here : v ≡ w = cc in
    let first : cell (map datum cells) 0 ≡ datum v = ap (λ (vs : List Value). cell (map datum vs) 0) (sym same) ∙ ap datum (sym here) in
    and_from _ _ (ap is_key first ∙ key) (readable cells)

-- ---- the loop

pub gone_on : (done more : List ℤ) (c : Change) (cs ds : List Change) (all : List ℤ) → done ++ keys_gone cs ≡ all → cs ≡ c ∷ ds
    → more ≡ done ++ map key_for (id_of_change c) → more ++ keys_gone ds ≡ all
gone_on done more c cs ds all i is m =
    ap (λ l. l ++ keys_gone ds) m ∙ append_assoc done (map key_for (id_of_change c)) (keys_gone ds)
    ∙ ap (λ l. done ++ l) (sym (map-append key_for (id_of_change c) (ids_named ds)) ∙ same ∙ ap keys_gone (sym is)) ∙ i
  where
    same : map key_for (id_of_change c ++ ids_named ds) ≡ keys_gone (c ∷ ds)
    same = refl

pub fresh_on : (done more : List Row) (c : Change) (cs ds : List Change) (all : List Tuple) → map tuple done ++ rows_come cs ≡ all
    → cs ≡ c ∷ ds → map tuple more ≡ map tuple done ++ row_of_change c → map tuple more ++ rows_come ds ≡ all
fresh_on done more c cs ds all i is m =
    ap (λ l. l ++ rows_come ds) m ∙ append_assoc (map tuple done) (row_of_change c) (rows_come ds)
    ∙ ap (λ l. map tuple done ++ l) (ap rows_come (sym is)) ∙ i

pub one_pushed : (done more : List Row) (r : Row) (x : Tuple) → more ≡ done ++ r ∷ [] → tuple r ≡ x
    → map tuple more ≡ map tuple done ++ x ∷ []
one_pushed done more r x m is = ap (map tuple) m ∙ map-append tuple done (r ∷ []) ∙ ap (λ (t : Tuple). map tuple done ++ t ∷ []) is

pub fit_on : (l : Layout) (c : Change) (cs ds : List Change) → list_all (row_of_change_fits (kinds_in l)) cs ≡ true → cs ≡ c ∷ ds
    → (row_of_change_fits (kinds_in l) c ≡ true) × (list_all (row_of_change_fits (kinds_in l)) ds ≡ true)
fit_on l c cs ds all is = and_parts _ _ (ap (list_all (row_of_change_fits (kinds_in l))) (sym is) ∙ all)

pub keyed_on : (b : Bool) (c : Change) (cs ds : List Change) → b ≡ list_any lacks_key cs → cs ≡ c ∷ ds → lacks_key c ≡ false
    → b ≡ list_any lacks_key ds
keyed_on b c cs ds i is one = i ∙ ap (list_any lacks_key) is ∙ ap (λ x. x || list_any lacks_key ds) one

pub all_on : (p : Tuple → Bool) (xs ys : List Tuple) (x : Tuple) → list_all p xs ≡ true → ys ≡ xs ++ x ∷ [] → p x ≡ true
    → list_all p ys ≡ true
all_on p xs ys x all is one = ap (list_all p) is ∙ go xs all
  where
    go : (xs : List Tuple) → list_all p xs ≡ true → list_all p (xs ++ x ∷ []) ≡ true
    go [] h = and_from _ _ one refl
    go (y ∷ ys) h = let parts = and_parts _ _ h in and_from _ _ parts.0 (go ys parts.1)

-- a row with a key is one that no change lacks the key of
pub has_its_key : (l : Layout) (x : Tuple) → has_place l x ≡ true → is_missing (cell x 0) ≡ false
has_its_key l x h = unnot (is_missing (cell x 0)) (and_parts _ _ h).1
  where
    unnot : (b : Bool) → not b ≡ true → b ≡ false
    unnot true e = absurd cc
    unnot false e = refl

-- what is true of each tuple is true of each row
pub each_row : (l : Layout) (rows : List Row) → list_all (has_place l) (map tuple rows) ≡ true
    → All (λ r. has_place l (tuple r) ≡ true) rows
each_row l [] h = All-nil (λ (r : Row). has_place l (tuple r) ≡ true)
each_row l (r ∷ rows) h = let parts = and_parts _ _ h in All-cons (λ (q : Row). has_place l (tuple q) ≡ true) r rows parts.0
    (each_row l rows parts.1)

pub lacks : (cs : List Change) (c : Change) (ds : List Change) (b : Bool) → b ≡ list_any lacks_key cs → cs ≡ c ∷ ds → lacks_key c ≡ true
    → b ≡ true
lacks cs c ds b i is one = i ∙ ap (list_any lacks_key) is ∙ ap (λ x. x || list_any lacks_key ds) one

-- a row of a table's types that was found to have a key, or none
pub place_by : (l : Layout) (x : Tuple) (found : Bool) → row_fits (kinds_in l) x ≡ true → found ≡ not (is_missing (cell x 0))
    → found ≡ true → has_place l x ≡ true
place_by l x found fits is has = and_from _ _ fits (sym is ∙ has)

pub missing_by : (x : Tuple) (found : Bool) → found ≡ not (is_missing (cell x 0)) → found ≡ false → is_missing (cell x 0) ≡ true
missing_by x found is lacking = unnot (is_missing (cell x 0)) (sym is ∙ lacking)
  where
    unnot : (b : Bool) → not b ≡ false → b ≡ true
    unnot true e = refl
    unnot false e = absurd cc
