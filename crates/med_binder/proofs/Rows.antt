-- The tables of a catalogue by their names, and as they are seen by entries.
use Rattle.std.proofs.Common.{◌≡◌, ◌<◌, length, arith, ℕ, Bool, true, false, cond, List, [], ◌∷◌, ◌++◌, Option, Some, None, zero, suc, slice_get, subst, map, find, unwrap_or, bytes_eq, if◌then◌else◌, refl, sym, ap, ◌∙◌}
use Rattle.std.proofs.lemmas.List.{map-append}
use Rattle.bind_names.proofs.Added.{added_after}
use Rattle.std.specs.Option.{option_map, is_some}
use Rattle.std.specs.List.{IsDistinct, AllByRecursion}
use Rattle.std.proofs.lemmas.Bool.{false≢true}
use Rattle.std.proofs.lemmas.Slice.Eq.{bytes_eq-Decides}
use Rattle.std.proofs.lemmas.Option.{same_Some}
use Rattle.med_value.specs.declared.cause.Cause.TheVariants.{UndefinedTable}
use Rattle.med_syntax.specs.Prelude.{Name, EntryTree}
use Rattle.bind_names.specs.Prelude.{TableShape, place_from, entry_columns, entry_causes}
use Rattle.med_catalog.specs.Objects.{TableObject, Objects, table_named}
use Rattle.med_binder.specs.Tables.{shape_of, shapes}
use Rattle.med_binder.specs.Place.{Place}
use Rattle.med_binder.specs.Places.{Attached, IsPlaceOf, ArePlaces}
use Rattle.med_binder.proofs.Found.{named_found, known_found, is_called, place_up}

turned : (xs ys : Name) (a b : Bool) → bytes_eq xs ys ≡ a → bytes_eq ys xs ≡ b → a ≡ b
turned xs ys true true h k = refl
turned xs ys false false h k = refl
turned xs ys true false h k = sym ((bytes_eq-Decides ys xs).1 (sym ((bytes_eq-Decides xs ys).0 h))) ∙ k
turned xs ys false true h k = sym (sym ((bytes_eq-Decides xs ys).1 (sym ((bytes_eq-Decides ys xs).0 k))) ∙ h)

pub equal_turned : (xs ys : Name) → bytes_eq xs ys ≡ bytes_eq ys xs
equal_turned xs ys = turned xs ys (bytes_eq xs ys) (bytes_eq ys xs) refl refl

shape_by : (b : Bool) (t : TableObject) (r : Option TableObject) (s : Option TableShape) → s ≡ option_map shape_of r → cond b (Some (shape_of t)) s ≡ option_map shape_of (cond b (Some t) r)
shape_by true t r s e = refl
shape_by false t r s e = e

shapes_found : (ts : List TableObject) (n : Name) → find (is_called n) (map shape_of ts) ≡ option_map shape_of (find (λ (t : TableObject). bytes_eq n t.name) ts)
shapes_found [] n = refl
shapes_found (t ∷ ts) n =
    ap (λ b. cond b (Some (shape_of t)) (find (is_called n) (map shape_of ts))) (equal_turned t.name n)
    ∙ shape_by (bytes_eq n t.name) t (find (λ (t : TableObject). bytes_eq n t.name) ts) (find (is_called n) (map shape_of ts)) (shapes_found ts n)

causes_found : (o : Objects) (e : EntryTree) → entry_causes (shapes o) e ≡ (if is_some (option_map shape_of (table_named o e.table)) then [] else UndefinedTable ∷ [])
causes_found o e =
    ap (λ (b : Bool). if b then [] else UndefinedTable ∷ []) (known_found 0 (shapes o) e.table ∙ ap is_some (shapes_found o.tables e.table))

pub causes_missing : (o : Objects) (e : EntryTree) → table_named o e.table ≡ None → entry_causes (shapes o) e ≡ UndefinedTable ∷ []
causes_missing o e h = causes_found o e ∙ ap (λ r. if is_some (option_map shape_of r) then [] else UndefinedTable ∷ []) h

pub causes_there : (o : Objects) (e : EntryTree) (t : TableObject) → table_named o e.table ≡ Some t → entry_causes (shapes o) e ≡ []
causes_there o e t h = causes_found o e ∙ ap (λ r. if is_some (option_map shape_of r) then [] else UndefinedTable ∷ []) h

pub columns_there : (o : Objects) (e : EntryTree) (t : TableObject) → table_named o e.table ≡ Some t → entry_columns (shapes o) e ≡ t.columns
columns_there o e t h =
    ap (λ r. unwrap_or (option_map (λ (t : TableShape). t.columns) r) [])
    (named_found (shapes o) e.table ∙ shapes_found o.tables e.table ∙ ap (option_map shape_of) h)

-- ---- places

first_by : (b : Bool) (at : ℕ) (p r : Option ℕ) → b ≡ false → p ≡ r → (if b then Some at else p) ≡ r
first_by true at p r e h = absurd (false≢true (sym e))
first_by false at p r e h = h

-- a name is not one that stands behind another, where each stands once
apart : (n : Name) (ts : List TableObject) (k : ℕ) (t : TableObject) → AllByRecursion (λ m. bytes_eq n m ≡ false) (map (λ (x : TableObject). x.name) ts) → slice_get ts k ≡ Some t → bytes_eq n t.name ≡ false
apart n [] k t h at = absurd cc
apart n (x ∷ xs) zero t h at = subst (λ (y : TableObject). bytes_eq n y.name ≡ false) (same_Some x t at) h.0
apart n (x ∷ xs) (suc k) t h at = apart n xs k t h.1 at

-- a table's place is the first of its name, where each name stands once
pub place_found : (ts : List TableObject) (n : Name) (k : ℕ) (t : TableObject) → IsDistinct bytes_eq (map (λ (x : TableObject). x.name) ts) → slice_get ts k ≡ Some t → t.name ≡ n → place_from 0 (map shape_of ts) n ≡ Some k
unfolding IsDistinct
place_found [] n k t h at is = absurd cc
place_found (x ∷ xs) n zero t h at is =
    let same : bytes_eq x.name n ≡ true = (bytes_eq-Decides x.name n).1 (ap (λ (y : TableObject). y.name) (same_Some x t at) ∙ is) in
    ap (λ (b : Bool). if b then Some 0 else place_from 1 (map shape_of xs) n) same
place_found (x ∷ xs) n (suc k) t h at is =
    let other : bytes_eq x.name n ≡ false = ap (bytes_eq x.name) (sym is) ∙ apart x.name xs k t h.0 at in
    first_by (bytes_eq x.name n) 0 (place_from 1 (map shape_of xs) n) (Some (suc k)) other
    (place_up 0 (map shape_of xs) n ∙ ap (option_map (λ (j : ℕ). suc j)) (place_found xs n k t h.1 at is))

-- ---- more entries, each in its place

pub places_more : (bound : List Attached) (ks : List ℕ) (ps : List Place) (k : ℕ) (p : Place) → ArePlaces bound ks ps → IsPlaceOf bound k p → ArePlaces bound (ks ++ k ∷ []) (ps ++ p ∷ [])
places_more bound [] [] k p h i = (i, tt)
places_more bound [] (q ∷ qs) k p h i = absurd h
places_more bound (j ∷ js) [] k p h i = absurd h
places_more bound (j ∷ js) (q ∷ qs) k p h i = (h.0, places_more bound js qs k p h.1 i)

pub within_by : {X : Type 0} (xs : List X) (k : ℕ) (x : X) → slice_get xs k ≡ Some x → k < length xs
within_by [] k x at = absurd cc
within_by (y ∷ ys) zero x at = omega arith
within_by (y ∷ ys) (suc k) x at = let r : k < length ys = within_by ys k x at in omega arith

-- ---- one more is made of the next

pub mapped_next : {X Y Z : Type 0} (f : X → Z) (g : Y → Z) (old new : List X) (x : X) (all rest more : List Y) (y : Y) → new ≡ old ++ x ∷ [] → rest ≡ y ∷ more → f x ≡ g y → map f old ++ map g rest ≡ map g all → map f new ++ map g more ≡ map g all
mapped_next {Y = Y} f g old new x all rest more y e r h i =
    added_after _ (map f old) (map f new) (g y ∷ []) (map g more) (ap (λ (ys : List Y). map f old ++ map g ys) (sym r) ∙ i)
    (ap (map f) e ∙ map-append f old (x ∷ []) ∙ ap (λ z. map f old ++ z ∷ []) h)
