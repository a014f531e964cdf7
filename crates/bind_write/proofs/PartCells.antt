-- What is written to each column, one column after the other.
use Rattle.std.proofs.Common.{◌≡◌, ◌<◌, ◌≤◌, ◌+◌, ℕ, zero, suc, List, [], ◌∷◌, ◌++◌, length, map, drop, get_or, Option, Some, None, Result, Ok, Err, option_map, slice_get, refl, sym, ap, ◌∙◌, subst, append_assoc, add-one, arith}
use Rattle.std.proofs.lemmas.List.{length-map, append-nil, drop_all}
use Rattle.std.proofs.lemmas.Option.{slice_get-map, slice_get-get_or}
use Rattle.med_value.specs.Column.{Column, column_of}
use Rattle.med_value.specs.declared.value.ColType.{ColType}
use Rattle.med_value.specs.declared.value.ColumnDef.{ColumnDef}
use Rattle.med_syntax.specs.Tree.{Name}
use Rattle.med_value.specs.declared.cause.Cause.{Cause}
use Rattle.bind_names.specs.Telling.{Passes}
use Rattle.bind_names.proofs.Causes.{none_of_two, tells_right}
use Rattle.bind_names.proofs.Parts.{drop_read}
use Rattle.bind_write.specs.Meaning.{name_place, places_in_turn, places_meant}
use Rattle.bind_write.specs.Typing.{column_causes, cells_causes, type_at}

drop_got : {X : Type 0} (xs : List X) (i : ℕ) (x : X) → slice_get xs i ≡ Some x → drop i xs ≡ x ∷ drop (suc i) xs
drop_got [] i x h = absurd cc
drop_got (y ∷ ys) zero x h = ap (λ z. z ∷ ys) (some_is y x h)
  where
    some_is : {X : Type 0} (y x : X) → Some y ≡ Some x → y ≡ x
    some_is y x e = cc
drop_got (y ∷ ys) (suc i) x h = drop_got ys i x h

pub cells_step : (cs : List ColumnDef) (gs : List (Option (Option ColType))) (i : ℕ) (x : ColumnDef) (g : Option (Option ColType)) → i < length cs → x ≡ get_or cs i x → slice_get gs i ≡ Some g
    → cells_causes (map column_of (drop i cs)) (drop i gs) ≡ column_causes (column_of x) g ++ cells_causes (map column_of (drop (i + 1) cs)) (drop (suc i) gs)
cells_step cs gs i x g lt is got = rw (drop_read cs i x lt is, drop_got gs i g got) refl

-- what is written to the column in a place is of the type of the value that goes there
pub placed_step : (cs : List ColumnDef) (ps : List (Option ℕ)) (types : List (Option ColType)) (i : ℕ) (x : ColumnDef) (p : Option ℕ) → i < length cs → x ≡ get_or cs i x → slice_get ps i ≡ Some p
    → cells_causes (map column_of (drop i cs)) (drop i (map (type_at types) ps))
    ≡ column_causes (column_of x) (type_at types p) ++ cells_causes (map column_of (drop (i + 1) cs)) (drop (i + 1) (map (type_at types) ps))
placed_step cs ps types i x p lt is got =
    let given = map (type_at types) ps in
    let e : suc i ≡ i + 1 = omega arith in
    cells_step cs given i x (type_at types p) lt is (slice_get-map (type_at types) ps i ∙ ap (option_map (type_at types)) got)
    ∙ ap (λ k. column_causes (column_of x) (type_at types p) ++ cells_causes (map column_of (drop (i + 1) cs)) (drop k given)) e

-- ---- the place of a column's value

-- without a list of columns
turn_at : (at : ℕ) (cs : List Column) (i : ℕ) → i < length cs → slice_get (places_in_turn at cs) i ≡ Some (Some (at + i))
turn_at at [] i lt = absurd (omega (arith, lt))
turn_at at (c ∷ cs) zero lt = ap (λ k. Some (Some k)) (omega arith)
turn_at at (c ∷ cs) (suc i) lt = let e : suc at + i ≡ at + suc i = omega arith in turn_at (suc at) cs i (omega (arith, lt)) ∙ ap (λ k. Some (Some k)) e

pub own_place : (cs : List ColumnDef) (i : ℕ) → i < length cs → slice_get (places_in_turn 0 (map column_of cs)) i ≡ Some (Some i)
own_place cs i lt =
    let e : 0 + i ≡ i = omega arith in
    turn_at 0 (map column_of cs) i (subst (λ k. i < k) (sym (length-map cs column_of)) lt) ∙ ap (λ k. Some (Some k)) e

-- with one
pub named_at : (names : List Name) (cs : List ColumnDef) (i : ℕ) (x : ColumnDef) → i < length cs → x ≡ get_or cs i x
    → slice_get (places_meant (Some names) (map column_of cs)) i ≡ Some (name_place 0 names (column_of x).name)
named_at names cs i x lt is =
    let place = λ (c : Column). name_place 0 names c.name in
    slice_get-map place (map column_of cs) i ∙ ap (option_map place) (slice_get-map column_of cs i ∙ ap (option_map column_of) (slice_get-get_or cs i x lt ∙ ap Some (sym is)))

-- the places behind one of them
pub places_next : (done all : List (Option ℕ)) (i : ℕ) (p : Option ℕ) → done ++ drop i all ≡ all → slice_get all i ≡ Some p → (done ++ (p ∷ [])) ++ drop (i + 1) all ≡ all
places_next done all i p e got = rw (append_assoc, add-one, ← (drop_got all i p got)) e

-- as many as columns
turn_count : (at : ℕ) (cs : List Column) → length (places_in_turn at cs) ≡ length cs
turn_count at [] = refl
turn_count at (c ∷ cs) = ap suc (turn_count (suc at) cs)

pub places_count : (names : Option (List Name)) (cs : List Column) → length (places_meant names cs) ≡ length cs
places_count None cs = turn_count 0 cs
places_count (Some names) cs = length-map cs (λ (c : Column). name_place 0 names c.name)

-- all of them
pub places_done : (done all : List (Option ℕ)) (n : ℕ) → length all ≤ n → done ++ drop n all ≡ all → done ≡ all
places_done done all n le e = sym (append-nil done) ∙ (ap (λ xs. done ++ xs) (sym (drop_all n all le)) ∙ e)

-- ---- what passes behind causes of which none stands

pub passes_behind : {X : Type 0} (xs ys : List Cause) (r : Result X Cause) → xs ≡ [] → Passes ys r → Passes (xs ++ ys) r
passes_behind xs ys (Ok x) none rest = none_of_two xs ys none rest
passes_behind xs ys (Err c) none rest = tells_right xs ys c rest
