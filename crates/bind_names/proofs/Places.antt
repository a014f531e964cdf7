-- Places found one after the other, and the columns at places.
use Rattle.std.proofs.Common.{◌≡◌, ℕ, zero, suc, ◌-◌, ◌<◌, ◌≤◌, Bool, true, false, if◌then◌else◌, List, [], ◌∷◌, ◌++◌, length, Option, slice_get, get_or, drop, map, ◌+◌, option_map, refl, sym, ap, ◌∙◌, arith}
use Rattle.std.proofs.lemmas.List.{length-map, length-append}
use Rattle.med_value.specs.Column.{Column, column_of}
use Rattle.med_value.specs.declared.value.ColType.{ColType}
use Rattle.med_value.specs.declared.cause.Cause.TheVariants.{UndefinedTable, UndefinedColumn, AmbiguousColumn}
use Rattle.med_syntax.specs.Tree.{Name}
use Rattle.bind_names.proofs.Parts.{drop_read}
use Rattle.bind_names.specs.declared.scope.Visible.{Visible}
use Rattle.bind_names.specs.Scope.{TableShape, Scope, visible, scope_of, columns_of, candidates_from, candidates, is_meant, places_from, has_entry, kind_there, kind_at}
use Rattle.bind_names.specs.Naming.{counted_causes, column_causes}
use Rattle.bind_names.specs.declared.scope.FoundPlaces.{FoundPlaces}
use Rattle.bind_names.specs.declared.scope.FoundPlaces.TheVariants.{Nothing, One, Several}
use Rattle.bind_names.specs.Telling.{with_place, with_places, IsOverfull}

pub found_then : (f : FoundPlaces) (xs ys : List ℕ) → with_places f (xs ++ ys) ≡ with_places (with_places f xs) ys
found_then f [] ys = refl
found_then f (x ∷ xs) ys = found_then (with_place f x) xs ys

several_stay : (ps : List ℕ) → with_places Several ps ≡ Several
several_stay [] = refl
several_stay (p ∷ ps) = several_stay ps

pub found_nothing : (ps : List ℕ) → Nothing ≡ with_places Nothing ps → ps ≡ []
found_nothing [] h = refl
found_nothing (p ∷ []) h = absurd cc
found_nothing (p ∷ r ∷ ps) h = let k = several_stay ps in absurd cc

pub found_one : (ps : List ℕ) (at : ℕ) → One at ≡ with_places Nothing ps → ps ≡ at ∷ []
found_one [] at h = absurd cc
found_one (p ∷ []) at h = cc
found_one (p ∷ r ∷ ps) at h = let k = several_stay ps in absurd cc

-- ---- a column by its name

pub entry_missing : (s : Scope) (q : Option Name) (n : Name) → has_entry s q ≡ false → column_causes s q n ≡ UndefinedTable ∷ []
entry_missing s q n h = ap (λ (b : Bool). if b then counted_causes (candidates s q n) else UndefinedTable ∷ []) h

counted : (s : Scope) (q : Option Name) (n : Name) → has_entry s q ≡ true → column_causes s q n ≡ counted_causes (candidates s q n)
counted s q n h = ap (λ (b : Bool). if b then counted_causes (candidates s q n) else UndefinedTable ∷ []) h

pub column_missing : (s : Scope) (q : Option Name) (n : Name) → has_entry s q ≡ true → Nothing ≡ with_places Nothing (candidates s q n) → column_causes s q n ≡ UndefinedColumn ∷ []
column_missing s q n h k = counted s q n h ∙ ap counted_causes (found_nothing (candidates s q n) k)

pub column_there : (s : Scope) (q : Option Name) (n : Name) (p : ℕ) → has_entry s q ≡ true → One p ≡ with_places Nothing (candidates s q n) → (candidates s q n ≡ p ∷ []) × (column_causes s q n ≡ [])
column_there s q n p h k = (found_one (candidates s q n) p k, counted s q n h ∙ ap counted_causes (found_one (candidates s q n) p k))

unclear : (ps : List ℕ) → Several ≡ with_places Nothing ps → counted_causes ps ≡ AmbiguousColumn ∷ []
unclear [] h = absurd cc
unclear (p ∷ []) h = absurd cc
unclear (p ∷ r ∷ ps) h = refl

pub column_unclear : (s : Scope) (q : Option Name) (n : Name) → has_entry s q ≡ true → Several ≡ with_places Nothing (candidates s q n) → column_causes s q n ≡ AmbiguousColumn ∷ []
column_unclear s q n h k = counted s q n h ∙ unclear (candidates s q n) k

-- ---- columns at places

get_left : {X : Type 0} (xs ys : List X) (k : ℕ) → k < length xs → slice_get (xs ++ ys) k ≡ slice_get xs k
get_left [] ys k lt = absurd (omega (arith, lt))
get_left (y ∷ xs) ys zero lt = refl
get_left (y ∷ xs) ys (suc k) lt = get_left xs ys k (omega (arith, lt))

get_right : {X : Type 0} (xs ys : List X) (k : ℕ) → length xs ≤ k → slice_get (xs ++ ys) k ≡ slice_get ys (k - length xs)
get_right [] ys k h = let e : k - 0 ≡ k = omega arith in rw e refl
get_right (y ∷ xs) ys zero h = absurd (omega (arith, h))
get_right (y ∷ xs) ys (suc k) h = let e : suc k - suc (length xs) ≡ k - length xs = omega arith in rw e (get_right xs ys k (omega (arith, h)))

pub kind_here : (e : TableShape) (es : Scope) (k : ℕ) → k < length e.columns → kind_at (e ∷ es) k ≡ kind_there e.columns k
kind_here e es k lt = ap (option_map (λ (c : Column). c.kind)) (get_left e.columns (columns_of es) k lt)

pub kind_further : (e : TableShape) (es : Scope) (k : ℕ) → length e.columns ≤ k → kind_at (e ∷ es) k ≡ kind_at es (k - length e.columns)
kind_further e es k h = ap (option_map (λ (c : Column). c.kind)) (get_right e.columns (columns_of es) k h)

-- ---- in a loop over the entries

pub kind_at_entry : (all : Option ColType) (xs : List Visible) (i k : ℕ) (v : Visible) → all ≡ kind_at (scope_of (drop i xs)) k → i < length xs → v ≡ get_or xs i v → k < length v.columns.now → kind_there (map column_of v.columns.now) k ≡ all
kind_at_entry all xs i k v e lt read h =
    sym (e ∙ ap (λ ys. kind_at (scope_of ys) k) (drop_read xs i v lt read) ∙ kind_here (visible v) (scope_of (drop (i + 1) xs)) k (rw (length-map v.columns.now column_of) h))

pub kind_past_entry : (all : Option ColType) (xs : List Visible) (i k : ℕ) (v : Visible) → all ≡ kind_at (scope_of (drop i xs)) k → i < length xs → v ≡ get_or xs i v → length v.columns.now ≤ k
    → all ≡ kind_at (scope_of (drop (i + 1) xs)) (k - length v.columns.now)
kind_past_entry all xs i k v e lt read h =
    let n = length-map v.columns.now column_of in
    e ∙ ap (λ ys. kind_at (scope_of ys) k) (drop_read xs i v lt read) ∙ kind_further (visible v) (scope_of (drop (i + 1) xs)) k (rw n h) ∙ ap (λ m. kind_at (scope_of (drop (i + 1) xs)) (k - m)) n

pub found_past_entry : (all found further : FoundPlaces) (xs : List Visible) (i at end : ℕ) (v : Visible) (q : Option Name) (n : Name) → all ≡ with_places found (candidates_from at (scope_of (drop i xs)) q n) → i < length xs → v ≡ get_or xs i v
    → further ≡ with_places found (if is_meant q (visible v) then places_from at (visible v).columns n else []) → end ≡ at + length v.columns.now
    → all ≡ with_places further (candidates_from end (scope_of (drop (i + 1) xs)) q n)
found_past_entry all found further xs i at end v q n e lt read f g =
    let rest = scope_of (drop (i + 1) xs) in
    let m = length-map v.columns.now column_of in
    e ∙ ap (λ ys. with_places found (candidates_from at (scope_of ys) q n)) (drop_read xs i v lt read)
    ∙ found_then found (if is_meant q (visible v) then places_from at (visible v).columns n else []) (candidates_from (at + length (visible v).columns) rest q n)
    ∙ ap (λ k. with_places k (candidates_from (at + length (visible v).columns) rest q n)) (sym f)
    ∙ ap (λ k. with_places further (candidates_from (at + k) rest q n)) m
    ∙ ap (λ k. with_places further (candidates_from k rest q n)) (sym g)

-- how many columns there are, with those of one entry more
pub columns_past_entry : (all at : ℕ) (xs : List Visible) (i : ℕ) (v : Visible) → all ≡ at + length (columns_of (scope_of (drop i xs))) → i < length xs → v ≡ get_or xs i v
    → all ≡ (at + length v.columns.now) + length (columns_of (scope_of (drop (i + 1) xs)))
columns_past_entry all at xs i v e lt read =
    let rest = columns_of (scope_of (drop (i + 1) xs)) in
    let n = length-map v.columns.now column_of in
    let d = ap (λ ys. length (columns_of (scope_of ys))) (drop_read xs i v lt read) in
    let k = length-append (map column_of v.columns.now) rest in
    omega (arith, e, d, k, n)

pub overfull_there : (s : Scope) (at : ℕ) (xs : List Visible) (i : ℕ) (v : Visible) → length (columns_of s) ≡ at + length (columns_of (scope_of (drop i xs))) → i < length xs → v ≡ get_or xs i v → 18446744073709551615 < at + length v.columns.now → IsOverfull s
overfull_there s at xs i v e lt read over = let k = columns_past_entry (length (columns_of s)) at xs i v e lt read in omega (arith, k, over)
