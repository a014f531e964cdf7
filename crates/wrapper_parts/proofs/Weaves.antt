-- What changes leave of rows with fates, one change after the other.
use Rattle.std.proofs.Common.{◌≡◌, ℕ, zero, suc, ◌+◌, ◌<◌, Bool, true, false, if◌then◌else◌, nat_eq, List, [], ◌∷◌, ◌++◌, length, map, flat_map, zip, slice_set, refl, ap, sym, ◌∙◌, subst, arith, rules}
use Rattle.std.specs.List.{range_with_len}
use Rattle.std.proofs.lemmas.List.{map-append, append_assoc}
use Rattle.med_value.specs.Datum.{Tuple}
use Rattle.fdw_api.specs.Prelude.{Held, Change, Inserts, Updates, Deletes, row_after}
use Rattle.wrapper_parts.specs.declared.fates.Fate.{Fate}
use Rattle.wrapper_parts.specs.declared.fates.Fate.TheVariants.{Change as ChangeTo, Gone}
use Rattle.wrapper_parts.specs.Weaving.{outcome, left_by, left_of, rows_left}

abbrev Line : Type 0
Line = Tuple → List (List ℕ)

-- what is left of rows of which the first has the place n
abbrev pub left_from : {R T : Type 0} → Line → (R → Held) → (T → R) → ℕ → List R → List (Fate T) → List Change → List Held
left_from line read written n rows fates changes =
    flat_map (λ e. left_of line read written changes e.0.0 e.0.1 e.1) (zip (zip (range_with_len n (length rows)) rows) fates)

-- the rows that fates leave, once no change is to come
pub left_without_changes : {R T : Type 0} (line : Line) (read : R → Held) (written : T → R) (n : ℕ) (rs : List R) (fs : List (Fate T))
    → left_from line read written n rs fs [] ≡ map read (left_by written fs rs)
left_without_changes line read written n [] fs = refl
left_without_changes line read written n (r ∷ rs) [] = refl
left_without_changes line read written n (r ∷ rs) (f ∷ fs) =
    ap (λ (l : List Held). map read (outcome written r f) ++ l) (left_without_changes line read written (n + 1) rs fs)
    ∙ sym (map-append read (outcome written r f) (left_by written fs rs))

-- an insertion changes no row
pub left_insert : {R T : Type 0} (line : Line) (read : R → Held) (written : T → R) (n : ℕ) (rs : List R) (fs : List (Fate T)) (x : Tuple)
    (cs : List Change) → left_from line read written n rs fs (Inserts x ∷ cs) ≡ left_from line read written n rs fs cs
left_insert line read written n [] fs x cs = refl
left_insert line read written n (r ∷ rs) [] x cs = refl
left_insert line read written n (r ∷ rs) (f ∷ fs) x cs =
    ap (λ (l : List Held). row_after line n cs (map read (outcome written r f)) ++ l) (left_insert line read written (n + 1) rs fs x cs)

-- a change that is to row m alone, and what it makes of it
abbrev Misses : Line → ℕ → Change → Type 0
Misses line m c = (id : ℕ) (cs : List Change) (now : List Held) → nat_eq m id ≡ false
    → row_after line id (c ∷ cs) now ≡ row_after line id cs now

abbrev Hits : {R T : Type 0} → Line → (R → Held) → (T → R) → ℕ → Change → Fate T → Type 0
Hits {R} line read written m c f =
    (r : R) (cs : List Change) (now : List Held) → row_after line m (c ∷ cs) now ≡ row_after line m cs (map read (outcome written r f))

past : (m n : ℕ) → m < n → nat_eq m n ≡ false
past m n lt = search rules

ahead : (m n : ℕ) → n < m → nat_eq m n ≡ false
ahead m n lt = search rules

left_past : {R T : Type 0} (line : Line) (read : R → Held) (written : T → R) (m n : ℕ) (rs : List R) (fs : List (Fate T)) (c : Change)
    (cs : List Change) → Misses line m c → m < n → left_from line read written n rs fs (c ∷ cs) ≡ left_from line read written n rs fs cs
left_past line read written m n [] fs c cs miss lt = refl
left_past line read written m n (r ∷ rs) [] c cs miss lt = refl
left_past line read written m n (r ∷ rs) (f ∷ fs) c cs miss lt =
    rw (miss n cs (map read (outcome written r f)) (past m n lt), left_past line read written m (n + 1) rs fs c cs miss (omega arith)) refl

left_at : {R T : Type 0} (line : Line) (read : R → Held) (written : T → R) (m n j : ℕ) (rs : List R) (fs : List (Fate T)) (c : Change)
    (f : Fate T) (cs : List Change) → m ≡ n + j → Misses line m c → Hits line read written m c f
    → left_from line read written n rs fs (c ∷ cs) ≡ left_from line read written n rs (slice_set fs j f) cs
left_at line read written m n j [] fs c f cs e miss hit = refl
left_at line read written m n zero (r ∷ rs) [] c f cs e miss hit = refl
left_at line read written m n (suc j) (r ∷ rs) [] c f cs e miss hit = refl
left_at line read written m n zero (r ∷ rs) (g ∷ fs) c f cs e miss hit =
    let was = map read (outcome written r g) in
    let now = map read (outcome written r f) in
    let same : row_after line n (c ∷ cs) was ≡ row_after line n cs now =
    subst (λ (k : ℕ). row_after line k (c ∷ cs) was ≡ row_after line k cs now) (omega arith) (hit r cs was) in
    rw (same, left_past line read written m (n + 1) rs fs c cs miss (omega arith)) refl
left_at line read written m n (suc j) (r ∷ rs) (g ∷ fs) c f cs e miss hit =
    rw (
      miss n cs (map read (outcome written r g)) (ahead m n (omega arith)),
      left_at line read written m (n + 1) j rs fs c f cs (omega arith) miss hit,
    ) refl

choose_false : {X : Type 0} (b : Bool) (x y : X) → b ≡ false → (if b then x else y) ≡ y
choose_false b x y e = rw e refl

choose_true : {X : Type 0} (b : Bool) (x y : X) → b ≡ true → (if b then x else y) ≡ x
choose_true b x y e = rw e refl

same_nat : (m : ℕ) → nat_eq m m ≡ true
same_nat m = search rules

-- an update sets the fate of its row, where what is written is read as the row
pub left_update : {R T : Type 0} (line : Line) (read : R → Held) (written : T → R) (m : ℕ) (rs : List R) (fs : List (Fate T)) (new : T)
    (x : Tuple) (cs : List Change) → read (written new) ≡ record { cells = x; origin = line x }
    → rows_left line read written rs fs (Updates m x ∷ cs) ≡ rows_left line read written rs (slice_set fs m (ChangeTo new)) cs
left_update line read written m rs fs new x cs row =
    left_at line read written m 0 m rs fs (Updates m x) (ChangeTo new) cs (omega arith)
    (λ id ds now e. ap (row_after line id ds) (choose_false (nat_eq m id) _ now e))
    (λ r ds now. ap (row_after line m ds) (choose_true (nat_eq m m) _ now (same_nat m) ∙ ap (λ (h : Held). h ∷ []) (sym row)))

-- a deletion sets the fate of its row
pub left_delete : {R T : Type 0} (line : Line) (read : R → Held) (written : T → R) (m : ℕ) (rs : List R) (fs : List (Fate T))
    (cs : List Change) → rows_left line read written rs fs (Deletes m ∷ cs) ≡ rows_left line read written rs (slice_set fs m Gone) cs
left_delete line read written m rs fs cs =
    left_at line read written m 0 m rs fs (Deletes m) Gone cs (omega arith)
    (λ id ds now e. ap (row_after line id ds) (choose_false (nat_eq m id) _ now e))
    (λ r ds now. ap (row_after line m ds) (choose_true (nat_eq m m) _ now (same_nat m)))

-- a step of a loop over changes
pub left_on : {R T : Type 0} (line : Line) (read : R → Held) (written : T → R) (rs : List R) (fs gs : List (Fate T)) (c : Change)
    (cs ds : List Change) (all : List Held) → rows_left line read written rs fs cs ≡ all → cs ≡ c ∷ ds
    → rows_left line read written rs fs (c ∷ ds) ≡ rows_left line read written rs gs ds → rows_left line read written rs gs ds ≡ all
left_on line read written rs fs gs c cs ds all i e step = sym step ∙ sym (ap (rows_left line read written rs fs) e) ∙ i

-- a step of a loop over fates: a fate that leaves one row
pub fate_on : {R T : Type 0} (written : T → R) (done olds more all : List R) (r x : R) (f : Fate T) (fs gs : List (Fate T))
    → done ++ left_by written fs olds ≡ all → fs ≡ f ∷ gs → olds ≡ r ∷ more → outcome written r f ≡ x ∷ []
    → (done ++ x ∷ []) ++ left_by written gs more ≡ all
fate_on {R} written done olds more all r x f fs gs i ef eo out =
    let s : left_by written fs olds ≡ x ∷ left_by written gs more = rw (ef, eo) (ap (λ (l : List R). l ++ left_by written gs more) out) in
    append_assoc done (x ∷ []) (left_by written gs more) ∙ ap (λ (l : List R). done ++ l) (sym s) ∙ i

-- one that leaves none
pub fate_gone : {R T : Type 0} (written : T → R) (done olds more all : List R) (r : R) (fs gs : List (Fate T))
    → done ++ left_by written fs olds ≡ all → fs ≡ Gone ∷ gs → olds ≡ r ∷ more → done ++ left_by written gs more ≡ all
fate_gone {R} written done olds more all r fs gs i ef eo =
    let s : left_by written fs olds ≡ left_by written gs more = rw (ef, eo) refl in
    ap (λ (l : List R). done ++ l) (sym s) ∙ i

-- one past the last row
pub fate_past : {R T : Type 0} (written : T → R) (done olds all : List R) (fs gs : List (Fate T))
    → done ++ left_by written fs olds ≡ all → olds ≡ [] → done ++ left_by written gs olds ≡ all
fate_past {R} written done olds all fs gs i eo =
    let s : left_by written gs olds ≡ left_by written fs olds = rw eo refl in
    ap (λ (l : List R). done ++ l) s ∙ i

left_by_none : {R T : Type 0} (written : T → R) (rs : List R) → left_by written [] rs ≡ []
left_by_none written [] = refl
left_by_none written (r ∷ rs) = refl

append_none : {R : Type 0} (l : List R) → l ++ [] ≡ l
append_none l = search rules

-- the end of such a loop
pub fates_end : {R T : Type 0} (written : T → R) (done olds all : List R) (fs : List (Fate T))
    → done ++ left_by written fs olds ≡ all → fs ≡ [] → done ≡ all
fates_end {R} {T} written done olds all fs i ef =
    sym (append_none done)
    ∙ ap (λ (l : List R). done ++ l) (sym (ap (λ (gs : List (Fate T)). left_by written gs olds) ef ∙ left_by_none written olds)) ∙ i
