-- The table that is written: its place among the tables, its rows in a world, and what a world has of its source after a change of its box.
use Rattle.std.proofs.Common.{◌≡◌, ◌≢◌, ℕ, ◌+◌, Bool, true, false, cond, List, [], ◌∷◌, Option, Some, find, map, slice_get, slice_set, refl, ap, sym, ◌∙◌, subst, zero, suc, arith, bytes_eq, if◌then◌else◌}
use Rattle.std.specs.List.{IsDistinct}
use Rattle.std.proofs.lemmas.Map.Keys.{IsDistinct-tail}
use Rattle.std.proofs.lemmas.Option.{same_Some}
use Rattle.med_syntax.specs.Tree.{Name}
use Rattle.fdw_api.specs.Prelude.{Held, BoxState}
use Rattle.bind_names.specs.Scope.{place_from}
use Rattle.med_binder.specs.Prelude.{shape_of, Attached}
use Rattle.med_catalog.specs.Objects.{TableObject}
use Rattle.sql_meaning.specs.World.{Source, SourceState, rows_named, rows_with, with_state}
use Rattle.med_world.specs.Engine.{Label, IsNamedAt, IsFirst, state_of, sources_of, AreRowsOf, RowsAgree}
use Rattle.med_world.proofs.Lists.{same_bytes, bytes_same, other_bytes, bytes_other, one_place, zero≢suc}
use Rattle.med_world.proofs.Altered.{named_in}

-- ---- its place

turned : (a b : Name) (r : Bool) → bytes_eq a b ≡ r → bytes_eq b a ≡ r
turned a b true e = same_bytes b a (sym (bytes_same a b e))
turned a b false e = other_bytes b a (λ same. bytes_other a b e (sym same))

-- the place where the name is found is that of the first table of the name
pub first_from : (tables : List TableObject) (name : Name) (at place : ℕ) → place_from at (map shape_of tables) name ≡ Some place → (k : ℕ) × (place ≡ at + k) × IsFirst name tables k
first_from [] name at place e = absurd cc
first_from (t ∷ ts) name at place e = split (bytes_eq t.name name) refl (λ h. first_from ts name (suc at) place h) e
  where
    split : (b : Bool) → bytes_eq t.name name ≡ b → (place_from (suc at) (map shape_of ts) name ≡ Some place → (k : ℕ) × (place ≡ suc at + k) × IsFirst name ts k)
        → (if b then Some at else place_from (suc at) (map shape_of ts) name) ≡ Some place → (k : ℕ) × (place ≡ at + k) × IsFirst name (t ∷ ts) k
    split true is rest h = (zero, (let same : at ≡ place = same_Some at place h in omega (arith, same)), turned t.name name true is)
    split false is rest h = let r = rest h in (suc r.0, (let same : place ≡ suc at + r.0 = r.1 in omega (arith, same)), (turned t.name name false is, r.2))

pub first_table : (tables : List TableObject) (name : Name) (k : ℕ) → IsFirst name tables k → (t : TableObject) × (slice_get tables k ≡ Some t) × (find (λ (x : TableObject). bytes_eq name x.name) tables ≡ Some t)
first_table [] name k first = absurd first
first_table (t ∷ ts) name zero first = (t, refl, ap (λ b. cond b (Some t) (find (λ (x : TableObject). bytes_eq name x.name) ts)) first)
first_table (t ∷ ts) name (suc k) first =
    let r = first_table ts name k first.1 in
    (r.0, r.1, ap (λ b. cond b (Some t) (find (λ (x : TableObject). bytes_eq name x.name) ts)) first.0 ∙ r.2)

-- ---- its rows

pub rows_found : (boxes : List (Option BoxState)) (name : Name) (tables : List TableObject) (bound : List Attached) (rows : List (List Held)) (k : ℕ) (a : Attached) → IsFirst name tables k → RowsAgree boxes bound rows → slice_get bound k ≡ Some a → AreRowsOf boxes a (rows_named name tables rows)
rows_found boxes name [] bound rows k a first h at = absurd first
rows_found boxes name (t ∷ ts) [] rows k a first h at = absurd cc
rows_found boxes name (t ∷ ts) (b ∷ bs) [] k a first h at = absurd h
rows_found boxes name (t ∷ ts) (b ∷ bs) (r ∷ rs) zero a first h at =
    subst (λ (l : List Held). AreRowsOf boxes a l) (sym (ap (λ c. cond c r (rows_named name ts rs)) first)) (subst (λ (x : Attached). AreRowsOf boxes x r) (same_Some b a at) h.0)
rows_found boxes name (t ∷ ts) (b ∷ bs) (r ∷ rs) (suc k) a first h at =
    subst (λ (l : List Held). AreRowsOf boxes a l) (sym (ap (λ c. cond c r (rows_named name ts rs)) first.0)) (rows_found boxes name ts bs rs k a first.1 h.1 at)

-- the rows of a table stay those that its box shows
abbrev pub Stays : List (Option BoxState) → List (Option BoxState) → Attached → Type 0
Stays old new a = (rows : List Held) → AreRowsOf old a rows → AreRowsOf new a rows

pub rows_stay : (old new : List (Option BoxState)) (bound : List Attached) (rows : List (List Held)) → ((j : ℕ) (a : Attached) → slice_get bound j ≡ Some a → Stays old new a) → RowsAgree old bound rows → RowsAgree new bound rows
rows_stay old new [] [] f h = tt
rows_stay old new [] (r ∷ rs) f h = absurd h
rows_stay old new (a ∷ bs) [] f h = absurd h
rows_stay old new (a ∷ bs) (r ∷ rs) f h = (f zero a refl r h.0, rows_stay old new bs rs (λ j. f (suc j)) h.1)

suc_other : (j k : ℕ) → j ≢ k → suc j ≢ suc k
suc_other j k ne e = ne (let same : suc j ≡ suc k = e in omega (arith, same))

no_suc : (j : ℕ) → suc j ≢ zero
no_suc j e = zero≢suc j (sym e)

-- those of one table are others now
pub rows_changed : (old new : List (Option BoxState)) (name : Name) (now : List Held) (tables : List TableObject) (bound : List Attached) (rows : List (List Held)) (k : ℕ) (a : Attached) → IsFirst name tables k → slice_get bound k ≡ Some a
    → AreRowsOf new a now → ((j : ℕ) (b : Attached) → slice_get bound j ≡ Some b → j ≢ k → Stays old new b) → RowsAgree old bound rows → RowsAgree new bound (rows_with name now tables rows)
rows_changed old new name now [] bound rows k a first at is others h = absurd first
rows_changed old new name now (t ∷ ts) [] rows k a first at is others h = absurd cc
rows_changed old new name now (t ∷ ts) (b ∷ bs) [] k a first at is others h = absurd h
rows_changed old new name now (t ∷ ts) (b ∷ bs) (r ∷ rs) zero a first at is others h =
    subst (λ (l : List (List Held)). RowsAgree new (b ∷ bs) l) (sym (ap (λ c. cond c (now ∷ rs) (r ∷ rows_with name now ts rs)) first))
    (subst (λ (x : Attached). AreRowsOf new x now) (sym (same_Some b a at)) is, rows_stay old new bs rs (λ j c at_c. others (suc j) c at_c (no_suc j)) h.1)
rows_changed old new name now (t ∷ ts) (b ∷ bs) (r ∷ rs) (suc k) a first at is others h =
    subst (λ (l : List (List Held)). RowsAgree new (b ∷ bs) l) (sym (ap (λ c. cond c (now ∷ rs) (r ∷ rows_with name now ts rs)) first.0))
    (others zero b refl (zero≢suc k) r h.0, rows_changed old new name now ts bs rs k a first.1 at is (λ j c at_c ne. others (suc j) c at_c (suc_other j k ne)) h.1)

-- ---- its source

pub sources_changed : (labels : List Label) (boxes : List (Option BoxState)) (place : ℕ) (name : Name) (b c : BoxState) (f : SourceState → SourceState) → IsDistinct bytes_eq (map (λ (l : Label). l.name) labels) → IsNamedAt labels place name → slice_get boxes place ≡ Some (Some b)
    → state_of (Some c) ≡ f (state_of (Some b)) → sources_of labels (slice_set boxes place (Some c)) ≡ with_state name f (sources_of labels boxes)
sources_changed [] boxes place name b c f distinct h at e = absurd (let x = h.1 in cc)
sources_changed (l ∷ ls) [] place name b c f distinct h at e = absurd cc
sources_changed (l ∷ ls) (x ∷ xs) zero name b c f distinct h at e =
    let this : l ≡ h.0 = cc in
    let x_is : x ≡ Some b = cc in
    let named : l.name ≡ name = ap (λ (k : Label). k.name) this ∙ h.2 in
    ap (λ (s : SourceState). record { name = l.name; kind = l.kind; state = s } ∷ sources_of ls xs) (e ∙ sym (ap (λ (o : Option BoxState). f (state_of o)) x_is))
    ∙ sym (ap (λ c. cond c (record { name = l.name; kind = l.kind; state = f (state_of x) } ∷ sources_of ls xs) (record { name = l.name; kind = l.kind; state = state_of x } ∷ with_state name f (sources_of ls xs))) (same_bytes l.name name named))
sources_changed (l ∷ ls) (x ∷ xs) (suc place) name b c f distinct h at e =
    let rest = sources_changed ls xs place name b c f (IsDistinct-tail bytes_eq l.name (map (λ (k : Label). k.name) ls) distinct) h at e in
    let other : l.name ≡ name → ⊥ = λ e. zero≢suc place (one_place (map (λ (k : Label). k.name) (l ∷ ls)) name zero (suc place) distinct (ap Some e) (named_in ls place name h)) in
    ap (λ (ss : List Source). record { name = l.name; kind = l.kind; state = state_of x } ∷ ss) rest
    ∙ sym (ap (λ c. cond c (record { name = l.name; kind = l.kind; state = f (state_of x) } ∷ sources_of ls xs) (record { name = l.name; kind = l.kind; state = state_of x } ∷ with_state name f (sources_of ls xs))) (other_bytes l.name name other))
