-- Tables by their names: those that are gathered for the entries are what the whole list has.
use Rattle.std.proofs.Common.{◌≡◌, ◌⊎◌, inl, inr, ℕ, suc, Bool, true, false, cond, List, [], ◌∷◌, ◌++◌, Option, Some, None, map, flat_map, find, unwrap_or, bytes_eq, slice_get, if◌then◌else◌, refl, sym, ap, ◌∙◌}
use Rattle.std.specs.Option.{option_map, option_and_then, is_some}
use Rattle.std.proofs.lemmas.Slice.Eq.{bytes_eq-Decides}
use Rattle.med_value.specs.Column.{Column}
use Rattle.med_value.specs.declared.cause.Cause.{Cause}
use Rattle.med_value.specs.declared.cause.Cause.TheVariants.{UndefinedTable}
use Rattle.med_syntax.specs.Prelude.{Name, EntryTree}
use Rattle.bind_names.specs.Prelude.{TableShape, place_from, table_named, is_known, entry_causes}
use Rattle.med_binder.specs.Looked.{gathered_shape}
use Rattle.med_binder.proofs.Seen.{Sees, SeesAll}

abbrev pub is_called : Name → TableShape → Bool
is_called n t = bytes_eq t.name n

-- one place further
up_by : (b : Bool) (at : ℕ) (p r : Option ℕ) → r ≡ option_map (λ (k : ℕ). suc k) p → (if b then Some (suc at) else r) ≡ option_map (λ (k : ℕ). suc k) (if b then Some at else p)
up_by true at p r e = refl
up_by false at p r e = e

pub place_up : (at : ℕ) (ts : List TableShape) (n : Name) → place_from (suc at) ts n ≡ option_map (λ (k : ℕ). suc k) (place_from at ts n)
place_up at [] n = refl
place_up at (t ∷ ts) n = up_by (bytes_eq t.name n) at (place_from (suc at) ts n) (place_from (suc (suc at)) ts n) (place_up (suc at) ts n)

get_up : (t : TableShape) (ts : List TableShape) (p : Option ℕ) → option_and_then (slice_get (t ∷ ts)) (option_map (λ (k : ℕ). suc k) p) ≡ option_and_then (slice_get ts) p
get_up t ts None = refl
get_up t ts (Some k) = refl

named_by : (b : Bool) (t : TableShape) (ts : List TableShape) (p : Option ℕ) (r : Option TableShape) → option_and_then (slice_get (t ∷ ts)) p ≡ r
    → option_and_then (slice_get (t ∷ ts)) (if b then Some 0 else p) ≡ cond b (Some t) r
named_by true t ts p r e = refl
named_by false t ts p r e = e

-- the table of the first place of a name is the first of that name
pub named_found : (ts : List TableShape) (n : Name) → table_named ts n ≡ find (is_called n) ts
named_found [] n = refl
named_found (t ∷ ts) n =
    named_by (bytes_eq t.name n) t ts (place_from 1 ts n) (find (is_called n) ts)
    (ap (option_and_then (slice_get (t ∷ ts))) (place_up 0 ts n) ∙ get_up t ts (place_from 0 ts n) ∙ named_found ts n)

known_by : (b : Bool) (at : ℕ) (p : Option ℕ) (t : TableShape) (r : Option TableShape) → is_some p ≡ is_some r → is_some (if b then Some at else p) ≡ is_some (cond b (Some t) r)
known_by true at p t r e = refl
known_by false at p t r e = e

pub known_found : (at : ℕ) (ts : List TableShape) (n : Name) → is_some (place_from at ts n) ≡ is_some (find (is_called n) ts)
known_found at [] n = refl
known_found at (t ∷ ts) n = known_by (bytes_eq t.name n) at (place_from (suc at) ts n) t (find (is_called n) ts) (known_found (suc at) ts n)

-- ---- what is gathered for the entries

abbrev columns_named : List TableShape → Name → List Column
columns_named ts n = unwrap_or (option_map (λ (t : TableShape). t.columns) (table_named ts n)) []

abbrev IsFound : Option TableShape → List Column → Type 0
IsFound None cs = ⊥
IsFound (Some t) cs = t.columns ≡ cs

abbrev IsIn : EntryTree → List EntryTree → Type 0
IsIn e [] = ⊥
IsIn e (x ∷ xs) = (e ≡ x) ⊎ IsIn e xs

found_by : (full : List TableShape) (n m : Name) (b : Bool) (r : Option TableShape) (t : TableShape) → bytes_eq m n ≡ b → t.columns ≡ columns_named full m → (b ≡ false → IsFound r (columns_named full n)) → IsFound (cond b (Some t) r) (columns_named full n)
found_by full n m true r t is cs other = cs ∙ ap (columns_named full) ((bytes_eq-Decides m n).0 is)
found_by full n m false r t is cs other = other refl

differs : {A : Type 0} (e x : EntryTree) (es : List EntryTree) → (e ≡ x) ⊎ IsIn e es → bytes_eq x.table e.table ≡ false → (IsIn e es → A) → A
differs e x es (inl h) is f = let t : bytes_eq x.table e.table ≡ true = (bytes_eq-Decides x.table e.table).1 (ap (λ (y : EntryTree). y.table) (sym h)) in absurd cc
differs e x es (inr h) is f = f h

found_in : (full : List TableShape) (es : List EntryTree) (e : EntryTree) → IsIn e es → IsFound (find (is_called e.table) (map (gathered_shape full) es)) (columns_named full e.table)
found_in full [] e h = absurd h
found_in full (x ∷ es) e h =
    found_by full e.table x.table (bytes_eq x.table e.table) (find (is_called e.table) (map (gathered_shape full) es)) (gathered_shape full x) refl refl
    (λ is. differs e x es h is (λ i. found_in full es e i))

found_known : (r : Option TableShape) (cs : List Column) → IsFound r cs → is_some r ≡ true
found_known None cs h = absurd h
found_known (Some t) cs h = refl

found_columns : (r : Option TableShape) (cs : List Column) → IsFound r cs → unwrap_or (option_map (λ (t : TableShape). t.columns) r) [] ≡ cs
found_columns None cs h = absurd h
found_columns (Some t) cs h = h

known_full : (b : Bool) → (if b then [] else UndefinedTable ∷ []) ≡ [] → true ≡ b
known_full true h = refl
known_full false h = absurd cc

left_empty : (xs ys : List Cause) → xs ++ ys ≡ [] → xs ≡ []
left_empty [] ys h = refl
left_empty (x ∷ xs) ys h = absurd cc

right_empty : (xs ys : List Cause) → xs ++ ys ≡ [] → ys ≡ []
right_empty [] ys h = h
right_empty (x ∷ xs) ys h = absurd cc

sees_one : (full : List TableShape) (es : List EntryTree) (e : EntryTree) → IsIn e es → entry_causes full e ≡ [] → Sees (map (gathered_shape full) es) full e
sees_one full es e i k =
    let small = map (gathered_shape full) es in
    let f = found_in full es e i in
    record {
      known = known_found 0 small e.table ∙ found_known (find (is_called e.table) small) (columns_named full e.table) f ∙ known_full (is_known full e) k;
      columns = ap (λ r. unwrap_or (option_map (λ (t : TableShape). t.columns) r) []) (named_found small e.table)
          ∙ found_columns (find (is_called e.table) small) (columns_named full e.table) f;
    }

sees_those : (full : List TableShape) (es ds : List EntryTree) → ((e : EntryTree) → IsIn e ds → IsIn e es) → flat_map (entry_causes full) ds ≡ [] → SeesAll (map (gathered_shape full) es) full ds
sees_those full es [] f k = tt
sees_those full es (d ∷ ds) f k = (
  sees_one full es d (f d (inl refl)) (left_empty (entry_causes full d) (flat_map (entry_causes full) ds) k),
  sees_those full es ds (λ e i. f e (inr i)) (right_empty (entry_causes full d) (flat_map (entry_causes full) ds) k),
)

-- the tables of the entries, each known, are seen as among all tables
pub sees_gathered : (full : List TableShape) (es : List EntryTree) → flat_map (entry_causes full) es ≡ [] → SeesAll (map (gathered_shape full) es) full es
sees_gathered full es k = sees_those full es es (λ e i. i) k
