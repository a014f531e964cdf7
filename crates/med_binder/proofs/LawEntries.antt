-- Where no cause of names stands, each entry of FROM is the place of a table.
use Rattle.std.proofs.Common.{◌≡◌, ℕ, suc, ◌+◌, ◌<◌, Bool, true, false, List, [], ◌∷◌, ◌++◌, Option, Some, None, Contains, flat_map, map, length, unwrap_or, bytes_eq, refl, if◌then◌else◌, arith}
use Rattle.std.specs.Option.{is_some}
use Rattle.std.proofs.lemmas.List.Elements.{All-cons, All-nil}
use Rattle.med_value.specs.declared.cause.Cause.{Cause}
use Rattle.med_value.specs.declared.cause.Cause.TheVariants.{UndefinedTable}
use Rattle.med_syntax.specs.Prelude.{Name, EntryTree, SelectTree, cores_of, StatementTree, select}
use Rattle.bind_names.specs.Prelude.{TableShape, query_entries, place_from, place_named, entry_place, entry_causes, core_alias_causes, entered_causes, asked_causes, once_known, statement_name_causes, NameCauses, meant}
use Rattle.med_binder.specs.Within.{ArePlacesOf}

-- ---- lists without elements

pub left_empty : (xs ys : List Cause) → xs ++ ys ≡ [] → xs ≡ []
left_empty [] ys h = refl
left_empty (x ∷ xs) ys h = absurd cc

pub right_empty : (xs ys : List Cause) → xs ++ ys ≡ [] → ys ≡ []
right_empty [] ys h = h
right_empty (x ∷ xs) ys h = absurd cc

pub known_empty : (xs ys : List Cause) → once_known xs ys ≡ [] → xs ≡ []
known_empty [] ys h = refl
known_empty (x ∷ xs) ys h = absurd cc

asked_empty : (xs ys : List Cause) → once_known xs ys ≡ [] → ys ≡ []
asked_empty [] ys h = h
asked_empty (x ∷ xs) ys h = absurd cc

pub none_stands : (xs : List Cause) → ((c : Cause) → Contains xs c → ⊥) → xs ≡ []
none_stands [] n = refl
none_stands (x ∷ xs) n = absurd (n x (0, omega arith, refl))

pub no_entered : (tables : List TableShape) (q : SelectTree) → ((c : Cause) → NameCauses tables (select q) c → ⊥) → entered_causes tables q ≡ []
no_entered tables q n = known_empty (entered_causes tables q) (asked_causes tables q) (none_stands (statement_name_causes tables (select q)) n)

pub no_asked : (tables : List TableShape) (q : SelectTree) → ((c : Cause) → NameCauses tables (select q) c → ⊥) → asked_causes tables q ≡ []
no_asked tables q n = asked_empty (entered_causes tables q) (asked_causes tables q) (none_stands (statement_name_causes tables (select q)) n)

-- ---- places of tables

abbrev IsBelow : ℕ → Option ℕ → Type 0
IsBelow w None = Unit {0}
IsBelow w (Some p) = p < w

below_if : (b : Bool) (w at : ℕ) (o : Option ℕ) → at < w → IsBelow w o → IsBelow w (if b then Some at else o)
below_if true w at o lt h = lt
below_if false w at o lt h = h

below_more : (v w : ℕ) (o : Option ℕ) → v ≡ w → IsBelow v o → IsBelow w o
below_more v w None e h = tt
below_more v w (Some p) e h = let lt : p < v = h in omega (arith, lt, e)

place_below : (at : ℕ) (ts : List TableShape) (n : Name) → IsBelow (at + length ts) (place_from at ts n)
place_below at [] n = tt
place_below at (t ∷ ts) n =
    below_if (bytes_eq t.name n) (at + length (t ∷ ts)) at (place_from (suc at) ts n) (omega arith)
    (below_more (suc at + length ts) (at + length (t ∷ ts)) (place_from (suc at) ts n) (omega arith) (place_below (suc at) ts n))

known_below : (w : ℕ) (o : Option ℕ) → IsBelow w o → (if is_some o then [] else UndefinedTable ∷ []) ≡ [] → unwrap_or o 0 < w
known_below w None b h = absurd cc
known_below w (Some p) b h = b

entry_below : (tables : List TableShape) (e : EntryTree) → entry_causes tables e ≡ [] → entry_place tables e < length tables
entry_below tables e h =
    known_below (length tables) (place_named tables e.table) (below_more (0 + length tables) (length tables) (place_named tables e.table) (omega arith) (place_below 0 tables e.table)) h

entries_below : (tables : List TableShape) (es : List EntryTree) → flat_map (entry_causes tables) es ≡ [] → ArePlacesOf tables (map (entry_place tables) es)
entries_below tables [] h = All-nil (λ (place : ℕ). place < length tables)
entries_below tables (e ∷ es) h =
    All-cons (λ (place : ℕ). place < length tables) (entry_place tables e) (map (entry_place tables) es)
    (entry_below tables e (left_empty (entry_causes tables e) (flat_map (entry_causes tables) es) h))
    (entries_below tables es (right_empty (entry_causes tables e) (flat_map (entry_causes tables) es) h))

pub entries_stand : (tables : List TableShape) (statement : StatementTree) → ((c : Cause) → NameCauses tables statement c → ⊥) → ArePlacesOf tables (meant tables statement).entries
entries_stand tables (select q) n = entries_below tables (query_entries q) (left_empty (flat_map (entry_causes tables) (query_entries q)) (flat_map core_alias_causes (cores_of q)) (no_entered tables q n))
