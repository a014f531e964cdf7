-- The tables that the query of a cursor reads: they are there, and the rows that its cursor keeps are those of its entries.
use Rattle.std.proofs.Common.{◌≡◌, ℕ, ◌+◌, Bool, true, false, cond, if◌then◌else◌, List, [], ◌∷◌, ◌++◌, Option, Some, is_some, Contains, slice_get, map, flat_map, unwrap_or, inl, refl, ap, sym, ◌∙◌, subst, zero, suc, arith, bytes_eq}
use Rattle.std.specs.List.{list_any}
use Rattle.std.proofs.lemmas.Option.{same_Some}
use Rattle.med_value.specs.declared.cause.Cause.{Cause}
use Rattle.med_value.specs.declared.cause.Cause.TheVariants.{UndefinedTable}
use Rattle.med_syntax.specs.Prelude.{Name, EntryTree, SelectTree, cores_of}
use Rattle.fdw_api.specs.Kinds.{Held}
use Rattle.bind_names.specs.Prelude.{TableShape, place_named, query_entries, is_known, entry_place, entry_causes, core_alias_causes, entered_causes, asked_causes, once_known}
use Rattle.med_binder.specs.Prelude.{shapes, meant_by, IsBindable, Attached, IsPlaceOf, ArePlaces, Place}
use Rattle.med_exec.specs.declared.running.Run.{Run}
use Rattle.med_world.specs.Open.{Opened, leases_table}
use Rattle.med_world.specs.Turning.{new_opened}
use Rattle.med_catalog.specs.Objects.{TableObject, Objects}
use Rattle.med_world.specs.Starting.{leases_of}
use Rattle.sql_meaning.specs.Prelude.{World, Leased, cells_of, rows_of_place, rows_named, rows_leased, leased_now}
use Rattle.sql_meaning.specs.Causes.{entry_tables, entries_in}
use Rattle.med_world.specs.Seats.{StillStands}
use Rattle.med_world.specs.Engine.{IsFirst, LeasesNumber}
use Rattle.med_world.proofs.Lists.{same_bytes}
use Rattle.med_world.proofs.NamedTables.{place_of, at_place, map_place, some_of}
use Rattle.med_world.proofs.Seats.{any_at}
use Rattle.med_world.proofs.ScansChanged.{first_named}
use Rattle.med_world.proofs.TargetRows.{first_from, first_table}

-- ---- where no cause of names stands, each table is known

abbrev AllKnown : List TableShape → List EntryTree → Type 0
AllKnown tables [] = Unit {0}
AllKnown tables (e ∷ es) = (is_known tables e ≡ true) × AllKnown tables es

nil_of : {X : Type 0} (xs : List X) → ((x : X) → Contains xs x → ⊥) → xs ≡ []
nil_of [] h = refl
nil_of (x ∷ xs) h = absurd (h x (at_place (x ∷ xs) 0 x refl))

first_nil : {X : Type 0} (xs ys : List X) → xs ++ ys ≡ [] → xs ≡ []
first_nil [] ys e = refl
first_nil (x ∷ xs) ys e = absurd cc

second_nil : {X : Type 0} (xs ys : List X) → xs ++ ys ≡ [] → ys ≡ []
second_nil [] ys e = e
second_nil (x ∷ xs) ys e = absurd cc

known_nil : (known asked : List Cause) → once_known known asked ≡ [] → known ≡ []
known_nil [] asked e = refl
known_nil (c ∷ cs) asked e = absurd cc

known_entry : (tables : List TableShape) (e : EntryTree) → entry_causes tables e ≡ [] → is_known tables e ≡ true
known_entry tables e none = split (is_known tables e) refl none
  where
    split : (b : Bool) → is_known tables e ≡ b → (if b then [] else UndefinedTable ∷ []) ≡ [] → is_known tables e ≡ true
    split true is q = is
    split false is q = absurd cc

known_entries : (tables : List TableShape) (es : List EntryTree) → flat_map (entry_causes tables) es ≡ [] → AllKnown tables es
known_entries tables [] none = tt
known_entries tables (e ∷ es) none = (
  known_entry tables e (first_nil (entry_causes tables e) (flat_map (entry_causes tables) es) none),
  known_entries tables es (second_nil (entry_causes tables e) (flat_map (entry_causes tables) es) none),
)

all_known : (o : Objects) (user : Name) (q : SelectTree) → IsBindable o user q → AllKnown (shapes o) (query_entries q)
all_known o user q b =
    let none : once_known (entered_causes (shapes o) q) (asked_causes (shapes o) q) ≡ [] = nil_of (once_known (entered_causes (shapes o) q) (asked_causes (shapes o) q)) (λ c has. b.names c (inl has)) in
    known_entries (shapes o) (query_entries q)
    (first_nil (flat_map (entry_causes (shapes o)) (query_entries q)) (flat_map core_alias_causes (cores_of q)) (known_nil (entered_causes (shapes o) q) (asked_causes (shapes o) q) none))

-- ---- the rows of an entry

first_rows : (name : Name) (tables : List TableObject) (rows : List (List Held)) (k : ℕ) → IsFirst name tables k → cells_of (rows_named name tables rows) ≡ rows_of_place rows k
first_rows name [] rows k first = absurd first
first_rows name (t ∷ ts) [] k first = refl
first_rows name (t ∷ ts) (r ∷ rs) zero first = ap (λ b. cells_of (cond b r (rows_named name ts rs))) first
first_rows name (t ∷ ts) (r ∷ rs) (suc k) first = ap (λ b. cells_of (cond b r (rows_named name ts rs))) first.0 ∙ first_rows name ts rs k first.1

-- the place of its table
record AtPlace (o : Objects) (e : EntryTree) : Type 0 where
  place : ℕ
  is : entry_place (shapes o) e ≡ place
  first : IsFirst e.table o.tables place

at_known : (o : Objects) (e : EntryTree) → is_known (shapes o) e ≡ true → AtPlace o e
at_known o e known =
    let p = some_of (place_named (shapes o) e.table) known in
    let f = first_from o.tables e.table 0 p.0 p.1 in
    let same : p.0 ≡ f.0 = (let z : p.0 ≡ 0 + f.0 = f.1 in omega (arith, z)) in
    record { place = f.0; is = ap (λ (x : Option ℕ). unwrap_or x 0) p.1 ∙ same; first = f.2 }

-- ---- all entries

abbrev leased_as : World → EntryTree → Leased
leased_as w e = record { table = e.table; rows = cells_of (rows_named e.table w.catalog.tables w.rows) }

rows_of_entries : (w : World) (es : List EntryTree) → AllKnown (shapes w.catalog) es → (k : ℕ) → rows_leased (map (leased_as w) es) k ≡ entry_tables (map (entry_place (shapes w.catalog)) es) (rows_of_place w.rows) k
rows_of_entries w [] known k = refl
rows_of_entries w (e ∷ es) known zero =
    let at = at_known w.catalog e known.0 in
    first_rows e.table w.catalog.tables w.rows at.place at.first ∙ ap (rows_of_place w.rows) (sym at.is)
rows_of_entries w (e ∷ es) known (suc k) = rows_of_entries w es known.1 k

-- the rows that a cursor keeps at DECLARE are those that its query is over
pub rows_kept : (w : World) (user : Name) (q : SelectTree) → IsBindable w.catalog user q → rows_leased (leased_now w q) ≡ entries_in w q
rows_kept w user q b = λ i k. rows_of_entries w (query_entries q) (all_known w.catalog user q b) k i

tables_of : (w : World) (es : List EntryTree) → map (λ (l : Leased). l.table) (map (leased_as w) es) ≡ map (λ (e : EntryTree). e.table) es
tables_of w [] = refl
tables_of w (e ∷ es) = ap (λ (ns : List Name). e.table ∷ ns) (tables_of w es)

pub tables_kept : (w : World) (q : SelectTree) → map (λ (l : Leased). l.table) (leased_now w q) ≡ leases_of q
tables_kept w q = tables_of w (query_entries q)

-- they stand
entry_stands : (w : World) (es : List EntryTree) → AllKnown (shapes w.catalog) es → (k : ℕ) (l : Leased) → slice_get (map (leased_as w) es) k ≡ Some l → StillStands w l
entry_stands w [] known k l at = absurd cc
entry_stands w (e ∷ es) known zero l at =
    let p = at_known w.catalog e known.0 in
    subst (StillStands w) (same_Some (leased_as w e) l at) (record { there = ap is_some (first_table w.catalog.tables e.table p.place p.first).2; rows = refl })
entry_stands w (e ∷ es) known (suc k) l at = entry_stands w es known.1 k l at

pub tables_stand : (w : World) (user : Name) (q : SelectTree) → IsBindable w.catalog user q → (l : Leased) → Contains (leased_now w q) l → StillStands w l
tables_stand w user q b l has = let p = place_of (leased_now w q) l has in entry_stands w (query_entries q) (all_known w.catalog user q b) p.0 l p.1

-- ---- a table that is read is leased

-- the place of an entry is one of the places of the entries
pub leased_entry : (tables : List TableObject) (bound : List Attached) (c : Opened) (slot number : ℕ) (e : EntryTree) (k : ℕ) (p : Place) → IsFirst e.table tables k → IsPlaceOf bound k p → p.source ≡ slot → p.table ≡ number → leases_table e.table c ≡ true
    → LeasesNumber tables bound c slot number
leased_entry tables bound c slot number e k p first is source table leases =
    let t = first_table tables e.table k first in
    record {
      place = k;
      table = t.0;
      at = is.at;
      there = t.1;
      is_bound = is.there;
      source_is = sym is.source ∙ source;
      number_is = sym is.number ∙ table;
      leases = ap (λ (name : Name). leases_table name c) (first_named e.table tables k t.0 first t.1) ∙ leases;
    }

-- the entries from some place on: each of their tables is leased
entries_leased : (o : Objects) (bound : List Attached) (c : Opened) (slot number : ℕ) (es : List EntryTree) (places : List Place) (p : Place) → AllKnown (shapes o) es → ArePlaces bound (map (entry_place (shapes o)) es) places
    → ((k : ℕ) (e : EntryTree) → slice_get es k ≡ Some e → leases_table e.table c ≡ true) → (k : ℕ) → slice_get places k ≡ Some p → p.source ≡ slot → p.table ≡ number → LeasesNumber o.tables bound c slot number
entries_leased o bound c slot number [] [] p known are leases k at source table = absurd (let e = at in cc)
entries_leased o bound c slot number [] (x ∷ xs) p known are leases k at source table = absurd are
entries_leased o bound c slot number (e ∷ es) [] p known are leases k at source table = absurd are
entries_leased o bound c slot number (e ∷ es) (x ∷ xs) p known are leases zero at source table =
    let a = at_known o e known.0 in
    let same : x ≡ p = same_Some x p at in
    leased_entry o.tables bound c slot number e a.place p a.first (subst (λ (y : Place). IsPlaceOf bound a.place y) same (subst (λ (j : ℕ). IsPlaceOf bound j x) a.is are.0)) source table (leases zero e refl)
entries_leased o bound c slot number (e ∷ es) (x ∷ xs) p known are leases (suc k) at source table =
    entries_leased o bound c slot number es xs p known.1 are.1 (λ j. leases (suc j)) k at source table

all_leased : (c : Opened) (es : List EntryTree) → c.leases ≡ map (λ (e : EntryTree). e.table) es → (k : ℕ) (e : EntryTree) → slice_get es k ≡ Some e → leases_table e.table c ≡ true
all_leased c es same k e at =
    ap (λ (names : List Name). list_any (bytes_eq e.table) names) same
    ∙ any_at (bytes_eq e.table) (map (λ (x : EntryTree). x.table) es) k e.table (map_place (λ (x : EntryTree). x.table) es k e at) (same_bytes e.table e.table refl)

pub place_leased : (o : Objects) (user : Name) (bound : List Attached) (q : SelectTree) (names : List Name) (name : Name) (run : Run) (places : List Place) (slot number : ℕ) (p : Place) → IsBindable o user q → ArePlaces bound (meant_by o q).entries places
    → Contains places p → p.source ≡ slot → p.table ≡ number → LeasesNumber o.tables bound (new_opened name names q run) slot number
place_leased o user bound q names name run places slot number p b are has source table =
    let c = new_opened name names q run in
    let k = place_of places p has in
    entries_leased o bound c slot number (query_entries q) places p (all_known o user q b) are (all_leased c (query_entries q) refl) k.0 k.1 source table
