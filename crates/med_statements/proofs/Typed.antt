-- The rows that a write writes are of its table's types: without a query always, and with one wherever the boxes are honest.
use Rattle.std.proofs.Common.{◌≡◌, ◌∙◌, ℕ, zero, suc, ◌+◌, true, List, [], ◌∷◌, ◌++◌, Option, Some, None, map, flat_map, slice_get, is_some, unwrap_or, All, refl, ap, sym, subst, arith, if◌then◌else◌}
use Rattle.std.specs.List.{list_all}
use Rattle.std.proofs.lemmas.List.Folds.{list_all-map}
use Rattle.std.proofs.lemmas.List.Sums.{AllPass-from_list_all}
use Rattle.std.proofs.lemmas.List.Sorted.{IsPermutation-refl}
use Rattle.std.proofs.lemmas.Option.{same_Some}
use Rattle.med_value.specs.Prelude.{Column, Tuple}
use Rattle.med_value.specs.declared.cause.Cause.{Cause}
use Rattle.med_value.specs.declared.cause.Cause.TheVariants.{UndefinedTable}
use Rattle.med_value.specs.declared.value.ColType.{ColType}
use Rattle.med_syntax.specs.Prelude.{Name, EntryTree, SelectTree, GivenTree, values, rows_of, InsertTree, WriteTree, insert, update, delete}
use Rattle.med_query.specs.Prelude.{Tables, IsAnswer, are_safe_cores}
use Rattle.fdw_api.specs.Prelude.{kinds_of, TableRow, row_fits, IsTableOf}
use Rattle.fdw_api.specs.State.{BoxState, rows_of as rows_in_box}
use Rattle.med_binder.specs.Place.{Place, entry_place as place_of}
use Rattle.med_planner.specs.Planned.{rows_shown, entry_rows}
use Rattle.med_exec.specs.Prelude.{HonestAt, HonestOver, BoxAt, IsTypedWrite}
use Rattle.med_catalog.specs.Objects.{TableObject, Objects, table_named}
use Rattle.bind_names.specs.Prelude.{place_named, entry_place, entry_columns, query_entries, query_scope, entry_causes, entered_causes, asked_causes, select_name_causes, once_known}
use Rattle.bind_types.specs.Typing.{select_type_causes}
use Rattle.med_binder.specs.Prelude.{Attached, IsPlaceOf, ArePlaces, meant_by, shapes, IsMeant, bound_widths, widths}
use Rattle.med_binder.proofs.Rows.{columns_there}
use Rattle.med_binder.specs.declared.bound.BoundQuery.{BoundQuery}
use Rattle.bind_write.specs.Meaning.{target_of, columns_in, write_meant}
use Rattle.bind_write.specs.Naming.{target_causes, named_causes, names_of}
use Rattle.bind_types.specs.TreeTypes.{column_kinds}
use Rattle.bind_write.specs.Typing.{WriteTypes, types_of}
use Rattle.bind_write.proofs.Lists.{empty_by, none_in}
use Rattle.bind_write.specs.Binding.{IsBindable, IsQueryOf, IsGivenQuery as IsBoundGiven}
use Rattle.med_statements.specs.Typed.{IsClean, AreTyped, IsAnswered, AreGivenRows}
use Rattle.sql_meaning.specs.Causes.{query_of, OfGiven, OfQuery}
use Rattle.med_world.specs.Prelude.{IsFirst, AnswersOver}
use Rattle.med_world.proofs.TargetRows.{first_from, first_table}
use Rattle.med_statements.specs.Ready.{IsBoundAs}
use Rattle.med_statements.specs.ReadyWrites.{IsReady}

-- the law of typed writes
abbrev pub WritesAreTyped : Type 0
WritesAreTyped = (o : Objects) (t : WriteTree) (db : Tables) (answer : List Tuple) → ((c : Cause) → WriteTypes o t c → ⊥) → IsClean t → AreGivenRows (shapes o) t db answer
    → IsTypedWrite (column_kinds (columns_in (shapes o) (target_of t))) (write_meant (shapes o) t) answer

abbrev pub IsTypedFor : Objects → WriteTree → List Tuple → Type 0
IsTypedFor o t answer = IsTypedWrite (column_kinds (columns_in (shapes o) (target_of t))) (write_meant (shapes o) t) answer

-- ---- no query

none_given : (o : Objects) (bound : List Attached) (t : WriteTree) (db : Tables) (answer : List Tuple) → IsQueryOf o bound t None → AreGivenRows (shapes o) t db answer
none_given o bound (insert i) db answer h = of_given i.given h
  where
    of_given : (g : GivenTree) → IsBoundGiven o bound g None → IsAnswered (shapes o) g db answer
    of_given (values rows) x = tt
    of_given (rows_of q) x = absurd x
none_given o bound (update u) db answer h = tt
none_given o bound (delete d) db answer h = tt

pub typed_alone : WritesAreTyped → (o : Objects) (user : Name) (bound : List Attached) (t : WriteTree) (answer : List Tuple) → IsBindable o user t → IsClean t → IsQueryOf o bound t None → IsTypedFor o t answer
typed_alone law o user bound t answer is clean none = law o t (λ k. []) answer is.types clean (none_given o bound t (λ k. []) answer none)

-- ---- a query

left_none : {X : Type 0} (xs ys : List X) → xs ++ ys ≡ [] → xs ≡ []
left_none [] ys h = refl
left_none (x ∷ xs) ys h = absurd cc

right_none : {X : Type 0} (xs ys : List X) → xs ++ ys ≡ [] → ys ≡ []
right_none [] ys h = h
right_none (x ∷ xs) ys h = absurd cc

-- the write is an INSERT of the rows of this query
pub record HasQuery (o : Objects) (bound : List Attached) (t : WriteTree) (b : BoundQuery) : Type 0 where
  pub inserts : InsertTree
  pub is : insert inserts ≡ t
  pub query : SelectTree
  pub given : rows_of query ≡ inserts.given
  pub meant : IsMeant (meant_by o query) b
  pub places : ArePlaces bound (meant_by o query).entries (map place_of b.entries.items)
  pub widths : bound_widths b ≡ widths (query_scope (shapes o) query)
  pub safe : are_safe_cores b.select.cores.items ≡ true

pub has_query : (o : Objects) (bound : List Attached) (t : WriteTree) (b : BoundQuery) → IsQueryOf o bound t (Some b) → HasQuery o bound t b
has_query o bound (insert i) b h = of_given i.given refl h
  where
    of_given : (g : GivenTree) → g ≡ i.given → IsBoundGiven o bound g (Some b) → HasQuery o bound (insert i) b
    of_given (values rows) same x = absurd x
    of_given (rows_of q) same x = record { inserts = i; is = refl; query = q; given = same; meant = x.0; places = x.1; widths = x.2; safe = x.3 }
has_query o bound (update u) b h = absurd cc
has_query o bound (delete d) b h = absurd cc

pub of_its_query : (P : SelectTree → Type 0) (o : Objects) (bound : List Attached) (t : WriteTree) (b : BoundQuery) → (h : HasQuery o bound t b) → P h.query → OfQuery P t
of_its_query P o bound t b h p = subst (λ (x : WriteTree). OfQuery P x) h.is (subst (λ (g : GivenTree). OfGiven P g) h.given p)

-- no cause of its names stands, nor one of its types
once_asked : (known from named asked : List Cause) → once_known (known ++ from) (named ++ asked) ≡ [] → once_known from asked ≡ []
once_asked [] [] named asked h = right_none named asked h
once_asked [] (c ∷ from) named asked h = absurd cc
once_asked (c ∷ known) from named asked h = absurd cc

names_clear : (o : Objects) (user : Name) (i : InsertTree) (g : GivenTree) (q : SelectTree) → rows_of q ≡ g → names_of o user (insert (record { table = i.table; columns = i.columns; given = g })) ≡ [] → select_name_causes (shapes o) q ≡ []
names_clear o user i (values rows) q same h = absurd cc
names_clear o user i (rows_of r) q same h =
    let one : q ≡ r = cc in
    subst (λ (x : SelectTree). select_name_causes (shapes o) x ≡ []) (sym one)
    (once_asked (target_causes (shapes o) i.table) (entered_causes (shapes o) r) (named_causes (columns_in (shapes o) i.table) i.columns) (asked_causes (shapes o) r) (left_none _ _ h))

types_clear : (o : Objects) (i : InsertTree) (g : GivenTree) (q : SelectTree) → rows_of q ≡ g → types_of o (insert (record { table = i.table; columns = i.columns; given = g })) ≡ [] → select_type_causes (shapes o) q ≡ []
types_clear o i (values rows) q same h = absurd cc
types_clear o i (rows_of r) q same h =
    let one : q ≡ r = cc in
    subst (λ (x : SelectTree). select_type_causes (shapes o) x ≡ []) (sym one) (left_none (select_type_causes (shapes o) r) _ h)

pub bound_as : (o : Objects) (user : Name) (bound : List Attached) (t : WriteTree) (b : BoundQuery) → IsBindable o user t → (h : HasQuery o bound t b) → IsBoundAs o bound h.query b
bound_as o user bound t b is h = record {
  names = λ c stands. none_in (select_name_causes (shapes o) h.query) c named stands;
  types = λ c stands. none_in (select_type_causes (shapes o) h.query) c typed stands;
  meant = h.meant;
  places = h.places;
  widths = h.widths;
  safe = h.safe;
}
  where
    named : select_name_causes (shapes o) h.query ≡ []
    named = names_clear o user h.inserts h.inserts.given h.query h.given (subst (λ (x : WriteTree). names_of o user x ≡ []) (sym h.is) (empty_by (names_of o user t) is.names))

    typed : select_type_causes (shapes o) h.query ≡ []
    typed = types_clear o h.inserts h.inserts.given h.query h.given (subst (λ (x : WriteTree). types_of o x ≡ []) (sym h.is) (empty_by (types_of o t) is.types))

-- ---- the rows of its entries

abbrev AllFit : List ColType → List Tuple → Type 0
AllFit kinds rows = All (λ r. row_fits kinds r ≡ true) rows

cells_fit : (kinds : List ColType) (rows : List TableRow) → list_all (λ r. row_fits kinds r.cells) rows ≡ true → AllFit kinds (map (λ r. r.cells) rows)
cells_fit kinds rows h = AllPass-from_list_all (row_fits kinds) (map (λ (r : TableRow). r.cells) rows) (list_all-map (row_fits kinds) (λ (r : TableRow). r.cells) rows ∙ h)

unknown_named : (o : Objects) (e : EntryTree) → place_named (shapes o) e.table ≡ None → entry_causes (shapes o) e ≡ [] → ⊥
unknown_named o e none h = let x : UndefinedTable ∷ [] ≡ [] = sym (ap (λ (r : Option ℕ). if is_some r then [] else UndefinedTable ∷ []) none) ∙ h in absurd cc

entry_at : (o : Objects) (bound : List Attached) (boxes : List (Option BoxState)) (e : EntryTree) (p : Place) (k : ℕ) → IsReady o bound boxes → HonestAt boxes p.source → place_named (shapes o) e.table ≡ Some k → IsPlaceOf bound (entry_place (shapes o) e) p
    → AllFit (column_kinds (entry_columns (shapes o) e)) (rows_shown (slice_get boxes p.source) p.table)
entry_at o bound boxes e p k ready honest named at = subst (λ (cs : List Column). AllFit (column_kinds cs) (rows_shown (slice_get boxes p.source) p.table)) (sym (columns_there o e u.0 u.2))
    (subst (λ (rows : List Tuple). AllFit (kinds_of u.0.columns) rows) (sym shown) (subst (λ (ks : List ColType). AllFit ks (map (λ r. r.cells) (rows_in_box x.box at.at.number))) x.holds.2
    (cells_fit x.holds.0.kinds (rows_in_box x.box at.at.number) ((ready.sound at.at.source x.box x.there).typed (honest x.box (ap (slice_get boxes) at.source ∙ x.there)) at.at.number x.holds.0 x.holds.1))))
  where
    f : (j : ℕ) × (k ≡ 0 + j) × IsFirst e.table o.tables j
    f = first_from o.tables e.table 0 k named

    u : (u : TableObject) × (slice_get o.tables f.0 ≡ Some u) × (table_named o e.table ≡ Some u)
    u = first_table o.tables e.table f.0 f.2

    same : entry_place (shapes o) e ≡ f.0
    same = ap (λ (r : Option ℕ). unwrap_or r 0) named ∙ (let z : k ≡ 0 + f.0 = f.1 in omega (arith, z))

    x : BoxAt boxes at.at.source (λ s. IsTableOf s at.at.number (kinds_of u.0.columns))
    x = ready.tables f.0 u.0 at.at u.1 (ap (slice_get bound) (sym same) ∙ at.there)

    shown : rows_shown (slice_get boxes p.source) p.table ≡ map (λ r. r.cells) (rows_in_box x.box at.at.number)
    shown = ap (λ (n : ℕ). rows_shown (slice_get boxes n) p.table) at.source ∙ ap (λ (b : Option (Option BoxState)). rows_shown b p.table) x.there ∙ ap (λ (n : ℕ). map (λ (r : TableRow). r.cells) (rows_in_box x.box n)) at.number

entry_typed : (o : Objects) (bound : List Attached) (boxes : List (Option BoxState)) (e : EntryTree) (p : Place) → IsReady o bound boxes → HonestAt boxes p.source → entry_causes (shapes o) e ≡ [] → IsPlaceOf bound (entry_place (shapes o) e) p
    → AllFit (column_kinds (entry_columns (shapes o) e)) (rows_shown (slice_get boxes p.source) p.table)
entry_typed o bound boxes e p ready honest known at = by (place_named (shapes o) e.table) refl
  where
    by : (r : Option ℕ) → place_named (shapes o) e.table ≡ r → AllFit (column_kinds (entry_columns (shapes o) e)) (rows_shown (slice_get boxes p.source) p.table)
    by None is = absurd (unknown_named o e is known)
    by (Some k) is = entry_at o bound boxes e p k ready honest is at

entries_typed : (o : Objects) (bound : List Attached) (boxes : List (Option BoxState)) → IsReady o bound boxes → (es : List EntryTree) (ps : List Place) → HonestOver ps boxes → flat_map (entry_causes (shapes o)) es ≡ [] → ArePlaces bound (map (entry_place (shapes o)) es) ps
    → AreTyped (shapes o) es (entry_rows boxes ps)
entries_typed o bound boxes ready [] ps honest known h number e at = absurd cc
entries_typed o bound boxes ready (x ∷ es) [] honest known h number e at = absurd h
entries_typed o bound boxes ready (x ∷ es) (p ∷ ps) honest known h zero e at =
    subst (λ (y : EntryTree). AllFit (column_kinds (entry_columns (shapes o) y)) (rows_shown (slice_get boxes p.source) p.table)) (same_Some x e at)
    (entry_typed o bound boxes x p ready (honest p.source (zero, omega arith, refl)) (left_none (entry_causes (shapes o) x) (flat_map (entry_causes (shapes o)) es) known) h.0)
entries_typed o bound boxes ready (x ∷ es) (p ∷ ps) honest known h (suc number) e at =
    entries_typed o bound boxes ready es ps (λ slot has. let n = has.1 in honest slot (suc has.0, omega (arith, n), has.2)) (right_none (entry_causes (shapes o) x) (flat_map (entry_causes (shapes o)) es) known) h.1 number e at

known_first : (known asked : List Cause) → once_known known asked ≡ [] → known ≡ []
known_first [] asked h = refl
known_first (c ∷ cs) asked h = absurd cc

-- the tables of FROM are known
from_known : (o : Objects) (user : Name) (i : InsertTree) (g : GivenTree) (q : SelectTree) → rows_of q ≡ g → names_of o user (insert (record { table = i.table; columns = i.columns; given = g })) ≡ [] → flat_map (entry_causes (shapes o)) (query_entries q) ≡ []
from_known o user i (values rows) q same h = absurd cc
from_known o user i (rows_of r) q same h =
    let one : q ≡ r = cc in
    subst (λ (x : SelectTree). flat_map (entry_causes (shapes o)) (query_entries x) ≡ []) (sym one)
    (left_none (flat_map (entry_causes (shapes o)) (query_entries r)) _ (right_none (target_causes (shapes o) i.table) (entered_causes (shapes o) r)
    (known_first (target_causes (shapes o) i.table ++ entered_causes (shapes o) r) _ (left_none _ _ h))))

pub typed_answer : WritesAreTyped → (o : Objects) (user : Name) (bound : List Attached) (t : WriteTree) (b : BoundQuery) (boxes : List (Option BoxState)) (answer : List Tuple) → IsReady o bound boxes → IsBindable o user t → IsClean t → (h : HasQuery o bound t b)
    → AnswersOver (query_of (meant_by o h.query)) (map place_of b.entries.items) boxes answer → HonestOver (map place_of b.entries.items) boxes → IsTypedFor o t answer
typed_answer law o user bound t b boxes answer ready is clean h over honest = law o t db answer is.types clean (subst (λ (x : WriteTree). AreGivenRows (shapes o) x db answer) h.is (subst (λ (g : GivenTree). IsAnswered (shapes o) g db answer) h.given (typed, shows)))
  where
    db : Tables
    db = entry_rows boxes (map place_of b.entries.items)

    none : names_of o user t ≡ []
    none = empty_by (names_of o user t) is.names

    known : flat_map (entry_causes (shapes o)) (query_entries h.query) ≡ []
    known = from_known o user h.inserts h.inserts.given h.query h.given (subst (λ (x : WriteTree). names_of o user x ≡ []) (sym h.is) none)

    typed : AreTyped (shapes o) (query_entries h.query) db
    typed = entries_typed o bound boxes ready (query_entries h.query) (map place_of b.entries.items) honest known h.places

    shows : IsAnswer (query_of (meant_by o h.query)) db answer
    shows = over.answers honest db (λ k. IsPermutation-refl (db k))
