-- A query that was bound over the tables of a catalogue may be asked of the boxes in which these are bound.
use Rattle.std.proofs.Common.{◌≡◌, ◌∙◌, inl, true, eqb, cond, ℕ, ◌+◌, zero, suc, List, [], ◌∷◌, ◌++◌, Option, Some, None, map, flat_map, length, slice_get, is_some, unwrap_or, Contains, refl, ap, sym, subst, arith, if◌then◌else◌}
use Rattle.std.proofs.lemmas.List.{length-map}
use Rattle.std.proofs.lemmas.Option.{same_Some}
use Rattle.med_value.specs.Column.{Column}
use Rattle.med_value.specs.declared.cause.Cause.{Cause}
use Rattle.med_value.specs.declared.cause.Cause.TheVariants.{UndefinedTable}
use Rattle.med_value.specs.declared.value.ColType.{ColType}
use Rattle.med_syntax.specs.Prelude.{EntryTree, SelectTree, StatementTree, select, Name}
use Rattle.med_query.specs.Prelude.{are_safe_cores, Form, form_of}
use Rattle.fdw_api.specs.Prelude.{kinds_of, BoxState, IsTableOf}
use Rattle.med_binder.specs.Place.{Place, entry_place as place_of}
use Rattle.bind_names.specs.Prelude.{meant, NameCauses, entry_causes, entered_causes, asked_causes, select_name_causes, once_known, TableShape, Scope, place_named, entry_place, entry_columns, entry_shape, query_entries, query_scope}
use Rattle.bind_types.specs.Typing.{TypeCauses}
use Rattle.med_binder.specs.Prelude.{FormAlike, kinds_among, kinds, from_kinds, IsMeant, FormCounts, bound_widths, FormWithin, widths, widths_of, Attached, IsPlaceOf, ArePlaces, meant_by, IsBindable, shapes}
use Rattle.med_binder.specs.declared.bound.BoundEntry.{BoundEntry}
use Rattle.med_binder.specs.declared.bound.BoundQuery.{BoundQuery}
use Rattle.med_exec.specs.Prelude.{BeginsScans, BoxAt, IsReady}
use Rattle.med_catalog.specs.Objects.{TableObject, Objects, table_named}
use Rattle.med_binder.proofs.Rows.{columns_there}
use Rattle.scan_loops.specs.Scans.{or_none, bound_in, bound_at}
use Rattle.med_planner.specs.Premises.{IsOfKinds, AreOfKinds, SoundIsWide}
use Rattle.med_exec.specs.BoundCounting.{scans_of, tables_in as tables_counted, tables_in}
use Rattle.med_world.specs.Prelude.{ReadsTables, IsFirst}
use Rattle.med_world.proofs.TargetRows.{first_from, first_table}
use Rattle.med_statements.specs.Ready.{AreReady, IsBoundAs}

-- ---- the laws of binding

abbrev pub Counts : Type 0
Counts = (tables : List TableShape) (statement : StatementTree) → FormCounts (widths_of tables statement) (meant tables statement).form

abbrev pub Views : Type 0
Views = (tables : List TableShape) (statement : StatementTree) → ((c : Cause) → NameCauses tables statement c → ⊥) → FormWithin (widths_of tables statement) (meant tables statement).form

abbrev pub Compares : Type 0
Compares = (tables : List TableShape) (statement : StatementTree) → ((c : Cause) → NameCauses tables statement c → ⊥) → ((c : Cause) → TypeCauses tables statement c → ⊥) → FormAlike (from_kinds tables statement) (meant tables statement).form

-- ---- the tables of FROM are known

empty_by : (cs : List Cause) → ((c : Cause) → Contains cs c → ⊥) → cs ≡ []
empty_by [] h = refl
empty_by (c ∷ cs) h = absurd (h c (0, omega arith, refl))

known_first : (known asked : List Cause) → once_known known asked ≡ [] → known ≡ []
known_first [] asked h = refl
known_first (c ∷ cs) asked h = absurd cc

left_none : (xs ys : List Cause) → xs ++ ys ≡ [] → xs ≡ []
left_none [] ys h = refl
left_none (x ∷ xs) ys h = absurd cc

right_none : (xs ys : List Cause) → xs ++ ys ≡ [] → ys ≡ []
right_none [] ys h = h
right_none (x ∷ xs) ys h = absurd cc

from_known : (o : Objects) (q : SelectTree) → ((c : Cause) → NameCauses (shapes o) (select q) c → ⊥) → flat_map (entry_causes (shapes o)) (query_entries q) ≡ []
from_known o q none =
    left_none (flat_map (entry_causes (shapes o)) (query_entries q)) _
    (known_first (entered_causes (shapes o) q) (asked_causes (shapes o) q) (empty_by (select_name_causes (shapes o) q) none))

unknown_named : (o : Objects) (e : EntryTree) → place_named (shapes o) e.table ≡ None → entry_causes (shapes o) e ≡ [] → ⊥
unknown_named o e none h = let x : UndefinedTable ∷ [] ≡ [] = sym (ap (λ (r : Option ℕ). if is_some r then [] else UndefinedTable ∷ []) none) ∙ h in absurd cc

-- ---- the tables of entries

module _ (o : Objects) (bound : List Attached) (boxes : List (Option BoxState)) (ready : AreReady o bound boxes) where
  -- the table of an entry is bound in its box, with the types of the entry's columns
  entry_at : (e : EntryTree) (p : Place) (k : ℕ) → place_named (shapes o) e.table ≡ Some k → IsPlaceOf bound (entry_place (shapes o) e) p → BoxAt boxes p.source (λ s. IsTableOf s p.table (kinds_among (entry_columns (shapes o) e)))
  entry_at e p k named at =
      subst (λ (n : ℕ). BoxAt boxes n (λ s. IsTableOf s p.table (kinds_among (entry_columns (shapes o) e)))) (sym at.source)
      (subst (λ (n : ℕ). BoxAt boxes at.at.source (λ s. IsTableOf s n (kinds_among (entry_columns (shapes o) e)))) (sym at.number)
      (subst (λ (cs : List Column). BoxAt boxes at.at.source (λ s. IsTableOf s at.at.number (kinds_among cs))) (sym (columns_there o e u.0 u.2)) x))
    where
      f : (j : ℕ) × (k ≡ 0 + j) × IsFirst e.table o.tables j
      f = first_from o.tables e.table 0 k named

      u : (u : TableObject) × (slice_get o.tables f.0 ≡ Some u) × (table_named o e.table ≡ Some u)
      u = first_table o.tables e.table f.0 f.2

      same : entry_place (shapes o) e ≡ f.0
      same = ap (λ (r : Option ℕ). unwrap_or r 0) named ∙ (let z : k ≡ 0 + f.0 = f.1 in omega (arith, z))

      x : BoxAt boxes at.at.source (λ s. IsTableOf s at.at.number (kinds_of u.0.columns))
      x = ready.tables f.0 u.0 at.at u.1 (ap (slice_get bound) (sym same) ∙ at.there)

  entry_bound : (e : EntryTree) (p : Place) → entry_causes (shapes o) e ≡ [] → IsPlaceOf bound (entry_place (shapes o) e) p → BoxAt boxes p.source (λ s. IsTableOf s p.table (kinds_among (entry_columns (shapes o) e)))
  entry_bound e p known at = by (place_named (shapes o) e.table) refl
    where
      by : (r : Option ℕ) → place_named (shapes o) e.table ≡ r → BoxAt boxes p.source (λ s. IsTableOf s p.table (kinds_among (entry_columns (shapes o) e)))
      by None is = absurd (unknown_named o e is known)
      by (Some k) is = entry_at e p k is at

  first_typed : (b : BoundEntry) (bs : List BoundEntry) (ks : List ColType) → BoxAt boxes b.source (λ s. IsTableOf s b.table.number ks) → IsOfKinds (bound_at boxes) (b ∷ bs) 0 ks
  first_typed b bs ks h = record {
    table = h.holds.0;
    is = ap (λ (x : Option (Option BoxState)). bound_in (or_none x) b.table.number) h.there ∙ h.holds.1;
    kinds = h.holds.2;
  }

  later_typed : (b : BoundEntry) (bs : List BoundEntry) (k : ℕ) (ks : List ColType) → IsOfKinds (bound_at boxes) bs k ks → IsOfKinds (bound_at boxes) (b ∷ bs) (suc k) ks
  later_typed b bs k ks h = record { table = h.table; is = h.is; kinds = h.kinds }

  entries_typed : (es : List EntryTree) (bs : List BoundEntry) → flat_map (entry_causes (shapes o)) es ≡ [] → ArePlaces bound (map (entry_place (shapes o)) es) (map place_of bs)
      → (k : ℕ) (ks : List ColType) → slice_get (kinds (map (entry_shape (shapes o)) es)) k ≡ Some ks → IsOfKinds (bound_at boxes) bs k ks
  entries_typed [] bs known h k ks at = absurd cc
  entries_typed (e ∷ es) [] known h k ks at = absurd h
  entries_typed (e ∷ es) (b ∷ bs) known h zero ks at =
      let one = entry_bound e (place_of b) (left_none (entry_causes (shapes o) e) (flat_map (entry_causes (shapes o)) es) known) h.0 in
      first_typed b bs ks (subst (λ (l : List ColType). BoxAt boxes b.source (λ s. IsTableOf s b.table.number l)) (same_Some (kinds_among (entry_columns (shapes o) e)) ks at) one)
  entries_typed (e ∷ es) (b ∷ bs) known h (suc k) ks at =
      later_typed b bs k ks (entries_typed es bs (right_none (entry_causes (shapes o) e) (flat_map (entry_causes (shapes o)) es) known) h.1 k ks at)

-- as many columns as types
widths_typed : (s : Scope) → widths s ≡ map (λ (ks : List ColType). length ks) (kinds s)
widths_typed [] = refl
widths_typed (e ∷ s) =
    ap (λ (n : ℕ). n ∷ widths s) (sym (length-map e.columns (λ (c : Column). c.kind))) ∙ ap (λ (ns : List ℕ). length (kinds_among e.columns) ∷ ns) (widths_typed s)

-- ---- the whole

pub bound_ready : Counts → Views → Compares → SoundIsWide → (o : Objects) (bound : List Attached) (q : SelectTree) (b : BoundQuery) (boxes : List (Option BoxState)) → AreReady o bound boxes → IsBoundAs o bound q b → IsReady boxes b
bound_ready counts views compares wide o bound q b boxes ready is = record {
  kinds = kss;
  typed = typed;
  counts = over (λ ws f. FormCounts ws f) (counts (shapes o) (select q));
  view = over (λ ws f. FormWithin ws f) (views (shapes o) (select q) is.names);
  alike = subst (λ (f : Form). FormAlike kss f) (sym is.meant.form) (compares (shapes o) (select q) is.names is.types);
  wide = λ honest. wide b.entries.items kss boxes typed honest ready.sound;
  safe = is.safe;
}
  where
    kss : List (List ColType)
    kss = kinds (query_scope (shapes o) q)

    typed : AreOfKinds (bound_at boxes) b.entries.items kss
    typed = record {
      each = entries_typed o bound boxes ready (query_entries q) b.entries.items (from_known o q is.names) is.places;
      widths = is.widths ∙ widths_typed (query_scope (shapes o) q);
    }

    over : (P : List ℕ → Form → Type 0) → P (widths (query_scope (shapes o) q)) (meant_by o q).form → P (bound_widths b) (form_of b.select)
    over P h = subst (λ (ws : List ℕ). P ws (form_of b.select)) (sym is.widths) (subst (λ (f : Form). P (widths (query_scope (shapes o) q)) f) (sym is.meant.form) h)

-- by what binding a SELECT says of it
pub bound_as : (o : Objects) (user : Name) (bound : List Attached) (q : SelectTree) (b : BoundQuery) → IsBindable o user q → IsMeant (meant_by o q) b → ArePlaces bound (meant_by o q).entries (map place_of b.entries.items)
    → bound_widths b ≡ widths (query_scope (shapes o) q) → are_safe_cores b.select.cores.items ≡ true → IsBoundAs o bound q b
bound_as o user bound q b can is places wide safe = record {
  names = λ c h. can.names c (inl h);
  types = can.types;
  meant = is;
  places = places;
  widths = wide;
  safe = safe;
}

-- ---- the scans of its entries

same_count : (slot : ℕ) (ps : List Place) → tables_counted slot ps ≡ tables_in slot ps
same_count slot [] = refl
same_count slot (p ∷ ps) = ap (λ (n : ℕ). cond (eqb p.source slot) 1 0 + n) (same_count slot ps)

pub read_once : (b : BoundQuery) (old new : List (Option BoxState)) → BeginsScans (scans_of b) old new → ReadsTables (map place_of b.entries.items) old new
read_once b old new h = record { begins = λ slot s t was after. h slot s t was after ∙ ap (λ (n : ℕ). s.ledger.next + n) (same_count slot (map place_of b.entries.items)) }
