-- What binding does to a SQLite source.
use Rattle.std.proofs.Common.{
  ◌≡◌,
  ◌≢◌,
  ℕ,
  ◌<◌,
  Bool,
  true,
  false,
  nat_eq,
  List,
  [],
  ◌∷◌,
  Option,
  Some,
  None,
  length,
  map,
  option_map,
  slice_index_or,
  slice_set,
  refl,
  ap,
  sym,
  ◌∙◌,
  subst,
  arith,
  nat_lt,
}
use Rattle.std.specs.List.{IsDistinct}
use Rattle.std.specs.BTreeMap.{BTreeMap}
use Rattle.sqlite.specs.Effect.{Database}
use Rattle.sqlite.specs.Order.{Row as SqlRow}
use Rattle.med_value.specs.Causes.{phase_of}
use Rattle.med_value.specs.declared.cause.Cause.{Cause}
use Rattle.med_value.specs.declared.cause.Cause.TheVariants.{TableNotFound}
use Rattle.fdw_api.specs.declared.interface.Fault.{Fault}
use Rattle.fdw_api.specs.declared.interface.Fault.TheVariants.{NoMemory, Source, Refused}
use Rattle.med_value.specs.declared.value.ColType.{ColType}
use Rattle.sqlite_tables.specs.Prelude.{
  range_of,
  places,
  Layout,
  kinds_in,
  layout_at,
  layout_count,
  place_of,
  types_match,
  row_in,
  rows_in,
  least,
  greatest,
  tree_found,
  entry_of,
  rows_of,
  entries_at,
  OnlyBy,
  plain_rows,
  sqlite_reading,
  causes_of,
}
use Rattle.fdw_api.specs.Prelude.{
  Column,
  OptionForm,
  Stored,
  Held,
  held,
  kinds_of,
  is_late,
  BoxTable,
  BoxState,
  CanBind,
  Binds,
  BindCause,
  IsLeast,
  Refuses,
  RefusesBind,
  Leaves,
  none_of,
  faults_after,
}
use Rattle.sqlite_tables.proofs.Places.{place_named}
use Rattle.sqlite_tables.proofs.Found.{found_is_read}
use Rattle.sqlite_tables.proofs.Opened.{same_types, least_told}
use Rattle.sqlite_wrapper.specs.declared.scans.KeyScan.{KeyScan}
use Rattle.wrapper_parts.specs.declared.changes.StagedWrite.{StagedWrite}
use Rattle.sqlite_wrapper.specs.Kinds.{sqlite_image}
use Rattle.sqlite_wrapper.specs.Boxes.{bound_of, marked_bound, entry_at, sqlite_state}
use Rattle.sqlite_wrapper.proofs.Bound.{marks}

pub place_within : (bound : List Bool) (remote : List ℕ) (t : ℕ) → length bound ≡ layout_count → place_of remote ≡ Some t
    → t < length bound
place_within bound remote t each e = let lt = (place_named remote t e).1 in omega (arith, each, lt)

held_rows : (l : Layout) (rs : List SqlRow) → map held (map (row_in l) rs) ≡ plain_rows (map (λ r. r.cells) (map (row_in l) rs))
held_rows l [] = refl
held_rows l (r ∷ rs) = ap (λ (hs : List Held). held (row_in l r) ∷ hs) (held_rows l rs)

abbrev IsNone : List Cause → Type 0
IsNone [] = Unit {0}
IsNone (c ∷ cs) = ⊥

-- where no cause applies to columns of the table's types, the reading's rows are those of the table
typed_rows : (l : Layout) (declared : List ColType) (rs : List SqlRow) → types_match (kinds_in l) declared ≡ true
    → (sqlite_reading declared (Some (Stored (kinds_in l) (map (λ r. r.cells) (map (row_in l) rs))))).rows ≡ map held (map (row_in l) rs)
typed_rows l declared rs e = rw e (sym (held_rows l rs))

read_are : (db : Database) (l : Layout) (declared : List ColType) → types_match (kinds_in l) declared ≡ true
    → (sqlite_reading declared (entry_of db l)).causes ≡ []
    → map held (rows_of db l) ≡ (sqlite_reading declared (entry_of db l)).rows
read_are db l declared m none = found none (go (tree_found db.schema l) none)
  where
    go : (o : Option ℕ) → (sqlite_reading declared (option_map (λ t. Stored (kinds_in l) (map (λ r. r.cells) (rows_in l (db.trees t))))
        o)).causes ≡ []
        → map held (rows_in l (entries_at db.trees o)) ≡ (sqlite_reading declared
        (option_map (λ t. Stored (kinds_in l) (map (λ r. r.cells) (rows_in l (db.trees t)))) o)).rows
    go None e = absurd (subst IsNone (sym e) tt)
    go (Some t) e = sym (typed_rows l declared (range_of (places l) least greatest (db.trees t)) m)

    there : (o : Option ℕ) → (sqlite_reading declared (option_map (λ t. Stored (kinds_in l) (map (λ r. r.cells) (rows_in l (db.trees t))))
        o)).causes ≡ [] → o ≢ None
    there None e = absurd (subst IsNone (sym e) tt)
    there (Some t) e = λ is. absurd (let f = is in cc)

    found : (sqlite_reading declared (entry_of db l)).causes ≡ []
        → map held (rows_in l (entries_at db.trees (tree_found db.schema l))) ≡ (sqlite_reading declared (entry_of db l)).rows
        → map held (rows_of db l) ≡ (sqlite_reading declared (entry_of db l)).rows
    found e rows = ap (λ (o : Option ℕ). map held (rows_in l (entries_at db.trees o)))
        (sym (found_is_read db.schema l (there (tree_found db.schema l) e))) ∙ rows

not_marked : (t : ℕ) (b : Bool) (remote : List ℕ) → ((x : BoxTable) → marked_bound b t ≡ Some x → x.remote ≢ remote)
    → (layout_at t).name ≡ remote → b ≡ false
not_marked t true remote free e = absurd (free (bound_of t) refl e)
not_marked t false remote free e = refl

module _ (honest : Bool) (db after : Database) (bound : List Bool) (scans : BTreeMap ℕ KeyScan) (staged : Option StagedWrite)
    (next pulled faults : ℕ) (remote : List ℕ)
    (columns : List Column) (settings : List OptionForm) (same : honest ≡ true → after ≡ db) where
  abbrev old : BoxState
  old = sqlite_state honest db bound scans staged next pulled faults

  abbrev as_new : List Bool → ℕ → Database → BoxState
  as_new marks_now count d = sqlite_state honest d marks_now scans staged next pulled count

  pub sqlite_binds : (t : ℕ) → t < length bound → nat_lt t layout_count ≡ true → CanBind old remote columns settings
      → place_of remote ≡ Some t → types_match (kinds_in (layout_at t)) (kinds_of columns) ≡ true
      → (honest ≡ true → causes_of columns db (layout_at t) ≡ [])
      → (honest ≡ true → IsDistinct nat_eq (map (λ r. r.id) (rows_of db (layout_at t))))
      → Binds old remote columns settings t (as_new (slice_set bound t true) faults after)
  sqlite_binds t lt within can place typed none once =
      let name = (place_named remote t place).0 in
      let kinds : kinds_in (layout_at t) ≡ kinds_of columns = sym (same_types (kinds_in (layout_at t)) (kinds_of columns) typed) in
      let free : slice_index_or bound t false ≡ false = not_marked t (slice_index_or bound t false) remote (λ x e. can.free t x e) name in
      record {
        nature = refl;
        fresh = ap (λ (f : Bool). marked_bound f t) free;
        bound = bound_of t;
        remote_is = name;
        kinds_are = kinds;
        line_is = refl;
        image_is = ap sqlite_image kinds;
        arrangement_is = refl;
        refuses_is = refl;
        ledger = ap (λ (f : ℕ → Option BoxTable). record old.ledger { tables = f })
            (λ i q. marks bound t true (Some (bound_of t)) lt refl q i);
        entry = entry_of db (layout_at t);
        picked = λ h. sym (ap (entry_at db) place);
        no_cause = none;
        rows = λ h. rw within (ap (λ (d : Database). map held (rows_of d (layout_at t))) (same h)
            ∙ read_are db (layout_at t) (kinds_of columns) typed (none h));
        once = λ h. rw within (subst (λ (d : Database). IsDistinct nat_eq (map (λ r. r.id) (rows_of d (layout_at t)))) (sym (same h))
            (once h));
        leaves = λ h.
            subst (λ (d : Database). Leaves none_of (λ u. u ≡ t) none_of old (as_new (slice_set bound t true) faults d)) (sym (same h))
            (record { coming = λ q l o. refl; rows = λ u o. refl; holdings = λ r o. refl });
      }

  refused : (fault : Fault) → Refuses fault old (as_new bound (faults_after fault faults) after)
  refused fault = record {
    nature = refl;
    next = next;
    rises = omega arith;
    stays = λ e. e;
    keeps = λ e. refl;
    ledger = refl;
    leaves = λ h.
        subst (λ (d : Database). Leaves none_of none_of none_of old (as_new bound (faults_after fault faults) d)) (sym (same h))
        (record { coming = λ q l o. refl; rows = λ u o. refl; holdings = λ r o. refl });
  }

  by_cause : (t : ℕ) (fault : Fault) → place_of remote ≡ Some t
      → OnlyBy (λ c. (is_late (phase_of c) ≡ true) × (honest ≡ true → IsLeast (causes_of columns db (layout_at t)) c)) fault
      → BindCause old remote columns settings fault
  by_cause t NoMemory place h = tt
  by_cause t Source place h = tt
  by_cause t (Refused c) place h = (h.0, λ honest_is. (entry_of db (layout_at t), sym (ap (entry_at db) place), h.1 honest_is))

  -- a table that does not open refuses the bind
  pub sqlite_refuses : (t : ℕ) (fault : Fault) → place_of remote ≡ Some t
      → OnlyBy (λ c. (is_late (phase_of c) ≡ true) × (honest ≡ true → IsLeast (causes_of columns db (layout_at t)) c)) fault
      → RefusesBind old remote columns settings fault (as_new bound (faults_after fault faults) after)
  sqlite_refuses t fault place by = record { refuses = refused fault; cause = by_cause t fault place by }

-- a name of no table refuses it
pub sqlite_lacks : (honest : Bool) (db : Database) (bound : List Bool) (scans : BTreeMap ℕ KeyScan) (staged : Option StagedWrite)
    (next pulled faults : ℕ) (remote : List ℕ)
    (columns : List Column) (settings : List OptionForm) → place_of remote ≡ None
    → RefusesBind (sqlite_state honest db bound scans staged next pulled faults) remote columns settings (Refused TableNotFound)
    (sqlite_state honest db bound scans staged next pulled faults)
sqlite_lacks honest db bound scans staged next pulled faults remote columns settings none = record {
  refuses = refused honest db db bound scans staged next pulled faults remote columns settings (λ h. refl) (Refused TableNotFound);
  cause = (refl, λ h. (None, sym (ap (entry_at db) none), least_told (kinds_of columns) None TableNotFound (0, omega arith, refl)));
}
