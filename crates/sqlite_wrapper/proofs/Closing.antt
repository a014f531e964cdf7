-- The end of a write to a SQLite source.
use Rattle.std.proofs.Common.{
  ◌≡◌,
  ◌≢◌,
  ◌∙◌,
  ℕ,
  ◌<◌,
  Bool,
  true,
  false,
  List,
  [],
  ◌∷◌,
  Option,
  Some,
  None,
  IsSome,
  option_map,
  map,
  length,
  nat_lt,
  slice_index_or,
  if◌then◌else◌,
  Contains,
  refl,
  sym,
  ap,
  subst,
  arith,
}
use Rattle.std.specs.Ordering.{nat_cmp}
use Rattle.std.specs.BTreeMap as tree
use Rattle.std.specs.BTreeMap.{BTreeMap}
use Rattle.std.proofs.lemmas.Bool.{and_parts}
use Rattle.std.proofs.lemmas.Option.{same_Some}
use Rattle.sqlite.specs.Effect.{Database}
use Rattle.sqlite.specs.Schema.{Schema}
use Rattle.sqlite.specs.Order.{Row as SqlRow}
use Rattle.med_value.specs.Causes.{phase_of}
use Rattle.fdw_api.specs.Prelude.{
  none_of,
  faults_after,
  Leaves,
  Change,
  Entry,
  Stored,
  Held,
  Holding,
  Known,
  held,
  is_of_run,
  TableRow,
  first_of,
  BoxTable,
  BoxState,
  Staging,
  scan_of,
  CanClose,
  Closes,
  CloseCause,
  RefusesClose,
  Written,
}
use Rattle.fdw_api.specs.declared.interface.Fault.{Fault}
use Rattle.fdw_api.specs.declared.interface.Fault.TheVariants.{NoMemory, Source, Refused}
use Rattle.wrapper_parts.specs.Staged.{change_is, write_is}
use Rattle.wrapper_parts.specs.declared.changes.StagedWrite.{StagedWrite}
use Rattle.sqlite_tables.specs.Prelude.{
  rows_in,
  Layout,
  kinds_in,
  layout_at,
  layout_count,
  place_of,
  is_of_shape,
  OnlyBy,
  IsKnown,
  entries_at,
  entries_of,
  entry_of,
  rows_of,
  tree_found,
  tree_of,
  IsLookup,
}
use Rattle.sqlite_writes.specs.Kinds.{write_causes}
use Rattle.sqlite_writes.specs.Writable.{AreApart}
use Rattle.sqlite_wrapper.specs.Boxes.{
  allows,
  asked_of,
  bound_of,
  entry_at,
  given_of,
  held_in,
  marked_bound,
  rows_at,
  scan_is,
  scan_rows,
  sqlite_state,
  to_come,
}
use Rattle.sqlite_wrapper.specs.Looks.{AllLook}
use Rattle.sqlite_wrapper.specs.Rewrites.{Rewrites}
use Rattle.sqlite_wrapper.specs.declared.scans.KeyScan.{KeyScan}
use Rattle.sqlite_tables.proofs.Found.{found_is_read}
use Rattle.sqlite_tables.proofs.Places.{name_place, place_named}
use Rattle.sqlite_wrapper.proofs.Bound.{bound_within}
use Rattle.sqlite_wrapper.proofs.Kept.{within_count}
use Rattle.sqlite_wrapper.proofs.LiveScans.{Allowed}
use Rattle.sqlite_wrapper.proofs.Maps.{mapped_get}

-- ---- the tables

is_less : (m n : ℕ) → nat_lt m n ≡ true → m < n
is_less m n e = grind (arith, e)

-- one of them is there: each other is elsewhere
differ : (schema : Schema) (t u : ℕ) → AreApart schema → tree_found schema (layout_at t) ≢ None → nat_lt t layout_count ≡ true
    → nat_lt u layout_count ≡ true → u ≢ t
    → tree_of schema (layout_at u) ≢ tree_of schema (layout_at t)
differ schema t u apart there p q ne = λ e. there (found_is_read schema (layout_at t) there
    ∙ apart t u (is_less t layout_count p) (is_less u layout_count q) (λ same. ne (sym same)) (sym e))

place_is : (t : ℕ) → nat_lt t layout_count ≡ true → place_of (layout_at t).name ≡ Some t
place_is t p = name_place t (is_less t layout_count p)

-- ---- entries

held_cells : (xs : List TableRow) → map (λ (r : Held). r.cells) (map held xs) ≡ map (λ (r : TableRow). r.cells) xs
held_cells [] = refl
held_cells (x ∷ xs) = ap (λ cs. x.cells ∷ cs) (held_cells xs)

-- a table that is there holds its types and rows
entry_there : (d : Database) (l : Layout) → tree_found d.schema l ≢ None
    → entry_of d l ≡ Some (Stored (kinds_in l) (map (λ (r : TableRow). r.cells) (rows_of d l)))
entry_there d l there =
    go (tree_found d.schema l) there
    ∙ ap (λ (o : Option ℕ). Some (Stored (kinds_in l) (map (λ (r : TableRow). r.cells) (rows_in l (entries_at d.trees o)))))
    (found_is_read d.schema l there)
  where
    go : (o : Option ℕ) → o ≢ None → option_map (λ tr. Stored (kinds_in l) (map (λ (r : TableRow). r.cells) (rows_in l (d.trees tr)))) o
        ≡ Some (Stored (kinds_in l) (map (λ (r : TableRow). r.cells) (rows_in l (entries_at d.trees o))))
    go None ne = absurd (ne refl)
    go (Some tr) ne = refl

-- the same entries under the same schema are the same table
entry_same : (new old : Database) (l : Layout) → new.schema ≡ old.schema → entries_of new l ≡ entries_of old l
    → entry_of new l ≡ entry_of old l
entry_same new old l schema same =
    go (is_of_shape new.schema l) (tree_of new.schema l) (same ∙ ap (λ s. entries_at old.trees (tree_of s l)) (sym schema))
    ∙ ap (λ s. option_map (λ tr. Stored (kinds_in l) (map (λ (r : TableRow). r.cells) (rows_in l (old.trees tr)))) (tree_found s l)) schema
  where
    each : (o : Option ℕ) → entries_at new.trees o ≡ entries_at old.trees o
        → option_map (λ tr. Stored (kinds_in l) (map (λ (r : TableRow). r.cells) (rows_in l (new.trees tr)))) o
        ≡ option_map (λ tr. Stored (kinds_in l) (map (λ (r : TableRow). r.cells) (rows_in l (old.trees tr)))) o
    each None e = refl
    each (Some tr) e = ap (λ (es : List SqlRow). Some (Stored (kinds_in l) (map (λ (r : TableRow). r.cells) (rows_in l es)))) e

    go : (b : Bool) (o : Option ℕ) → entries_at new.trees o ≡ entries_at old.trees o
        → option_map (λ tr. Stored (kinds_in l) (map (λ (r : TableRow). r.cells) (rows_in l (new.trees tr)))) (if b then o else None)
        ≡ option_map (λ tr. Stored (kinds_in l) (map (λ (r : TableRow). r.cells) (rows_in l (old.trees tr)))) (if b then o else None)
    go true o e = each o e
    go false o e = refl

marked_some : (b : Bool) (t : ℕ) → IsSome (marked_bound b t) → marked_bound b t ≡ Some (bound_of t)
marked_some true t e = refl
marked_some false t e = absurd cc

marked_is : (b : Bool) (t : ℕ) (x : BoxTable) → marked_bound b t ≡ Some x → x ≡ bound_of t
marked_is true t x e = sym (same_Some _ _ e)
marked_is false t x e = absurd cc

-- ---- the end

module _ (honest : Bool) (db after : Database) (bound : List Bool) (scans : BTreeMap ℕ KeyScan) (staged : Option StagedWrite)
    (next pulled faults : ℕ) (write : StagedWrite)
    (each : length bound ≡ layout_count) (is : staged ≡ Some write)
    (can : CanClose (sqlite_state honest db bound scans staged next pulled faults) true) where
  abbrev old : BoxState
  old = sqlite_state honest db bound scans staged next pulled faults

  abbrev t : ℕ
  t = write.table

  abbrev changes : List Change
  changes = map change_is write.changes.items

  same : can.staging ≡ write_is write
  same = same_Some _ _ (sym can.is_staged ∙ ap (option_map write_is) is)

  marked : IsSome (marked_bound (slice_index_or bound t false) t)
  marked = subst (λ (z : Staging). IsSome (marked_bound (slice_index_or bound z.table false) z.table)) same can.is_bound

  pub within : nat_lt t layout_count ≡ true
  within = within_count t bound each (bound_within bound t marked)

  no_scan : (q : ℕ) (s : KeyScan) → tree.get nat_cmp scans q ≡ Some s → s.table ≢ t
  no_scan q s e = subst (λ (z : Staging). s.table ≢ z.table) same
      (can.no_scan refl q (scan_is s) (mapped_get scan_is scans q ∙ ap (option_map scan_is) e))

  module _ (made : Rewrites db after (layout_at t) changes) (apart : AreApart db.schema) (known : (u : ℕ)
      → ∥ IsKnown db.schema (layout_at u) ∥₁) (allowed : Allowed scans) where
    others : (u : ℕ) → nat_lt u layout_count ≡ true → u ≢ t → entries_of after (layout_at u) ≡ entries_of db (layout_at u)
    others u p ne = made.others (layout_at u) (known u) (differ db.schema t u apart made.there within p ne)

    -- the lookups of live scans are of tables that did not change
    pub looks_closed : AllLook db scans → AllLook after scans
    looks_closed looks q s e x is =
        let p = (and_parts (nat_lt s.table layout_count) (allows (asked_of s)) (allowed q s e)).0 in
        subst (λ (es : List SqlRow). IsLookup (layout_at s.table) es x) (sym (others s.table p (no_scan q s e))) (looks q s e x is)

    pub same_rows : (u : ℕ) → u ≢ t → rows_at after u ≡ rows_at db u
    same_rows u ne = go (nat_lt u layout_count) refl
      where
        go : (b : Bool) → nat_lt u layout_count ≡ b → (if b then rows_of after (layout_at u) else [])
            ≡ (if b then rows_of db (layout_at u) else [])
        go true e = ap (rows_in (layout_at u)) (others u e ne)
        go false e = refl

    same_coming : (q : ℕ) → IsSome (scan_of old q) → scan_rows after (tree.get nat_cmp scans q) ≡ scan_rows db (tree.get nat_cmp scans q)
    same_coming q e = go (tree.get nat_cmp scans q) refl
      where
        go : (o : Option KeyScan) → tree.get nat_cmp scans q ≡ o → scan_rows after o ≡ scan_rows db o
        go None f = refl
        go (Some s) f =
            ap (λ (es : List SqlRow). first_of s.room (map (given_of (asked_of s) (layout_at s.table)) (to_come es s)))
            (others s.table (and_parts (nat_lt s.table layout_count) (allows (asked_of s)) (allowed q s f)).0 (no_scan q s f))

    same_held : (r : List ℕ) → (r ≡ (layout_at t).name → ⊥) → held_in after r ≡ held_in db r
    same_held r ne = go (place_of r) refl
      where
        go : (o : Option ℕ) → place_of r ≡ o → ◌≡◌ {A = Holding} (Known (entry_at after o)) (Known (entry_at db o))
        go None e = refl
        go (Some u) e =
            let at = place_named r u e in
            ap Known (entry_same after db (layout_at u) made.schema
            (others u (let lt = at.1 in grind (arith, lt)) (λ q. ne (sym at.0 ∙ ap (λ (k : ℕ). (layout_at k).name) q))))

    image : held_in after (layout_at t).name ≡ Known (Some (Stored (kinds_in (layout_at t))
        (map (λ (r : Held). r.cells) (map held (rows_at after t)))))
    image =
        ap (λ o. Known (entry_at after o)) (place_is t within)
        ∙ ap Known (entry_there after (layout_at t) (subst (λ (s : Schema). tree_found s (layout_at t) ≢ None) (sym made.schema)
        made.there))
        ∙ ap (λ cs. Known (Some (Stored (kinds_in (layout_at t)) cs))) (sym (held_cells (rows_of after (layout_at t))) ∙ rw within refl)

    written : Written old (write_is write) (sqlite_state honest after bound scans None next pulled faults)
    written = record {
      bound = bound_of t;
      is = marked_some (slice_index_or bound t false) t marked;
      entry = entry_of db (layout_at t);
      picked = sym (ap (entry_at db) (place_is t within));
      no_cause = rw within made.no_cause;
      rows = rw within made.rows;
      once = rw within made.once;
      holdings = image;
      leaves = record {
        coming = λ q l o. same_coming q l;
        rows = λ u ne. same_rows u ne;
        holdings = λ r ne. same_held r ne;
      };
    }

  pub sqlite_closes : (honest ≡ true → Rewrites db after (layout_at t) changes) → (honest ≡ true → AreApart db.schema)
      → ((u : ℕ) → honest ≡ true → ∥ IsKnown db.schema (layout_at u) ∥₁)
      → Allowed scans → Closes old true (sqlite_state honest after bound scans None next pulled faults)
  sqlite_closes made apart known allowed = record {
    nature = refl;
    staging = write_is write;
    is_staged = ap (option_map write_is) is;
    ledger = refl;
    content = λ h. written (made h) (apart h) (λ u. known u h) allowed;
  }

  refused_by : (fault : Fault) → OnlyBy (λ c. (is_of_run (phase_of c) ≡ true)
      × (honest ≡ true → Contains (write_causes (rows_of db (layout_at t)) changes) c)) fault
      → CloseCause old (write_is write) fault
  refused_by NoMemory h = tt
  refused_by Source h = tt
  refused_by (Refused c) h = (
    h.0,
    λ honest_is b e. subst
        (λ (x : BoxTable). (entry : Option Entry) × (entry ≡ entry_at db (place_of x.remote))
        × Contains (x.refuses.causes entry (rows_at db t) changes) c)
        (sym (marked_is (slice_index_or bound t false) t b e))
        (entry_of db (layout_at t), sym (ap (entry_at db) (place_is t within)), rw within (h.1 honest_is)),
  )

  pub sqlite_keeps : (fault : Fault) → (honest ≡ true → after ≡ db)
      → OnlyBy (λ c. (is_of_run (phase_of c) ≡ true) × (honest ≡ true → Contains (write_causes (rows_of db (layout_at t)) changes) c))
      fault
      → RefusesClose old true fault (sqlite_state honest after bound scans None next pulled (faults_after fault faults))
  sqlite_keeps fault same_db by = record {
    kept = refl;
    nature = refl;
    staging = write_is write;
    is_staged = ap (option_map write_is) is;
    ledger = refl;
    cause = refused_by fault by;
    leaves = λ h.
        subst (λ (d : Database). Leaves none_of none_of none_of old
        (sqlite_state honest d bound scans None next pulled (faults_after fault faults))) (sym (same_db h))
        (record { coming = λ q l o. refl; rows = λ u o. refl; holdings = λ r o. refl });
  }
