-- A box changes, comes or goes, and the scans of open cursors stay.
use Rattle.std.proofs.Common.{◌≡◌, ◌≢◌, ℕ, zero, suc, ◌⊎◌, inl, inr, false, List, [], ◌∷◌, ◌++◌, Option, Some, None, IsSome, slice_get, slice_set, length, refl, ap, sym, ◌∙◌, subst, bytes_eq}
use Rattle.std.specs.FinMap as finmap
use Rattle.std.specs.Ordering.{nat_cmp}
use Rattle.std.proofs.lemmas.Bool.{false≢true}
use Rattle.std.proofs.lemmas.Option.{same_Some}
use Rattle.med_syntax.specs.Tree.{Name}
use Rattle.fdw_api.specs.Prelude.{BoxState, Scan, IsIdle, table_of, scan_of, NoScan, Refuses, IsSoundBox}
use Rattle.fdw_api.specs.declared.interface.Fault.{Fault}
use Rattle.med_exec.specs.Prelude.{BoxAt, ChangesAt, KeepsScan}
use Rattle.med_catalog.specs.Prelude.{TableObject, ObjectChange, new_table, no_table, no_server, changed, without}
use Rattle.med_binder.specs.Places.{Attached}
use Rattle.med_world.specs.Open.{Opened}
use Rattle.sql_meaning.specs.World.{beside_without}
use Rattle.med_world.specs.Seats.{IsOpenAt}
use Rattle.med_world.specs.Engine.{Shown, leased, EachBox, LeasesNumber, IsUnstaged, KeepsScans, IsSound, IsFirst, with_change, BindsTable, UnbindsTable}
use Rattle.med_world.specs.Altering.{BindsInVain}
use Rattle.med_world.specs.Laws.{with_boxes}
use Rattle.med_world.proofs.Lists.{none_some, bytes_same, push_before, push_cases}
use Rattle.med_world.proofs.Indexes.{was_index, was_some, left_at, tables_left}
use Rattle.med_world.proofs.Faring.{Spares, that_is, same_box, changes_by, was_there, set_other, left_box, binds_spares, unbinds_spares, refuses_spares, vain_spares}
use Rattle.med_world.proofs.Scans.{HadScans, AllLeft, KeepsLeases, leases_itself, scans_kept, leased_by, same_or_not}

some_is : {X : Type 0} (o : Option X) (x : X) → o ≡ Some x → IsSome o
some_is o x e = subst IsSome (sym e) refl

pub keeps_itself : (number : ℕ) (scan : Scan) (s : BoxState) → scan_of s number ≡ Some scan → KeepsScan number scan s s
keeps_itself number scan s live = record { nature = refl; live = live; table = refl; coming = λ honest. refl; rows = λ honest. refl }

pub left_itself : (e : Shown) → AllLeft e e.boxes
left_itself e place c is_open slot number own s scan at live = record { box = s; there = at; holds = keeps_itself number scan s live }

pub had_itself : (boxes : List (Option BoxState)) → HadScans boxes boxes
had_itself boxes slot number t scan at live = record { box = t; there = at; holds = live }

-- ---- one box changes, and keeps its live scans

pub record IsQuiet (b c : BoxState) : Type 0 where
  pub live : c.ledger.live ≡ b.ledger.live
  pub staged : c.ledger.staged ≡ b.ledger.staged
  pub keeps : (number : ℕ) (scan : Scan) → scan_of b number ≡ Some scan → KeepsScan number scan b c

pub quiet_itself : (b : BoxState) → IsQuiet b b
quiet_itself b = record { live = refl; staged = refl; keeps = λ number scan live. keeps_itself number scan b live }

pub quiet_left : (e : Shown) (new : List (Option BoxState)) (place : ℕ) → ChangesAt e.boxes place IsQuiet new → AllLeft e new
quiet_left e new place h j c is_open slot number own s scan at live = same_or_not slot place
    (λ same. let is : h.before ≡ s = same_box h.before s (sym h.there ∙ ap (slice_get e.boxes) (sym same) ∙ at) in record {
      box = h.after;
      there = ap (slice_get new) same ∙ h.now;
      holds = subst (λ (b : BoxState). KeepsScan number scan b h.after) is (h.change.keeps number scan (ap (λ (b : BoxState). scan_of b number) is ∙ live));
    })
    (λ ne. record { box = s; there = h.others slot ne ∙ at; holds = keeps_itself number scan s live })

quiet_had : (old new : List (Option BoxState)) (place : ℕ) → ChangesAt old place IsQuiet new → HadScans old new
quiet_had old new place h slot number t scan at live =
    let x = was_there IsQuiet old new place slot t quiet_itself h at in
    record { box = x.0; there = x.1; holds = ap (λ (m : finmap.FinMap nat_cmp Scan). finmap.get m number) (sym x.2.live) ∙ live }

quiet_unstaged : (old new : List (Option BoxState)) (place : ℕ) → ChangesAt old place IsQuiet new → EachBox IsUnstaged old → EachBox IsUnstaged new
quiet_unstaged old new place h each slot t at = let x = was_there IsQuiet old new place slot t quiet_itself h at in x.2.staged ∙ each slot x.0 x.1

pub quiet_scans : (e n : Shown) (place : ℕ) → n.seats ≡ e.seats → KeepsScans e → ChangesAt e.boxes place IsQuiet n.boxes → KeepsLeases e n → KeepsScans n
quiet_scans e n place same k h leases = scans_kept e n same k (quiet_unstaged e.boxes n.boxes place h k.unstaged) (quiet_left e n.boxes place h) (quiet_had e.boxes n.boxes place h) leases

-- tables are spared, none of which has a live scan
spares_quiet : (only : ℕ → Type 0) (b c : BoxState) → ((number : ℕ) (scan : Scan) → scan_of b number ≡ Some scan → only scan.table → ⊥) → Spares only b c → IsQuiet b c
spares_quiet only b c none h = record {
  live = h.live;
  staged = h.staged;
  keeps = λ number scan live. record {
    nature = h.nature;
    live = ap (λ (m : finmap.FinMap nat_cmp Scan). finmap.get m number) h.live ∙ live;
    table = h.tables scan.table (none number scan live);
    coming = λ honest. h.coming honest number (some_is (scan_of b number) scan live);
    rows = λ honest. h.rows honest scan.table (none number scan live);
  };
}

quiet_at : (only : ℕ → Type 0) (old new : List (Option BoxState)) (place : ℕ) → (h : ChangesAt old place (Spares only) new) → ((number : ℕ) (scan : Scan) → scan_of h.before number ≡ Some scan → only scan.table → ⊥) → ChangesAt old place IsQuiet new
quiet_at only old new place h none = record { before = h.before; after = h.after; there = h.there; now = h.now; others = h.others; slots = h.slots; change = spares_quiet only h.before h.after none h.change }

-- a table that is not bound has no live scan
pub fresh_scan : (b : BoxState) (t : ℕ) → IsSoundBox b → table_of b t ≡ None → NoScan b t
fresh_scan b t sound fresh number scan live same =
    let bound = sound.scans number scan live in
    none_some bound.0 (table_of b t) fresh (ap (table_of b) (sym same) ∙ bound.1)

-- ---- by the changes of objects

pub catalog_scans : (e : Shown) (change : ObjectChange) → (changed change e.catalog).tables ≡ e.catalog.tables → KeepsScans e → KeepsScans (with_change e change)
catalog_scans e change tables k =
    scans_kept e (with_change e change) refl k k.unstaged (left_itself e) (had_itself e.boxes)
    (λ place c slot number is_open l. subst (λ (ts : List TableObject). LeasesNumber ts e.bound c slot number) (sym tables) l)

module _ (e n : Shown) (t : TableObject) (sound : IsSound e) (h : BindsTable e t n) where
  pub bind_quiet : ChangesAt e.boxes h.place IsQuiet n.boxes
  bind_quiet = quiet_at (that_is h.number) e.boxes n.boxes h.place
      (record {
        before = h.binds.before;
        after = h.binds.after;
        there = h.binds.there;
        now = h.binds.now;
        others = h.binds.others;
        slots = h.binds.slots;
        change = binds_spares h.binds.before h.binds.after t.remote t.columns t.settings h.number h.binds.change;
      })
      (fresh_scan h.binds.before h.number (sound.sound_boxes h.place h.binds.before h.binds.there) h.binds.change.fresh)

  pub bind_scans : KeepsScans (record (with_change e (new_table t)) { boxes = n.boxes; bound = e.bound ++ record { source = h.place; number = h.number } ∷ [] })
  bind_scans = quiet_scans e (record (with_change e (new_table t)) { boxes = n.boxes; bound = e.bound ++ record { source = h.place; number = h.number } ∷ [] }) h.place refl sound.scans bind_quiet
      (λ place c slot number is_open l. record {
        place = l.place;
        table = l.table;
        at = l.at;
        there = push_before e.catalog.tables t l.place l.table l.there;
        is_bound = push_before e.bound (record { source = h.place; number = h.number }) l.place l.at l.is_bound;
        source_is = l.source_is;
        number_is = l.number_is;
        leases = l.leases;
      })

-- the first table of a name has it
pub first_named : (name : Name) (tables : List TableObject) (place : ℕ) (t : TableObject) → IsFirst name tables place → slice_get tables place ≡ Some t → t.name ≡ name
first_named name [] place t first at = absurd first
first_named name (x ∷ xs) zero t first at = sym (bytes_same name t.name (ap (λ (y : TableObject). bytes_eq name y.name) (sym (same_Some x t at)) ∙ first))
first_named name (x ∷ xs) (suc k) t first at = first_named name xs k t first.1 at

module _ (e n : Shown) (name : Name) (sound : IsSound e) (free : leased e name ≡ false) (h : UnbindsTable e name n) (none : (s : BoxState) → slice_get e.boxes h.at.source ≡ Some (Some s) → NoScan s h.at.number) where
  pub unbind_quiet : ChangesAt e.boxes h.at.source IsQuiet n.boxes
  unbind_quiet = quiet_at (that_is h.at.number) e.boxes n.boxes h.at.source
      (record {
        before = h.unbinds.before;
        after = h.unbinds.after;
        there = h.unbinds.there;
        now = h.unbinds.now;
        others = h.unbinds.others;
        slots = h.unbinds.slots;
        change = unbinds_spares h.unbinds.before h.unbinds.after h.at.number h.unbinds.change;
      })
      (none h.unbinds.before h.unbinds.there)

  -- a table that is leased is another one
  still_leases : (place : ℕ) (c : Opened) (slot number : ℕ) → IsOpenAt e.seats place c → LeasesNumber e.catalog.tables e.bound c slot number
      → LeasesNumber (without (λ (t : TableObject). bytes_eq name t.name) e.catalog.tables) (beside_without name e.catalog.tables e.bound) c slot number
  still_leases place c slot number is_open l = record {
    place = j.0;
    table = l.table;
    at = l.at;
    there = tables_left name e.catalog.tables h.place h.first j.0 ∙ ap (slice_get e.catalog.tables) j.1 ∙ l.there;
    is_bound = left_at name e.catalog.tables e.bound h.place h.first j.0 ∙ ap (slice_get e.bound) j.1 ∙ l.is_bound;
    source_is = l.source_is;
    number_is = l.number_is;
    leases = l.leases;
  }
    where
      other : l.place ≢ h.place
      other same =
          let named : l.table.name ≡ name = first_named name e.catalog.tables h.place l.table h.first (ap (slice_get e.catalog.tables) (sym same) ∙ l.there) in
          false≢true (sym free ∙ ap (leased e) (sym named) ∙ leased_by e.seats place c l.table.name is_open l.leases)

      j : (i : ℕ) × (was_index h.place i ≡ l.place)
      j = was_some h.place l.place other

  pub unbind_scans : KeepsScans (record (with_change e (no_table name)) { boxes = n.boxes; bound = beside_without name e.catalog.tables e.bound })
  unbind_scans = quiet_scans e (record (with_change e (no_table name)) { boxes = n.boxes; bound = beside_without name e.catalog.tables e.bound }) h.at.source refl sound.scans unbind_quiet still_leases

module _ (e : Shown) (new : List (Option BoxState)) (place : ℕ) (fault : Fault) (h : ChangesAt e.boxes place (Refuses fault) new) where
  pub refused_quiet : ChangesAt e.boxes place IsQuiet new
  refused_quiet = quiet_at (λ t. ⊥) e.boxes new place (changes_by (Refuses fault) (Spares (λ t. ⊥)) e.boxes new place (λ b c k. refuses_spares fault (λ t. ⊥) b c k) h) (λ number scan live none. none)

  pub refused_scans : KeepsScans e → KeepsScans (with_boxes e new)
  refused_scans k = quiet_scans e (with_boxes e new) place refl k refused_quiet (leases_itself e)

module _ (e : Shown) (new : List (Option BoxState)) (t : TableObject) (place : ℕ) (sound : IsSound e) (h : ChangesAt e.boxes place (BindsInVain t) new) where
  pub vain_quiet : ChangesAt e.boxes place IsQuiet new
  vain_quiet = quiet_at (that_is h.change.number) e.boxes new place
      (record { before = h.before; after = h.after; there = h.there; now = h.now; others = h.others; slots = h.slots; change = vain_spares t h.before h.after h.change })
      (fresh_scan h.before h.change.number (sound.sound_boxes place h.before h.there) h.change.binds.fresh)

  pub vain_scans : KeepsScans (with_boxes e new)
  vain_scans = quiet_scans e (with_boxes e new) place refl sound.scans vain_quiet (leases_itself e)

-- ---- a box that goes is idle

module _ (e : Shown) (place : ℕ) (box : BoxState) (there : slice_get e.boxes place ≡ Some (Some box)) (idle : IsIdle box) where
  pub drop_left : AllLeft e (slice_set e.boxes place None)
  drop_left j c is_open slot number own s scan at live = same_or_not slot place
      (λ same. let is : box ≡ s = same_box box s (sym there ∙ ap (slice_get e.boxes) (sym same) ∙ at) in
      absurd (none_some scan (scan_of box number) (idle.no_scan number) (ap (λ (b : BoxState). scan_of b number) is ∙ live)))
      (λ ne. record { box = s; there = set_other e.boxes place slot None ne ∙ at; holds = keeps_itself number scan s live })

  pub drop_scans : (name : Name) → KeepsScans e → KeepsScans (record (with_change e (no_server name)) { boxes = slice_set e.boxes place None })
  drop_scans name k = scans_kept e (record (with_change e (no_server name)) { boxes = slice_set e.boxes place None }) refl k
      (λ slot s at. k.unstaged slot s (left_box e.boxes place slot box s there at)) drop_left
      (λ slot number t scan at live. record { box = t; there = left_box e.boxes place slot box t there at; holds = live }) (leases_itself e)

-- ---- one that comes is idle

module _ (e n : Shown) (box : BoxState) (boxes : n.boxes ≡ e.boxes ++ Some box ∷ []) (idle : IsIdle box) where
  pub add_left : AllLeft e n.boxes
  add_left j c is_open slot number own s scan at live = record {
    box = s;
    there = ap (λ (bs : List (Option BoxState)). slice_get bs slot) boxes ∙ push_before e.boxes (Some box) slot (Some s) at;
    holds = keeps_itself number scan s live;
  }

  either : (slot : ℕ) (t : BoxState) → slice_get n.boxes slot ≡ Some (Some t) → (slice_get e.boxes slot ≡ Some (Some t)) ⊎ ((slot ≡ length e.boxes) × (Some box ≡ Some t))
  either slot t at = push_cases e.boxes (Some box) slot (Some t) (ap (λ (bs : List (Option BoxState)). slice_get bs slot) (sym boxes) ∙ at)

  pub add_scans : n.seats ≡ e.seats → n.catalog.tables ≡ e.catalog.tables → n.bound ≡ e.bound → KeepsScans e → KeepsScans n
  add_scans seats tables bound k = scans_kept e n seats k unstaged add_left had
      (λ place c slot number is_open l. subst (λ (ts : List TableObject). LeasesNumber ts n.bound c slot number) (sym tables) (subst (λ (bs : List Attached). LeasesNumber e.catalog.tables bs c slot number) (sym bound) l))
    where
      unstaged : EachBox IsUnstaged n.boxes
      unstaged slot t at = split (either slot t at)
        where
          split : (slice_get e.boxes slot ≡ Some (Some t)) ⊎ ((slot ≡ length e.boxes) × (Some box ≡ Some t)) → IsUnstaged t
          split (inl old) = k.unstaged slot t old
          split (inr new) = subst IsUnstaged (same_Some box t new.1) idle.no_staging

      had : HadScans e.boxes n.boxes
      had slot number t scan at live = split (either slot t at)
        where
          split : (slice_get e.boxes slot ≡ Some (Some t)) ⊎ ((slot ≡ length e.boxes) × (Some box ≡ Some t)) → BoxAt e.boxes slot (λ s. scan_of s number ≡ Some scan)
          split (inl old) = record { box = t; there = old; holds = live }
          split (inr new) = absurd (none_some scan (scan_of box number) (idle.no_scan number) (ap (λ (b : BoxState). scan_of b number) (same_Some box t new.1) ∙ live))
