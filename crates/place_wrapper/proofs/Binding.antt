-- What binding, unbinding and planning do to a wrapper over tables by place.
use Rattle.std.proofs.Common.{◌≡◌, ◌≢◌, ℕ, ◌<◌, ◌⊎◌, true, false, ◌&&◌, List, [], ◌∷◌, Option, Some, None, IsSome, length, map, option_map, slice_get, slice_set, refl, ap, sym, ◌∙◌, subst, arith, eqb, inl, inr, zero, suc, is_some}
use Rattle.std.specs.List.{list_all}
use Rattle.std.specs.Option.{option_flatten}
use Rattle.std.specs.Ordering.{nat_cmp}
use Rattle.std.specs.Cmp.{nat_cmp_total}
use Rattle.std.specs.FinMap as finmap
use Rattle.std.specs.FinMap.{nat_cmp-IsAntisymmetric}
use Rattle.std.proofs.lemmas.Bool.Decides.{eqb_tells}
use Rattle.std.proofs.lemmas.Bool.{and_parts}
use Rattle.med_value.specs.Datum.{datum}
use Rattle.fdw_api.specs.Prelude.{Entry, Bytes, Holding, Known, Unknown, Spec, spec_of, BoxTable, Scan, Staging, set_at, table_of, Allows, CanUnbind, Unbinds, Picks, NoScan, row_of_change_fits}
use Rattle.blob_store.specs.Names.{is_blob_name}
use Rattle.blob_store.specs.Shelves.{Shelf, Standing, Known as KnownBlob, Unknown as UnknownBlob, Finds}
use Rattle.wrapper_parts.specs.declared.changes.StagedWrite.{StagedWrite}
use Rattle.place_wrapper.specs.Holdings.{holding_of, held_under}
use Rattle.place_wrapper.specs.Mapped.{mapped, live_at}
use Rattle.place_wrapper.proofs.Maps.{mapped_get}
use Rattle.place_wrapper.specs.declared.scans.LiveScan.{LiveScan}
use Rattle.place_wrapper.specs.Forms.{Form}
use Rattle.place_wrapper.specs.Boxes.{rows_to_come, table_at, kinds_held, rows_held, scan_is, scan_rows, write_fits, ScanFits, ScansFit}
use Rattle.place_wrapper.specs.States.{place_ledger, place_state}

none_is : {A : Type 0} (o : Option A) → o ≡ None → IsSome o → ⊥
none_is None a b = cc
none_is (Some x) a b = cc

-- the tables are as before, but for one place
abbrev pub Others : {T : Type 0} → List (Option T) → List (Option T) → ℕ → Type 0
Others old new at = (t : ℕ) → t ≢ at → table_at new t ≡ table_at old t

-- all are as before
abbrev pub SameTables : {T : Type 0} → List (Option T) → List (Option T) → Type 0
SameTables old new = (t : ℕ) → table_at new t ≡ table_at old t

-- no live scan is of this table
abbrev pub Unscanned : List (ℕ × LiveScan) → ℕ → Type 0
Unscanned m at = (q : ℕ) (s : LiveScan) → live_at m q ≡ Some s → s.table ≢ at

set_other : {T : Type 0} (ts : List (Option T)) (t q : ℕ) (y : Option T) → q ≢ t → slice_get (slice_set ts t y) q ≡ slice_get ts q
set_other [] t q y ne = refl
set_other (z ∷ ts) zero zero y ne = absurd (ne refl)
set_other (z ∷ ts) zero (suc q) y ne = refl
set_other (z ∷ ts) (suc t) zero y ne = refl
set_other (z ∷ ts) (suc t) (suc q) y ne = set_other ts t q y (λ e. ne (ap (λ (k : ℕ). suc k) e))

pub put_there : {T : Type 0} (ts : List (Option T)) (t : ℕ) (y : Option T) → t < length ts → table_at (slice_set ts t y) t ≡ y
put_there [] t y lt = absurd (omega arith)
put_there (z ∷ ts) zero y lt = refl
put_there (z ∷ ts) (suc t) y lt = put_there ts t y (omega arith)

pub put_others : {T : Type 0} (ts : List (Option T)) (t : ℕ) (y : Option T) → Others ts (slice_set ts t y) t
put_others ts t y q ne = ap option_flatten (set_other ts t q y ne)

pub is_within : {T : Type 0} (ts : List (Option T)) (t : ℕ) (x : T) → table_at ts t ≡ Some x → t < length ts
is_within [] zero x e = absurd cc
is_within [] (suc t) x e = absurd cc
is_within (z ∷ ts) zero x e = omega arith
is_within (z ∷ ts) (suc t) x e = let lt = is_within ts t x e in omega arith

-- what a read finds stands there
picks : (s : Standing) (found : Option (List ℕ)) → Finds s found → Picks (holding_of s) (option_map Bytes found)
picks (KnownBlob known) found e = ap (option_map Bytes) e
picks UnknownBlob found e = tt

pub picks_under : (shelf : Shelf) (remote : List ℕ) (found : Option (List ℕ)) → is_blob_name remote ≡ true → Finds (shelf.under remote) found → Picks (held_under shelf remote) (option_map Bytes found)
picks_under shelf remote found named e = rw named (picks (shelf.under remote) found e)

pub known_is : (h : Holding) (picked e : Option Entry) → Picks h picked → h ≡ Known e → picked ≡ e
known_is (Known d) picked e p k = p ∙ inside d e k
  where
    inside : (a b : Option Entry) → Known a ≡ Known b → a ≡ b
    inside a b q = cc
known_is Unknown picked e p k = absurd cc

module _ {T : Type 0} (F : Form T) where
  -- what is known of scans stays where their tables do
  live_same : (old new : List (Option T)) (m : List (ℕ × LiveScan)) (at : ℕ) → Others old new at → Unscanned m at → mapped (scan_is F new) m ≡ mapped (scan_is F old) m
  live_same old new m at same none = finmap.same_map nat_cmp_total nat_cmp-IsAntisymmetric _ _ (λ q. mapped_get (scan_is F new) m q ∙ go q (live_at m q) refl ∙ sym (mapped_get (scan_is F old) m q))
    where
      go : (q : ℕ) (o : Option LiveScan) → live_at m q ≡ o → option_map (scan_is F new) o ≡ option_map (scan_is F old) o
      go q None e = refl
      go q (Some s) e = ap (λ (k : Option T). Some (record (scan_is F old s) { kinds = kinds_held F k })) (same s.table (none q s e))

  pub coming_same : (old new : List (Option T)) (m : List (ℕ × LiveScan)) (at q : ℕ) → Others old new at → Unscanned m at → scan_rows F new (live_at m q) ≡ scan_rows F old (live_at m q)
  coming_same old new m at q same none = go (live_at m q) refl
    where
      go : (o : Option LiveScan) → live_at m q ≡ o → scan_rows F new o ≡ scan_rows F old o
      go None e = refl
      go (Some s) e = ap (λ (k : Option T). rows_to_come F k (spec_of s.spec) (map datum s.params.items) s.at) (same s.table (none q s e))

  -- a scan of a bound table is not of a free one
  pub unscanned_free : (tables : List (Option T)) (m : List (ℕ × LiveScan)) (at : ℕ) → ScansFit F tables m → table_at tables at ≡ None → Unscanned m at
  unscanned_free tables m at fit free q s e same = none_is (table_at tables at) free (subst (λ (t : ℕ). IsSome (table_at tables t)) same (fit q s e).0)

  pub unscanned_by : (shelf : Shelf) (tables : List (Option T)) (m : List (ℕ × LiveScan)) (staged : Option StagedWrite) (next pulled : ℕ) (at : ℕ) → NoScan (place_state F shelf tables m staged next pulled) at → Unscanned m at
  unscanned_by shelf tables m staged next pulled at none q s e = none q (scan_is F tables s) (mapped_get (scan_is F tables) m q ∙ ap (option_map (scan_is F tables)) e)

  pub stay_fitting : (old new : List (Option T)) (m : List (ℕ × LiveScan)) (at : ℕ) → Others old new at → Unscanned m at → ScansFit F old m → ScansFit F new m
  stay_fitting old new m at same none fit q s e = subst (λ (o : Option T). ScanFits F o s) (sym (same s.table (none q s e))) (fit q s e)

  pub same_tables_fitting : (old new : List (Option T)) (m : List (ℕ × LiveScan)) → SameTables old new → ScansFit F old m → ScansFit F new m
  same_tables_fitting old new m same fit q s e = subst (λ (o : Option T). ScanFits F o s) (sym (same s.table)) (fit q s e)

  -- the write under way, where its table stays
  pub write_stays : (old new : List (Option T)) (at : ℕ) (staged : Option Staging) → Others old new at → table_at old at ≡ None → write_fits F old staged ≡ true → write_fits F new staged ≡ true
  write_stays old new at None same free fits = refl
  write_stays old new at (Some s) same free fits = ap (λ (o : Option T). is_some o && list_all (row_of_change_fits (kinds_held F o)) s.changes) (same s.table (λ e. missing (table_at old s.table) (ap (table_at old) e ∙ free) (and_parts (is_some (table_at old s.table)) _ fits).0)) ∙ fits
    where
      missing : (o : Option T) → o ≡ None → is_some o ≡ true → ⊥
      missing None a b = cc
      missing (Some x) a b = cc

  pub write_same : (old new : List (Option T)) (staged : Option Staging) → SameTables old new → write_fits F old staged ≡ true → write_fits F new staged ≡ true
  write_same old new None same fits = refl
  write_same old new (Some s) same fits = ap (λ (o : Option T). is_some o && list_all (row_of_change_fits (kinds_held F o)) s.changes) (same s.table) ∙ fits

  -- with nothing staged no write asks for anything
  pub write_none : (tables : List (Option T)) (staged : Option Staging) → staged ≡ None → write_fits F tables staged ≡ true
  write_none tables staged e = ap (write_fits F tables) e

  -- the bound tables after one place changes
  bounds : (old new : List (Option T)) (at : ℕ) (x : Option T) → table_at new at ≡ x → Others old new at → (q : ℕ) → option_map F.bound (table_at new q) ≡ set_at (λ t. option_map F.bound (table_at old t)) at (option_map F.bound x) q
  bounds old new at x there same q = split (eqb_tells q at)
    where
      split : ((eqb q at ≡ true) × (q ≡ at)) ⊎ ((eqb q at ≡ false) × (q ≢ at)) → option_map F.bound (table_at new q) ≡ set_at (λ t. option_map F.bound (table_at old t)) at (option_map F.bound x) q
      split (inl s) = rw (s.0, s.1, there) refl
      split (inr s) = rw (s.0, same q s.1) refl

  -- the ledger after one place changes
  pub ledger_set : (shelf : Shelf) (old new : List (Option T)) (m : List (ℕ × LiveScan)) (staged : Option StagedWrite) (next pulled : ℕ) (at : ℕ) (x : Option T) → table_at new at ≡ x → Others old new at → Unscanned m at
      → place_ledger F shelf new m staged next pulled ≡ record (place_ledger F shelf old m staged next pulled) { tables = set_at (place_ledger F shelf old m staged next pulled).tables at (option_map F.bound x) }
  ledger_set shelf old new m staged next pulled at x there same none =
      ap (λ (f : ℕ → Option BoxTable). record (place_ledger F shelf new m staged next pulled) { tables = f }) (λ i q. bounds old new at x there same q i)
      ∙ ap (λ (l : finmap.FinMap nat_cmp Scan). record (place_ledger F shelf old m staged next pulled) { tables = set_at (place_ledger F shelf old m staged next pulled).tables at (option_map F.bound x); live = l }) (live_same old new m at same none)

  -- the ledger, where a table gets other rows
  pub ledger_kept : (shelf : Shelf) (old new : List (Option T)) (m : List (ℕ × LiveScan)) (staged : Option StagedWrite) (next pulled : ℕ) (at : ℕ) (x y : T) → table_at old at ≡ Some x → table_at new at ≡ Some y → F.bound y ≡ F.bound x → Others old new at → Unscanned m at → place_ledger F shelf new m staged next pulled ≡ place_ledger F shelf old m staged next pulled
  ledger_kept shelf old new m staged next pulled at x y was there equal same none =
      ap (λ (f : ℕ → Option BoxTable). record (place_ledger F shelf new m staged next pulled) { tables = f }) (λ i q. split q (eqb_tells q at) i)
      ∙ ap (λ (l : finmap.FinMap nat_cmp Scan). record (place_ledger F shelf old m staged next pulled) { live = l }) (live_same old new m at same none)
    where
      split : (q : ℕ) → ((eqb q at ≡ true) × (q ≡ at)) ⊎ ((eqb q at ≡ false) × (q ≢ at)) → option_map F.bound (table_at new q) ≡ option_map F.bound (table_at old q)
      split q (inl s) = rw (s.1, there, was) (ap Some equal)
      split q (inr s) = ap (option_map F.bound) (same q s.1)

  pub bound_there : (o : Option T) → IsSome (option_map F.bound o) → (x : T) × (o ≡ Some x)
  bound_there None e = absurd cc
  bound_there (Some x) e = (x, refl)

  -- a bound table allows every scan
  pub place_allows : (shelf : Shelf) (tables : List (Option T)) (m : List (ℕ × LiveScan)) (staged : Option StagedWrite) (next pulled : ℕ) (t : ℕ) (spec : Spec) → IsSome (table_of (place_state F shelf tables m staged next pulled) t) → Allows (place_state F shelf tables m staged next pulled) t spec
  place_allows shelf tables m staged next pulled t spec e =
      let w = bound_there (table_at tables t) e in
      record { bound = F.bound w.0; is = ap (option_map F.bound) w.1; allowed = F.allows w.0 spec }

  pub place_unbinds : (shelf : Shelf) (old new : List (Option T)) (m : List (ℕ × LiveScan)) (staged : Option StagedWrite) (next pulled : ℕ) (t : ℕ) → table_at new t ≡ None → Others old new t → CanUnbind (place_state F shelf old m staged next pulled) t → Unbinds (place_state F shelf old m staged next pulled) t (place_state F shelf new m staged next pulled)
  place_unbinds shelf old new m staged next pulled t gone same can =
      let unscanned = unscanned_by shelf old m staged next pulled t can.no_scan in
      record {
        nature = refl;
        ledger = ledger_set shelf old new m staged next pulled t None gone same unscanned;
        leaves = λ honest. record { coming = λ q l o. coming_same old new m t q same unscanned; rows = λ u o. ap (rows_held F) (same u o); holdings = λ r o. refl };
      }

  -- what holds of each bound table
  abbrev pub Named : List (Option T) → Type 0
  Named tables = (t : ℕ) (x : T) → table_at tables t ≡ Some x → is_blob_name (F.bound x).remote ≡ true

  abbrev pub Apart : List (Option T) → Type 0
  Apart tables = (t u : ℕ) (x y : T) → table_at tables t ≡ Some x → table_at tables u ≡ Some y → (F.bound x).remote ≡ (F.bound y).remote → t ≡ u

  abbrev pub Kept : Shelf → List (Option T) → Type 0
  Kept shelf tables = (t : ℕ) (x : T) (e : Option Entry) → table_at tables t ≡ Some x → held_under shelf (F.bound x).remote ≡ Known e → F.fits x e

  -- a table that is there after one place changed: the one at that place, or one that was there before
  abbrev pub Was : List (Option T) → ℕ → Option T → ℕ → T → Type 0
  Was old at x t y = ((t ≡ at) × (x ≡ Some y)) ⊎ ((t ≢ at) × (table_at old t ≡ Some y))

  pub was : (old new : List (Option T)) (at : ℕ) (x : Option T) → table_at new at ≡ x → Others old new at → (t : ℕ) (y : T) → table_at new t ≡ Some y → Was old at x t y
  was old new at x there same t y e = split (eqb_tells t at)
    where
      split : ((eqb t at ≡ true) × (t ≡ at)) ⊎ ((eqb t at ≡ false) × (t ≢ at)) → Was old at x t y
      split (inl s) = inl (s.1, sym there ∙ ap (table_at new) (sym s.1) ∙ e)
      split (inr s) = inr (s.1, sym (same t s.1) ∙ e)

  pub set_named : (old new : List (Option T)) (at : ℕ) (x : Option T) → table_at new at ≡ x → Others old new at → ((y : T) → x ≡ Some y → is_blob_name (F.bound y).remote ≡ true) → Named old → Named new
  set_named old new at x there same named before t y e = go (was old new at x there same t y e)
    where
      go : Was old at x t y → is_blob_name (F.bound y).remote ≡ true
      go (inl w) = named y w.1
      go (inr w) = before t y w.1

  pub set_apart : (old new : List (Option T)) (at : ℕ) (x : Option T) → table_at new at ≡ x → Others old new at
      → ((y : T) → x ≡ Some y → (t : ℕ) (z : T) → t ≢ at → table_at old t ≡ Some z → (F.bound z).remote ≢ (F.bound y).remote) → Apart old → Apart new
  set_apart old new at x there same other before t u y z ey ez e = go (was old new at x there same t y ey) (was old new at x there same u z ez)
    where
      go : Was old at x t y → Was old at x u z → t ≡ u
      go (inl a) (inl b) = a.0 ∙ sym b.0
      go (inl a) (inr b) = absurd (other y a.1 u z b.0 b.1 (sym e))
      go (inr a) (inl b) = absurd (other z b.1 t y a.0 a.1 e)
      go (inr a) (inr b) = before t u y z a.1 b.1 e

  pub set_kept : (shelf after : Shelf) (old new : List (Option T)) (at : ℕ) (x : Option T) → table_at new at ≡ x → Others old new at
      → ((y : T) (e : Option Entry) → x ≡ Some y → held_under after (F.bound y).remote ≡ Known e → F.fits y e)
      → ((t : ℕ) (y : T) → t ≢ at → table_at old t ≡ Some y → held_under after (F.bound y).remote ≡ held_under shelf (F.bound y).remote) → Kept shelf old → Kept after new
  set_kept shelf after old new at x there same here there_too before t y e is known = go (was old new at x there same t y is)
    where
      go : Was old at x t y → F.fits y e
      go (inl w) = here y e w.1 known
      go (inr w) = before t y e w.1 (sym (there_too t y w.0 w.1) ∙ known)
