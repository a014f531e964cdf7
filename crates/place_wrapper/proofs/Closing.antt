-- What a bind that reads a table and the end of a write do to a wrapper over tables by place.
use Rattle.std.proofs.Common.{◌≡◌, ◌≢◌, ℕ, Bool, true, if◌then◌else◌, List, [], Option, Some, None, map, option_map, Contains, Result, Ok, Err, IfOk, IfErr, inl, inr, ◌⊎◌, false, eqb, refl, ap, sym, ◌∙◌, subst, nat_eq, length, ◌<◌, slice_set, arith}
use Rattle.std.specs.List.{IsDistinct}
use Rattle.std.proofs.lemmas.Option.{same_Some}
use Rattle.std.proofs.lemmas.Bool.Decides.{eqb_tells}
use Rattle.fdw_api.specs.Prelude.{Column, OptionForm, Entry, Bytes, Held, held, Holding, Known, Unknown, TableRow, BoxTable, Staging, Binds, NoScan, Picks, CanClose, Closes, RefusesClose, HoldsImage, Change, CloseCause, faults_after}
use Rattle.fdw_api.specs.declared.interface.Fault.{Fault}
use Rattle.fdw_api.specs.declared.interface.Fault.TheVariants.{NoMemory, Source, Refused}
use Rattle.blob_store.specs.Names.{is_blob_name}
use Rattle.blob_store.specs.Shelves.{Shelf, Standing, Known as KnownBlob, Unknown as UnknownBlob, Finds, Replaces, after_writing}
use Rattle.wrapper_parts.specs.declared.changes.StagedWrite.{StagedWrite}
use Rattle.wrapper_parts.specs.Staged.{change_is, write_is}
use Rattle.place_wrapper.specs.Holdings.{holding_of, held_under}
use Rattle.place_wrapper.specs.declared.scans.LiveScan.{LiveScan}
use Rattle.place_wrapper.specs.Forms.{Form, ReadsAs, Rewrites, Same}
use Rattle.place_wrapper.specs.Writes.{Unwrites, WritesOrNot}
use Rattle.place_wrapper.specs.Boxes.{table_at, rows_held, ScansFit}
use Rattle.place_wrapper.specs.States.{place_ledger, place_state}
use Rattle.place_wrapper.proofs.Rows.{numbered_once}
use Rattle.place_wrapper.proofs.Binding.{Others, is_within, put_others, Kept, Apart, unscanned_free, unscanned_by, ledger_set, ledger_kept, coming_same, picks_under, known_is}

-- what is known under a name after a blob was put there
written_known : (before after : Standing) (image : List ℕ) (e : Option Entry) → after ≡ after_writing before image → holding_of after ≡ Known e → Some (Bytes image) ≡ e
written_known (KnownBlob found) after image e is known = inside (sym (ap holding_of is) ∙ known)
  where
    inside : Known (Some (Bytes image)) ≡ Known e → Some (Bytes image) ≡ e
    inside q = cc
written_known UnknownBlob after image e is known = absurd (other (sym (ap holding_of is) ∙ known))
  where
    other : Unknown ≡ Known e → ⊥
    other q = cc

-- a table that is taken out of its place and put back there
pub taken_within : {T : Type 0} (old taken : List (Option T)) (at : ℕ) (x : T) → table_at old at ≡ Some x → length taken ≡ length old → at < length taken
taken_within old taken at x was room = let lt = is_within old at x was in omega arith

pub put_back : {T : Type 0} (old taken : List (Option T)) (at : ℕ) (y : Option T) → Others old taken at → Others old (slice_set taken at y) at
put_back old taken at y others t ne = put_others taken at y t ne ∙ others t ne

module _ {T : Type 0} (F : Form T) where
  held_once : (o : Option T) → IsDistinct nat_eq (map (λ r. r.id) (rows_held F o))
  held_once None = numbered_once 0 [] tt
  held_once (Some t) = numbered_once 0 (F.rows t) (F.numbered t)

  pub place_binds : (shelf after : Shelf) (old new : List (Option T)) (m : List (ℕ × LiveScan)) (staged : Option StagedWrite) (next pulled : ℕ) (at : ℕ) (remote : List ℕ) (columns : List Column) (settings : List OptionForm) (content : List ℕ) (x : T)
      → after ≡ shelf → is_blob_name remote ≡ true → Finds (shelf.under remote) (Some content) → table_at old at ≡ None → table_at new at ≡ Some x → Others old new at → ScansFit F old m
      → ReadsAs F remote columns settings content x
      → Binds (place_state F shelf old m staged next pulled) remote columns settings at (place_state F after new m staged next pulled)
  place_binds shelf after old new m staged next pulled at remote columns settings content x same_shelf named finds free there same fit r =
      let unscanned = unscanned_free F old m at fit free in
      rw same_shelf record {
        nature = refl;
        fresh = ap (option_map F.bound) free;
        bound = F.bound x;
        remote_is = r.remote_is;
        kinds_are = r.kinds_are;
        line_is = r.line_is;
        image_is = r.image_is;
        arrangement_is = r.arrangement_is;
        refuses_is = r.refuses_is;
        ledger = ledger_set F shelf old new m staged next pulled at (Some x) there same unscanned;
        entry = Some (Bytes content);
        picked = λ honest. picks_under shelf remote (Some content) named finds;
        no_cause = λ honest. r.no_cause;
        rows = λ honest. ap (λ (o : Option T). map held (rows_held F o)) there ∙ r.rows;
        once = λ honest. held_once (table_at new at);
        leaves = λ honest. record { coming = λ q l o. coming_same F old new m at q same unscanned; rows = λ u o. ap (rows_held F) (same u o); holdings = λ r o. refl };
      }

  -- what a table that was just read keeps is what stands there
  pub read_kept : (shelf after : Shelf) (remote : List ℕ) (columns : List Column) (settings : List OptionForm) (content : List ℕ) (x y : T) (e : Option Entry) → after ≡ shelf → is_blob_name remote ≡ true → Finds (shelf.under remote) (Some content)
      → ReadsAs F remote columns settings content x → Some x ≡ Some y → held_under after (F.bound y).remote ≡ Known e → F.fits y e
  read_kept shelf after remote columns settings content x y e same named finds r is known =
      let one : x ≡ y = same_Some x y is in
      let there : held_under shelf remote ≡ Known e = ap (held_under shelf) (sym r.remote_is) ∙ ap (λ (z : T). held_under shelf (F.bound z).remote) one ∙ ap (λ (z : Shelf). held_under z (F.bound y).remote) (sym same) ∙ known in
      subst (λ (z : Option Entry). F.fits y z) (known_is (held_under shelf remote) (Some (Bytes content)) e (picks_under shelf remote (Some content) named finds) there)
      (subst (λ (z : T). F.fits z (Some (Bytes content))) one r.fits)

  -- an entry that may stand there, and that the table is in
  pub entry_of : (x : T) (h : Holding) → ((e : Option Entry) → h ≡ Known e → F.fits x e) → (entry : Option Entry) × Picks h entry × F.fits x entry
  entry_of x (Known e) kept = (e, refl, kept e refl)
  entry_of x Unknown kept = let w = F.somewhere x in (w.0, tt, w.1)

  -- the write under way
  pub staged_scans : (shelf : Shelf) (tables : List (Option T)) (m : List (ℕ × LiveScan)) (w : StagedWrite) (staged : Option StagedWrite) (keep : Bool) (next pulled : ℕ) → staged ≡ Some w → keep ≡ true → CanClose (place_state F shelf tables m staged next pulled) keep → NoScan (place_state F shelf tables m staged next pulled) w.table
  staged_scans shelf tables m w staged keep next pulled es k can =
      let same : can.staging ≡ write_is w = same_Some can.staging (write_is w) (sym can.is_staged ∙ ap (option_map write_is) es) in
      subst (λ (z : Staging). NoScan (place_state F shelf tables m staged next pulled) z.table) same (can.no_scan k)

  holds : (before after : Standing) (image : List ℕ) (rows : List Held) (b : BoxTable) → after ≡ after_writing before image
      → ((e : Option Entry) → holding_of before ≡ Known e → b.image e rows ≡ Some (Bytes image)) → HoldsImage b rows (holding_of before) (holding_of after)
  holds (KnownBlob found) after image rows b e is = ap holding_of e ∙ ap Known (sym (is (option_map Bytes found) refl))
  holds UnknownBlob after image rows b e is = ap holding_of e

  holds_under : (shelf after : Shelf) (remote image : List ℕ) (rows : List Held) (b : BoxTable) → is_blob_name remote ≡ true → after.under remote ≡ after_writing (shelf.under remote) image
      → ((e : Option Entry) → held_under shelf remote ≡ Known e → b.image e rows ≡ Some (Bytes image)) → HoldsImage b rows (held_under shelf remote) (held_under after remote)
  holds_under shelf after remote image rows b named e is = rw named (holds (shelf.under remote) (after.under remote) image rows b e (λ d known. is d (rw named known)))

  place_closes : (shelf after : Shelf) (old new : List (Option T)) (m : List (ℕ × LiveScan)) (w : StagedWrite) (next pulled : ℕ) (x y : T) (image : List ℕ)
      → table_at old w.table ≡ Some x → table_at new w.table ≡ Some y → Others old new w.table → NoScan (place_state F shelf old m (Some w) next pulled) w.table
      → Replaces shelf (F.bound x).remote image after → is_blob_name (F.bound x).remote ≡ true → Kept F shelf old
      → Rewrites F x (map change_is w.changes.items) y image
      → Closes (place_state F shelf old m (Some w) next pulled) true (place_state F after new m None next pulled)
  place_closes shelf after old new m w next pulled x y image was there others scans replaced named kept made =
      let unscanned = unscanned_by F shelf old m (Some w) next pulled w.table scans in
      let fits : (e : Option Entry) → held_under shelf (F.bound x).remote ≡ Known e → F.fits x e = λ e known. kept w.table x e was known in
      let pick = entry_of x (held_under shelf (F.bound x).remote) fits in
      let rows_new : rows_held F (table_at new w.table) ≡ F.rows y = ap (rows_held F) there in
      let rows_old : rows_held F (table_at old w.table) ≡ F.rows x = ap (rows_held F) was in
      record {
        nature = refl;
        staging = write_is w;
        is_staged = refl;
        ledger = ap (λ (n : ℕ). record (place_ledger F after new m None next pulled) { faults = n }) replaced.failures
            ∙ ledger_kept F shelf old new m None next pulled w.table x y was there made.bound others unscanned;
        content = λ honest. record {
          bound = F.bound x;
          is = ap (option_map F.bound) was;
          entry = pick.0;
          picked = pick.1;
          no_cause = ap (λ (rs : List TableRow). (F.bound x).refuses.causes pick.0 rs (map change_is w.changes.items)) rows_old ∙ made.no_cause pick.0 pick.2;
          rows = ap (map held) rows_new ∙ made.rows ∙ ap (λ (rs : List TableRow). (F.bound x).arrangement.arranged (Rattle.fdw_api.specs.Writes.rows_after (F.bound x).line rs (map change_is w.changes.items))) (sym rows_old);
          once = held_once (table_at new w.table);
          holdings = holds_under shelf after (F.bound x).remote image (map held (rows_held F (table_at new w.table))) (F.bound x) named replaced.there
              (λ e known. ap (λ (rs : List TableRow). (F.bound x).image e (map held rs)) rows_new ∙ made.image_is e (fits e known));
          leaves = record {
            coming = λ q live o. coming_same F old new m w.table q others unscanned;
            rows = λ u o. ap (rows_held F) (others u o);
            holdings = λ r o. ap (λ (s : Standing). if is_blob_name r then holding_of s else Known None) (replaced.others r o);
          };
        };
      }

  pub kept_closes : (shelf after : Shelf) (old new : List (Option T)) (m : List (ℕ × LiveScan)) (w : StagedWrite) (staged left : Option StagedWrite) (keep : Bool) (next pulled : ℕ) (x y : T) (image : List ℕ)
      → staged ≡ Some w → left ≡ None → keep ≡ true → CanClose (place_state F shelf old m staged next pulled) keep
      → table_at old w.table ≡ Some x → table_at new w.table ≡ Some y → Others old new w.table
      → Replaces shelf (F.bound x).remote image after → is_blob_name (F.bound x).remote ≡ true → Kept F shelf old
      → Rewrites F x (map change_is w.changes.items) y image
      → Closes (place_state F shelf old m staged next pulled) keep (place_state F after new m left next pulled)
  kept_closes shelf after old new m w staged left keep next pulled x y image es el k can was there others replaced named kept made =
      let scans = staged_scans shelf old m w staged keep next pulled es k can in
      rw (es, el, k) (place_closes shelf after old new m w next pulled x y image was there others scans replaced named kept made)

  -- what stands under the names, and how many calls failed, where changes are not written
  unwritten_under : (x : T) (changes : List Change) (fault : Fault) (shelf after : Shelf) → Unwrites F x changes fault shelf after → after.under ≡ shelf.under
  unwritten_under x changes NoMemory shelf after w = ap (λ (s : Shelf). s.under) w
  unwritten_under x changes Source shelf after w = ap (λ (s : Shelf). s.under) w
  unwritten_under x changes (Refused c) shelf after w = ap (λ (s : Shelf). s.under) w.1

  unwritten_faults : (x : T) (changes : List Change) (fault : Fault) (shelf after : Shelf) → Unwrites F x changes fault shelf after → after.failures ≡ faults_after fault shelf.failures
  unwritten_faults x changes NoMemory shelf after w = ap (λ (s : Shelf). s.failures) w
  unwritten_faults x changes Source shelf after w = ap (λ (s : Shelf). s.failures) w
  unwritten_faults x changes (Refused c) shelf after w = ap (λ (s : Shelf). s.failures) w.1

  -- the cause for which the end of a write is refused
  close_cause : (shelf after : Shelf) (tables : List (Option T)) (m : List (ℕ × LiveScan)) (w : StagedWrite) (next pulled : ℕ) (x : T) (fault : Fault) → table_at tables w.table ≡ Some x → Kept F shelf tables
      → Unwrites F x (map change_is w.changes.items) fault shelf after → CloseCause (place_state F shelf tables m (Some w) next pulled) (write_is w) fault
  close_cause shelf after tables m w next pulled x NoMemory was kept why = tt
  close_cause shelf after tables m w next pulled x Source was kept why = tt
  close_cause shelf after tables m w next pulled x (Refused c) was kept why =
      (why.0.0, λ honest b at. at_bound b (same_Some (F.bound x) b (sym (ap (option_map F.bound) was) ∙ at)))
    where
      at_bound : (b : BoxTable) → F.bound x ≡ b → (entry : Option Entry) × Picks (held_under shelf b.remote) entry × Contains (b.refuses.causes entry (rows_held F (table_at tables w.table)) (map change_is w.changes.items)) c
      at_bound b same =
          let pick = entry_of x (held_under shelf (F.bound x).remote) (λ e known. kept w.table x e was known) in
          subst (λ (z : BoxTable). (entry : Option Entry) × Picks (held_under shelf z.remote) entry × Contains (z.refuses.causes entry (rows_held F (table_at tables w.table)) (map change_is w.changes.items)) c) same
          (pick.0, pick.1, subst (λ (o : Option T). Contains ((F.bound x).refuses.causes pick.0 (rows_held F o) (map change_is w.changes.items)) c) (sym was) (why.0.1 pick.0 pick.2))

  -- the rows of the tables, where one table comes back
  rows_stay : (old new : List (Option T)) (at : ℕ) (x y : T) → table_at old at ≡ Some x → table_at new at ≡ Some y → Others old new at → F.rows y ≡ F.rows x → (t : ℕ) → rows_held F (table_at new t) ≡ rows_held F (table_at old t)
  rows_stay old new at x y was there others same t = split (eqb_tells t at)
    where
      split : ((eqb t at ≡ true) × (t ≡ at)) ⊎ ((eqb t at ≡ false) × (t ≢ at)) → rows_held F (table_at new t) ≡ rows_held F (table_at old t)
      split (inl s) = rw (s.1, there, was) same
      split (inr s) = ap (rows_held F) (others t s.1)

  -- the end of a write is refused, and its table comes back
  refuses : (shelf after : Shelf) (old new : List (Option T)) (m : List (ℕ × LiveScan)) (w : StagedWrite) (next pulled : ℕ) (x y : T) (fault : Fault)
      → table_at old w.table ≡ Some x → table_at new w.table ≡ Some y → Others old new w.table → NoScan (place_state F shelf old m (Some w) next pulled) w.table → Kept F shelf old
      → Same F x y → Unwrites F x (map change_is w.changes.items) fault shelf after
      → RefusesClose (place_state F shelf old m (Some w) next pulled) true fault (place_state F after new m None next pulled)
  refuses shelf after old new m w next pulled x y fault was there others scans kept same why =
      let unscanned = unscanned_by F shelf old m (Some w) next pulled w.table scans in
      record {
        kept = refl;
        nature = refl;
        staging = write_is w;
        is_staged = refl;
        ledger = ledger_kept F after old new m None next pulled w.table x y was there same.bound others unscanned
            ∙ ap (λ (n : ℕ). record (place_ledger F shelf old m None next pulled) { faults = n }) (unwritten_faults x (map change_is w.changes.items) fault shelf after why);
        cause = close_cause shelf after old m w next pulled x fault was kept why;
        leaves = λ honest. record {
          coming = λ q live o. coming_same F old new m w.table q others unscanned;
          rows = λ t o. rows_stay old new w.table x y was there others same.rows t;
          holdings = λ r o. ap (λ (u : List ℕ → Standing). if is_blob_name r then holding_of (u r) else Known None) (unwritten_under x (map change_is w.changes.items) fault shelf after why);
        };
      }

  -- what a table that was just written keeps is what stands there
  pub written_kept : (shelf after : Shelf) (x y z : T) (image : List ℕ) (changes : List Rattle.fdw_api.specs.Kinds.Change) (e : Option Entry) → is_blob_name (F.bound x).remote ≡ true → Replaces shelf (F.bound x).remote image after
      → Rewrites F x changes y image → Some y ≡ Some z → held_under after (F.bound z).remote ≡ Known e → F.fits z e
  written_kept shelf after x y z image changes e named replaced made is known =
      let one : y ≡ z = same_Some y z is in
      let here : held_under after (F.bound x).remote ≡ Known e = ap (λ (b : BoxTable). held_under after b.remote) (sym made.bound) ∙ ap (λ (v : T). held_under after (F.bound v).remote) one ∙ known in
      let stands : holding_of (after.under (F.bound x).remote) ≡ Known e = rw named at here in
      subst (λ (d : Option Entry). F.fits z d) (written_known (shelf.under (F.bound x).remote) (after.under (F.bound x).remote) image e replaced.there stands)
      (subst (λ (v : T). F.fits v (Some (Bytes image))) one made.fits)

  pub written_others : (shelf after : Shelf) (tables : List (Option T)) (at t : ℕ) (x y : T) (image : List ℕ) → Apart F tables → table_at tables at ≡ Some x → t ≢ at → table_at tables t ≡ Some y → Replaces shelf (F.bound x).remote image after
      → held_under after (F.bound y).remote ≡ held_under shelf (F.bound y).remote
  written_others shelf after tables at t x y image apart was ne is replaced =
      ap (λ (s : Standing). if is_blob_name (F.bound y).remote then holding_of s else Known None) (replaced.others (F.bound y).remote (λ e. ne (apart t at y x is was e)))

  -- What holds of a table that is written or comes back, and of the others.
  module _ {A : Type 0} (shelf after : Shelf) (x y : T) (changes : List Change) where
    pub stays_bound : (r : Result A Fault) → WritesOrNot F x changes y shelf after r → F.bound y ≡ F.bound x
    stays_bound (Ok a) w = w.rewrites.bound
    stays_bound (Err fault) w = w.0.bound

    pub stays_kept : (r : Result A Fault) (z : T) (e : Option Entry) → WritesOrNot F x changes y shelf after r → is_blob_name (F.bound x).remote ≡ true → ((d : Option Entry) → held_under shelf (F.bound x).remote ≡ Known d → F.fits x d)
        → Some y ≡ Some z → held_under after (F.bound z).remote ≡ Known e → F.fits z e
    stays_kept (Ok a) z e w named kept is known = written_kept shelf after x y z w.image changes e named w.replaces w.rewrites is known
    stays_kept (Err fault) z e w named kept is known =
        let one : y ≡ z = same_Some y z is in
        let here : held_under shelf (F.bound x).remote ≡ Known e =
        ap (λ (u : List ℕ → Standing). if is_blob_name (F.bound x).remote then holding_of (u (F.bound x).remote) else Known None) (sym (unwritten_under x changes fault shelf after w.1))
        ∙ ap (λ (b : BoxTable). held_under after b.remote) (sym w.0.bound) ∙ ap (λ (v : T). held_under after (F.bound v).remote) one ∙ known in
        subst (λ (v : T). F.fits v e) one (w.0.fits e (kept e here))

    pub stays_others : (r : Result A Fault) (tables : List (Option T)) (at t : ℕ) (z : T) → WritesOrNot F x changes y shelf after r → Apart F tables → table_at tables at ≡ Some x → t ≢ at → table_at tables t ≡ Some z
        → held_under after (F.bound z).remote ≡ held_under shelf (F.bound z).remote
    stays_others (Ok a) tables at t z w apart was ne is = written_others shelf after tables at t x z w.image apart was ne is w.replaces
    stays_others (Err fault) tables at t z w apart was ne is =
        ap (λ (u : List ℕ → Standing). if is_blob_name (F.bound z).remote then holding_of (u (F.bound z).remote) else Known None) (unwritten_under x changes fault shelf after w.1)

  -- the end of a write that is kept
  pub write_ends : {A : Type 0} (shelf after : Shelf) (old new : List (Option T)) (m : List (ℕ × LiveScan)) (w : StagedWrite) (staged left : Option StagedWrite) (keep : Bool) (next pulled : ℕ) (x y : T) (r : Result A Fault)
      → staged ≡ Some w → left ≡ None → keep ≡ true → CanClose (place_state F shelf old m staged next pulled) keep
      → table_at old w.table ≡ Some x → table_at new w.table ≡ Some y → Others old new w.table → is_blob_name (F.bound x).remote ≡ true → Kept F shelf old
      → WritesOrNot F x (map change_is w.changes.items) y shelf after r
      → IfOk r (λ _. Closes (place_state F shelf old m staged next pulled) keep (place_state F after new m left next pulled))
      × IfErr r (λ fault. RefusesClose (place_state F shelf old m staged next pulled) keep fault (place_state F after new m left next pulled))
  write_ends shelf after old new m w staged left keep next pulled x y (Ok a) es el k can was there others named kept made =
      (kept_closes shelf after old new m w staged left keep next pulled x y made.image es el k can was there others made.replaces named kept made.rewrites, tt)
  write_ends shelf after old new m w staged left keep next pulled x y (Err fault) es el k can was there others named kept made =
      let scans = staged_scans shelf old m w staged keep next pulled es k can in
      (tt, rw (es, el, k) (refuses shelf after old new m w next pulled x y fault was there others scans kept made.0 made.1))
