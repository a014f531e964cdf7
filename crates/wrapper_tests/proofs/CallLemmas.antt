-- How the calls of a wrapper go together.
use Rattle.std.proofs.Common.{◌≡◌, ◌≢◌, ℕ, ◌⊎◌, eqb, true, false, List, [], map, Result, Ok, Err, IfOk, OnOk, Option, Some, None, IsSome, option_map, refl, ap, sym, ◌∙◌, subst, rules, inl, inr}
use Rattle.std.specs.Ordering.{nat_cmp}
use Rattle.std.specs.FinMap as finmap
use Rattle.std.specs.FinMap.{gets}
use Rattle.std.proofs.lemmas.Bool.Decides.{eqb_tells}
use Rattle.std.proofs.lemmas.Option.{same_Some}
use Rattle.med_value.specs.Datum.{Tuple}
use Rattle.med_value.specs.declared.value.ColType.{ColType}
use Rattle.fdw_api.specs.Prelude.{Spec, spec_of, restriction_form, params_fit, Column, OptionForm, Change, Inserts, BoxTable, Scan, Staging, BoxState, IsIdle, table_of, scan_of, set_at, CanBind, Binds, Allows, CanBegin, CanUnbind, Unbinds, Begins, IsOpen, Iterates, Breaks, CanRescan, Rescans, Ends, Refuses, CanModify, Opens, CanChange, Stages, CanClose, Closes, row_of_change_fits}
use Rattle.fdw_api.specs.declared.scan.ScanSpec.{ScanSpec}
use Rattle.fdw_api.specs.declared.interface.Fault.{Fault}
use Rattle.fdw_api.specs.declared.interface.SourceRow.{SourceRow}
use Rattle.probe_wrapper.specs.declared.failing.Failure.TheVariants.{Before}
use Rattle.probe_wrapper.specs.Counting.{counted}
use Rattle.probe_wrapper.specs.Failing.{failed, staging_of}

put_same : {X : Type 0} (m : finmap.FinMap nat_cmp X) (k : ℕ) (v : X) → finmap.get (finmap.insert m k v) k ≡ Some v
put_same m k v = grind (gets, rules)

put_other : {X : Type 0} (m : finmap.FinMap nat_cmp X) (k q : ℕ) (v : X) → q ≢ k → finmap.get (finmap.insert m k v) q ≡ finmap.get m q
put_other m k q v ne = grind (gets, rules)

taken_other : {X : Type 0} (m : finmap.FinMap nat_cmp X) (k q : ℕ) → q ≢ k → finmap.get (finmap.remove m k) q ≡ finmap.get m q
taken_other m k q ne = grind (gets, rules)

not_none : {X : Type 0} (o : Option X) (x : X) → o ≡ None → o ≡ Some x → ⊥
not_none o x e f = absurd cc

set_same : {X : Type 0} (f : ℕ → X) (k : ℕ) (x : X) → set_at f k x k ≡ x
set_same f k x = search rules

-- on an idle wrapper every remote name is free
pub idle_can_bind : (s : BoxState) (remote : List ℕ) (columns : List Column) (settings : List OptionForm) → IsIdle s → s.nature.kind.objections columns settings ≡ [] → CanBind s remote columns settings
idle_can_bind s remote columns settings idle no_objection = record {
  free = λ t b is. absurd (not_none (table_of s t) b (idle.no_table t) is);
  no_objection = no_objection;
}

-- a refused call leaves all scans and tables
pub refused_keeps : (fault : Fault) (old new : BoxState) (q : ℕ) → Refuses fault old new → scan_of new q ≡ scan_of old q
refused_keeps fault old new q r = ap (λ z. finmap.get z.live q) r.ledger

-- what is bound is a table
pub bound_is_table : (old new : BoxState) (remote : List ℕ) (columns : List Column) (settings : List OptionForm) (t : ℕ) (b : Binds old remote columns settings t new) → table_of new t ≡ Some b.bound
bound_is_table old new remote columns settings t b = ap (λ z. z.tables t) b.ledger ∙ set_same old.ledger.tables t (Some b.bound)

some_is : {X : Type 0} (o : Option X) (x : X) → o ≡ Some x → IsSome o
some_is o x e = subst IsSome (sym e) refl

pub bound_is_some : (old new : BoxState) (remote : List ℕ) (columns : List Column) (settings : List OptionForm) (t : ℕ) → Binds old remote columns settings t new → IsSome (table_of new t)
bound_is_some old new remote columns settings t b = some_is _ _ (bound_is_table old new remote columns settings t b)

-- a table bound on an idle wrapper may be let go
pub bound_can_unbind : (old new : BoxState) (remote : List ℕ) (columns : List Column) (settings : List OptionForm) (t : ℕ) → IsIdle old → Binds old remote columns settings t new → CanUnbind new t
bound_can_unbind old new remote columns settings t idle b = record {
  is_bound = bound_is_some old new remote columns settings t b;
  no_scan = λ q scan is. absurd (not_none (scan_of new q) scan (ap (λ z. finmap.get z.live q) b.ledger ∙ idle.no_scan q) is);
  not_staged = ap (λ z. z.staged) b.ledger ∙ idle.no_staging;
}

-- and the wrapper is idle again
pub unbound_is_idle : (old mid new : BoxState) (remote : List ℕ) (columns : List Column) (settings : List OptionForm) (t : ℕ) → IsIdle old → Binds old remote columns settings t mid → Unbinds mid t new → IsIdle new
unbound_is_idle old mid new remote columns settings t idle b u = record {
  no_table = λ q. ap (λ z. z.tables q) u.ledger ∙ split q (eqb_tells q t);
  no_scan = λ q. ap (λ z. finmap.get z.live q) u.ledger ∙ ap (λ z. finmap.get z.live q) b.ledger ∙ idle.no_scan q;
  no_staging = ap (λ z. z.staged) u.ledger ∙ ap (λ z. z.staged) b.ledger ∙ idle.no_staging;
}
  where
    split : (q : ℕ) → ((eqb q t ≡ true) × (q ≡ t)) ⊎ ((eqb q t ≡ false) × (q ≢ t)) → set_at mid.ledger.tables t None q ≡ None
    split q (inl s) = rw s.0 refl
    split q (inr s) = rw s.0 (ap (λ z. z.tables q) b.ledger ∙ rw s.0 (idle.no_table q))

-- its number was not live before
pub begun_differs : (old new : BoxState) (t : ℕ) (spec : Spec) (params : Tuple) (n q : ℕ) → Begins old t spec params n new → IsOpen old q → q ≢ n
begun_differs old new t spec params n q b is_open same = not_none (scan_of old q) is_open.0 (subst (λ (k : ℕ). scan_of old k ≡ None) (sym same) b.fresh) is_open.1

-- the other scans and the tables are as before
pub begun_keeps : (old new : BoxState) (t : ℕ) (spec : Spec) (params : Tuple) (n q : ℕ) → Begins old t spec params n new → q ≢ n → scan_of new q ≡ scan_of old q
begun_keeps old new t spec params n q b ne = ap (λ z. finmap.get z.live q) b.ledger ∙ put_other old.ledger.live n q _ ne

pub begun_has_table : (old new : BoxState) (t : ℕ) (spec : Spec) (params : Tuple) (n u : ℕ) → Begins old t spec params n new → IsSome (table_of old u) → IsSome (table_of new u)
begun_has_table old new t spec params n u b is = subst IsSome (sym (ap (λ z. z.tables u) b.ledger)) is

pub open_stays : (old new : BoxState) (n : ℕ) → scan_of new n ≡ scan_of old n → IsOpen old n → IsOpen new n
open_stays old new n same is_open = (is_open.0, same ∙ is_open.1, is_open.2)

pub live_stays : (old new : BoxState) (n : ℕ) → scan_of new n ≡ scan_of old n → IsSome (scan_of old n) → IsSome (scan_of new n)
live_stays old new n same live = subst IsSome (sym same) live

-- a scan that answers stays open, and the others are as before
pub given_is_open : (old new : BoxState) (n : ℕ) (row : Option SourceRow) → Iterates old n row new → IsOpen old n → IsOpen new n
given_is_open old new n None g is_open = open_stays old new n (ap (λ z. finmap.get z.live n) g.ledger) is_open
given_is_open old new n (Some row) g is_open =
    (record g.scan { left = g.left }, ap (λ z. finmap.get z.live n) g.ledger ∙ put_same old.ledger.live n _, ap (λ (z : Scan). z.broken) (same_Some g.scan is_open.0 (sym g.at ∙ is_open.1)) ∙ is_open.2)

pub given_keeps : (old new : BoxState) (n q : ℕ) (row : Option SourceRow) → Iterates old n row new → q ≢ n → scan_of new q ≡ scan_of old q
given_keeps old new n q None g ne = ap (λ z. finmap.get z.live q) g.ledger
given_keeps old new n q (Some row) g ne = ap (λ z. finmap.get z.live q) g.ledger ∙ put_other old.ledger.live n q _ ne

-- a scan that fails is still live
pub broken_is_live : (old new : BoxState) (n : ℕ) (fault : Fault) → Breaks old n fault new → IsSome (scan_of new n)
broken_is_live old new n fault b = some_is _ _ (ap (λ z. finmap.get z.live n) b.ledger ∙ put_same old.ledger.live n _)

pub broken_keeps : (old new : BoxState) (n q : ℕ) (fault : Fault) → Breaks old n fault new → q ≢ n → scan_of new q ≡ scan_of old q
broken_keeps old new n q fault b ne = ap (λ z. finmap.get z.live q) b.ledger ∙ put_other old.ledger.live n q _ ne

-- the end of one scan leaves the others
pub ended_keeps : (old new : BoxState) (n q : ℕ) → Ends old n new → q ≢ n → scan_of new q ≡ scan_of old q
ended_keeps old new n q e ne = ap (λ z. finmap.get z.live q) e.ledger ∙ taken_other old.ledger.live n q ne

pub given_can_rescan : (old new : BoxState) (n : ℕ) (row : Option SourceRow) (params : Tuple) → Iterates old n row new → CanRescan old n params → CanRescan new n params
given_can_rescan old new n None params g c = record {
  scan = c.scan;
  at = ap (λ z. finmap.get z.live n) g.ledger ∙ c.at;
  whole = c.whole;
  bound = c.bound;
  is = ap (λ z. z.tables c.scan.table) g.ledger ∙ c.is;
  typed = c.typed;
}
given_can_rescan old new n (Some row) params g c =
    let same : g.scan ≡ c.scan = same_Some g.scan c.scan (sym g.at ∙ c.at) in
    record {
      scan = record c.scan { left = g.left };
      at = ap (λ z. finmap.get z.live n) g.ledger ∙ put_same old.ledger.live n _ ∙ ap (λ (z : Scan). Some (record z { left = g.left })) same;
      whole = c.whole;
      bound = c.bound;
      is = ap (λ z. z.tables c.scan.table) g.ledger ∙ c.is;
      typed = c.typed;
    }

pub again_is_open : (old new : BoxState) (n : ℕ) (params : Tuple) → Rescans old n params new → IsOpen new n
again_is_open old new n params r = (_, ap (λ z. finmap.get z.live n) r.ledger ∙ put_same old.ledger.live n _, refl)

-- a scan without restrictions may begin by the wrapper's own answer
pub planned_begins : (s : BoxState) (t : ℕ) (spec : ScanSpec) → spec.offered.items ≡ [] → Allows s t (spec_of spec) → CanBegin s t spec []
planned_begins s t spec none a = record { bound = a.bound; is = a.is; allowed = a.allowed; typed = ap (λ l. params_fit a.bound.kinds (map restriction_form l) []) none }

-- and begun, it may begin again
pub begun_can_rescan : (old new : BoxState) (t : ℕ) (spec : Spec) (n : ℕ) → spec.offered ≡ [] → IsSome (table_of old t) → Begins old t spec [] n new → CanRescan new n []
begun_can_rescan old new t spec n none is b = at_table (table_of old t) refl is
  where
    at_table : (o : Option BoxTable) → table_of old t ≡ o → IsSome o → CanRescan new n []
    at_table None e is = absurd cc
    at_table (Some bound) e is = record {
      scan = _;
      at = ap (λ z. finmap.get z.live n) b.ledger ∙ put_same old.ledger.live n _;
      whole = refl;
      bound = bound;
      is = ap (λ z. z.tables t) b.ledger ∙ e;
      typed = ap (λ l. params_fit bound.kinds l []) none;
    }

-- no call of a scan changes the tables
pub given_tables : (old new : BoxState) (n t : ℕ) (row : Option SourceRow) → Iterates old n row new → table_of new t ≡ table_of old t
given_tables old new n t None g = ap (λ z. z.tables t) g.ledger
given_tables old new n t (Some row) g = ap (λ z. z.tables t) g.ledger

pub broken_tables : (old new : BoxState) (n t : ℕ) (fault : Fault) → Breaks old n fault new → table_of new t ≡ table_of old t
broken_tables old new n t fault b = ap (λ z. z.tables t) b.ledger

pub scanned_has_table : (old begun last new : BoxState) (t : ℕ) (spec : Spec) (params : Tuple) (n : ℕ) → Begins old t spec params n begun → ((u : ℕ) → table_of last u ≡ table_of begun u) → Ends last n new → IsSome (table_of old t) → IsSome (table_of new t)
scanned_has_table old begun last new t spec params n b same e is = subst IsSome (sym (ap (λ z. z.tables t) e.ledger ∙ same t ∙ ap (λ z. z.tables t) b.ledger)) is

-- wrappers round an idle wrapper are idle
pub idle_counted : (s : BoxState) (pulled : ℕ) → IsIdle s → IsIdle (counted s pulled)
idle_counted s pulled i = record { no_table = i.no_table; no_scan = i.no_scan; no_staging = i.no_staging }

pub idle_failed : (s : BoxState) (passes : ℕ) → IsIdle s → IsIdle (failed s (Before passes))
idle_failed s passes i = record { no_table = i.no_table; no_scan = i.no_scan; no_staging = ap (option_map (staging_of (Before passes))) i.no_staging }

-- a table bound on an idle wrapper may be written
pub bound_can_modify : (old new : BoxState) (remote : List ℕ) (columns : List Column) (settings : List OptionForm) (t : ℕ) → IsIdle old → Binds old remote columns settings t new → CanModify new t
bound_can_modify old new remote columns settings t idle b = let c = bound_can_unbind old new remote columns settings t idle b in record { is_bound = c.is_bound; no_scan = c.no_scan; not_staged = c.not_staged }

pub bound_kinds : (old new : BoxState) (remote : List ℕ) (columns : List Column) (settings : List OptionForm) (kinds : List ColType) (t : ℕ) (b : Binds old remote columns settings t new) → map (λ c. c.kind) columns ≡ kinds → (bound : BoxTable) → table_of new t ≡ Some bound → bound.kinds ≡ kinds
bound_kinds old new remote columns settings kinds t b e bound is = ap (λ (z : BoxTable). z.kinds) (same_Some bound b.bound (sym is ∙ bound_is_table old new remote columns settings t b)) ∙ b.kinds_are ∙ e

-- a row may be inserted where it is of the columns' types
pub opened_can_insert : (old s : BoxState) (t : ℕ) (row : Tuple) (kinds : List ColType) → CanModify old t → ((bound : BoxTable) → table_of old t ≡ Some bound → bound.kinds ≡ kinds) → row_of_change_fits kinds (Inserts row) ≡ true → Opens old t s → CanChange s (Inserts row)
opened_can_insert old s t row kinds can typed fits o = at_table (table_of old t) refl can.is_bound
  where
    at_table : (x : Option BoxTable) → table_of old t ≡ x → IsSome x → CanChange s (Inserts row)
    at_table None e is = absurd cc
    at_table (Some bound) e is = record {
      staging = _;
      is_staged = ap (λ z. z.staged) o.ledger;
      whole = refl;
      bound = bound;
      is = ap (λ z. z.tables t) o.ledger ∙ e;
      fits = ap (λ k. row_of_change_fits k (Inserts row)) (typed bound e) ∙ fits;
      there = λ h. refl;
      once = refl;
    }

staged_same : (old s u : BoxState) (t : ℕ) (change : Change) (o : Opens old t s) (g : Stages s change u) → g.staging ≡ record { table = t; changes = []; broken = false }
staged_same old s u t change o g = same_Some _ _ (sym g.is_staged ∙ ap (λ z. z.staged) o.ledger)

pub staged_can_close : (old s u : BoxState) (t : ℕ) (change : Change) → CanModify old t → Opens old t s → Stages s change u → CanClose u true
staged_can_close old s u t change can o g =
    let same = staged_same old s u t change o g in
    let table : g.staging.table ≡ t = ap (λ (z : Staging). z.table) same in
    record {
      staging = _;
      is_staged = ap (λ z. z.staged) g.ledger;
      is_bound = subst IsSome (sym (ap (λ z. z.tables g.staging.table) g.ledger ∙ ap (λ z. z.tables g.staging.table) o.ledger ∙ ap (table_of old) table)) can.is_bound;
      whole = λ k. ap (λ (z : Staging). z.broken) same;
      no_scan = λ k q scan is on. can.no_scan q scan (sym (ap (λ z. finmap.get z.live q) g.ledger ∙ ap (λ z. finmap.get z.live q) o.ledger) ∙ is) (on ∙ table);
    }

-- the table is bound after the write
pub written_has_table : (old s u new : BoxState) (t : ℕ) (change : Change) → CanModify old t → Opens old t s → Stages s change u → Closes u true new → IsSome (table_of new t)
written_has_table old s u new t change can o g c = subst IsSome (sym (ap (λ z. z.tables t) c.ledger ∙ ap (λ z. z.tables t) g.ledger ∙ ap (λ z. z.tables t) o.ledger)) can.is_bound

pub on_ok : {T E : Type 0} (P : T → Type 0) (Q : Type 0) (r : Result T E) → ((x : T) → P x → Q) → IfOk r P → OnOk r Q
on_ok P Q (Ok x) f p = f x p
on_ok P Q (Err e) f p = tt

-- a scan whose restrictions name no parameter may begin by the wrapper's own answer
pub planned_fits : (s : BoxState) (t : ℕ) (spec : ScanSpec) → ((kinds : List ColType) → params_fit kinds (map restriction_form spec.offered.items) [] ≡ true) → Allows s t (spec_of spec) → CanBegin s t spec []
planned_fits s t spec fits a = record { bound = a.bound; is = a.is; allowed = a.allowed; typed = fits a.bound.kinds }

pub on_ok_any : {T E P : Type 0} (r : Result T E) → P → OnOk r P
on_ok_any (Ok x) p = p
on_ok_any (Err e) p = tt
