-- What is said of the inner wrapper is said of a counting one.
use Rattle.std.proofs.Common.{ℕ, Bool, true, false, List, ap, Result, Ok, Err, IfOk, IfErr}
use Rattle.med_value.specs.Datum.{Tuple}
use Rattle.fdw_api.specs.Prelude.{Spec, Column, OptionForm, Change, BoxState, Ledger, Staging, Leaves, Binds, Allows, Begins, AllowsPromise, RefusesChange, Closes, Outcome}
use Rattle.fdw_api.specs.declared.interface.Fault.{Fault}
use Rattle.probe_wrapper.specs.Counting.{counted}
use Rattle.probe_wrapper.proofs.RoundLemmas.{change_cause}

pub if_ok : {T E : Type 0} (P Q : T → Type 0) (r : Result T E) → ((x : T) → P x → Q x) → IfOk r P → IfOk r Q
if_ok P Q (Ok x) f p = f x p
if_ok P Q (Err e) f p = tt

pub if_err : {T E : Type 0} (P Q : E → Type 0) (r : Result T E) → ((x : E) → P x → Q x) → IfErr r P → IfErr r Q
if_err P Q (Ok x) f p = tt
if_err P Q (Err e) f p = f e p

leaves : {tickets tables : ℕ → Type 0} {remotes : List ℕ → Type 0} (s t : BoxState) (p : ℕ) → Leaves tickets tables remotes s t → Leaves tickets tables remotes (counted s p) (counted t p)
leaves s t p l = record { coming = l.coming; rows = l.rows; holdings = l.holdings }

pub binds : (p : ℕ) (s t : BoxState) (remote : List ℕ) (columns : List Column) (settings : List OptionForm) (n : ℕ) → Binds s remote columns settings n t → Binds (counted s p) remote columns settings n (counted t p)
binds p s t remote columns settings n b = record {
  nature = b.nature;
  fresh = b.fresh;
  bound = b.bound;
  remote_is = b.remote_is;
  kinds_are = b.kinds_are;
  line_is = b.line_is;
  image_is = b.image_is;
  arrangement_is = b.arrangement_is;
  refuses_is = b.refuses_is;
  ledger = ap (λ (l : Ledger). record l { pulled = p }) b.ledger;
  entry = b.entry;
  picked = b.picked;
  no_cause = b.no_cause;
  rows = b.rows;
  once = b.once;
  leaves = λ h. leaves s t p (b.leaves h);
}

pub begins : (p : ℕ) (s t : BoxState) (n : ℕ) (spec : Spec) (params : Tuple) (q : ℕ) → Begins s n spec params q t → Begins (counted s p) n spec params q (counted t p)
begins p s t n spec params q b = record {
  nature = b.nature;
  is_next = b.is_next;
  room = b.room;
  fresh = b.fresh;
  bound = b.bound;
  is = b.is;
  left = b.left;
  few = b.few;
  ledger = ap (λ (l : Ledger). record l { pulled = p }) b.ledger;
  coming = b.coming;
  leaves = λ h. leaves s t p (b.leaves h);
}

pub allows : (p : ℕ) (s : BoxState) (t : ℕ) (spec : Spec) → Allows s t spec → Allows (counted s p) t spec
allows p s t spec a = record { bound = a.bound; is = a.is; allowed = a.allowed }

pub allows_promise : (p : ℕ) (s : BoxState) (t : ℕ) (spec : Spec) → AllowsPromise s t spec → AllowsPromise (counted s p) t spec
allows_promise p s t spec a = record { allows = allows p s t spec a.allows; may = a.may }

pub refuses_change : (p : ℕ) (s t : BoxState) (change : Change) (fault : Fault) → RefusesChange s change fault t → RefusesChange (counted s p) change fault (counted t p)
refuses_change p s t change fault r = record {
  nature = r.nature;
  staging = r.staging;
  is_staged = r.is_staged;
  ledger = ap (λ (l : Ledger). record l { pulled = p }) r.ledger;
  cause = change_cause s s.nature (record s.ledger { pulled = p }) s.content.coming r.staging change fault r.cause;
  leaves = λ h. leaves s t p (r.leaves h);
}

outcome : (p : ℕ) (s t : BoxState) (keep : Bool) (staging : Staging) → Outcome s keep staging t → Outcome (counted s p) keep staging (counted t p)
outcome p s t true staging w = record { bound = w.bound; is = w.is; entry = w.entry; picked = w.picked; no_cause = w.no_cause; rows = w.rows; once = w.once; holdings = w.holdings; leaves = leaves s t p w.leaves }
outcome p s t false staging l = leaves s t p l

pub closes : (p : ℕ) (s t : BoxState) (keep : Bool) → Closes s keep t → Closes (counted s p) keep (counted t p)
closes p s t keep c = record {
  nature = c.nature;
  staging = c.staging;
  is_staged = c.is_staged;
  ledger = ap (λ (l : Ledger). record l { pulled = p }) c.ledger;
  content = λ h. outcome p s t keep c.staging (c.content h);
}
