-- What is said of the inner wrapper is said of a lifted one.
use Rattle.std.proofs.Common.{◌≡◌, ℕ, Bool, true, false, List, refl, ap, sym, subst, Result, Ok, Err, IfOk, IfErr}
use Rattle.med_value.specs.Datum.{Tuple}
use Rattle.fdw_api.specs.Scan.{Spec, spec_of}
use Rattle.fdw_api.specs.Kinds.{Column, OptionForm, Change}
use Rattle.fdw_api.specs.State.{BoxState, Staging}
use Rattle.fdw_api.specs.Calls.{Leaves, Binds, Allows, CanBegin, Begins}
use Rattle.fdw_api.specs.Writes.{ChangeCause, RefusesChange, Closes, Outcome}
use Rattle.fdw_api.specs.Wishes.{CanBegin2, spec2_of}
use Rattle.fdw_api.specs.declared.interface.Fault.{Fault}
use Rattle.fdw_api.specs.declared.interface.Fault.TheVariants.{NoMemory, Source, Refused}
use Rattle.fdw_api.specs.declared.wishes.ScanSpec2.{ScanSpec2}
use Rattle.fdw_api.specs.Lifting.{unpromising, lifted}
use Rattle.fdw_api.proofs.Unpromised.{version_1}

pub if_ok : {T E : Type 0} (P Q : T → Type 0) (r : Result T E) → ((x : T) → P x → Q x) → IfOk r P → IfOk r Q
if_ok P Q (Ok x) f p = f x p
if_ok P Q (Err e) f p = tt

pub if_err : {T E : Type 0} (P Q : E → Type 0) (r : Result T E) → ((x : E) → P x → Q x) → IfErr r P → IfErr r Q
if_err P Q (Ok x) f p = tt
if_err P Q (Err e) f p = f e p

leaves : {tickets tables : ℕ → Type 0} {remotes : List ℕ → Type 0} (s t : BoxState) → Leaves tickets tables remotes s t → Leaves tickets tables remotes (lifted s) (lifted t)
leaves s t l = record { coming = l.coming; rows = l.rows; holdings = l.holdings }

pub binds : (s t : BoxState) (remote : List ℕ) (columns : List Column) (settings : List OptionForm) (n : ℕ) → Binds s remote columns settings n t → Binds (lifted s) remote columns settings n (lifted t)
binds s t remote columns settings n b = record {
  nature = ap unpromising b.nature;
  fresh = b.fresh;
  bound = b.bound;
  remote_is = b.remote_is;
  kinds_are = b.kinds_are;
  line_is = b.line_is;
  image_is = b.image_is;
  arrangement_is = b.arrangement_is;
  refuses_is = b.refuses_is;
  ledger = b.ledger;
  entry = b.entry;
  picked = b.picked;
  no_cause = b.no_cause;
  rows = b.rows;
  once = b.once;
  leaves = λ h. leaves s t (b.leaves h);
}

pub begins : (s t : BoxState) (n : ℕ) (spec : Spec) (params : Tuple) (q : ℕ) → Begins s n spec params q t → Begins (lifted s) n spec params q (lifted t)
begins s t n spec params q b = record {
  nature = ap unpromising b.nature;
  is_next = b.is_next;
  room = b.room;
  fresh = b.fresh;
  bound = b.bound;
  is = b.is;
  left = b.left;
  few = b.few;
  ledger = b.ledger;
  coming = b.coming;
  leaves = λ h. leaves s t (b.leaves h);
}

pub allows : (s : BoxState) (t : ℕ) (spec : Spec) → Allows s t spec → Allows (lifted s) t spec
allows s t spec a = record { bound = a.bound; is = a.is; allowed = a.allowed }

cause : (s : BoxState) (staging : Staging) (change : Change) (fault : Fault) → ChangeCause s staging change fault → ChangeCause (lifted s) staging change fault
cause s staging change NoMemory c = tt
cause s staging change Source c = tt
cause s staging change (Refused x) c = c

pub refuses_change : (s t : BoxState) (change : Change) (fault : Fault) → RefusesChange s change fault t → RefusesChange (lifted s) change fault (lifted t)
refuses_change s t change fault r = record {
  nature = ap unpromising r.nature;
  staging = r.staging;
  is_staged = r.is_staged;
  ledger = r.ledger;
  cause = cause s r.staging change fault r.cause;
  leaves = λ h. leaves s t (r.leaves h);
}

outcome : (s t : BoxState) (keep : Bool) (staging : Staging) → Outcome s keep staging t → Outcome (lifted s) keep staging (lifted t)
outcome s t true staging w = record { bound = w.bound; is = w.is; entry = w.entry; picked = w.picked; no_cause = w.no_cause; rows = w.rows; once = w.once; holdings = w.holdings; leaves = leaves s t w.leaves }
outcome s t false staging l = leaves s t l

pub closes : (s t : BoxState) (keep : Bool) → Closes s keep t → Closes (lifted s) keep (lifted t)
closes s t keep c = record {
  nature = ap unpromising c.nature;
  staging = c.staging;
  is_staged = c.is_staged;
  ledger = c.ledger;
  content = λ h. outcome s t keep c.staging (c.content h);
}

pub can_begin : (s : BoxState) (t : ℕ) (spec : ScanSpec2) (params : Tuple) → CanBegin2 (lifted s) t spec params → CanBegin s t spec.base params
can_begin s t spec params c = record {
  bound = c.bound;
  is = c.is;
  allowed = subst (λ (x : Spec). c.bound.allows x ≡ true) (version_1 spec (c.may refl)) c.allowed;
  typed = c.typed;
}

pub begins_2 : (s t : BoxState) (n : ℕ) (spec : ScanSpec2) (params : Tuple) (q : ℕ) → CanBegin2 (lifted s) n spec params → Begins s n (spec_of spec.base) params q t → Begins (lifted s) n (spec2_of spec) params q (lifted t)
begins_2 s t n spec params q c b = subst (λ (x : Spec). Begins (lifted s) n x params q (lifted t)) (sym (version_1 spec (c.may refl))) (begins s t n (spec_of spec.base) params q b)
