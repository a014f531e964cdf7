-- How the calls of a wrapper go together.
use Rattle.std.proofs.Common.{◌≡◌, ℕ, Bool, true, List, [], map, Result, Ok, Err, IfOk, OnOk, Option, Some, None, IsSome, refl, ap, sym, ◌∙◌, subst, rules}
use Rattle.std.specs.Ordering.{nat_cmp}
use Rattle.std.specs.FinMap as finmap
use Rattle.std.specs.FinMap.{gets}
use Rattle.std.proofs.lemmas.Option.{same_Some}
use Rattle.med_value.specs.Datum.{Tuple, datum}
use Rattle.med_value.specs.declared.value.Value.{Value}
use Rattle.med_value.specs.declared.value.ColType.{ColType}
use Rattle.fdw_api.specs.Prelude.{Spec, restriction_form, params_fit, Column, OptionForm, BoxTable, Scan, BoxState, IsIdle, table_of, scan_of, set_at, CanBind, Binds, CanUnbind, Begins, IsOpen, Iterates, Breaks, CanRescan, Rescans, CanModify, AllowsPromise, CanBegin2, wish_form, spec2_of, is_fair}
use Rattle.fdw_api.specs.declared.scan.Restriction.{Restriction}
use Rattle.fdw_api.specs.declared.wishes.ScanSpec2.{ScanSpec2}
use Rattle.fdw_api.specs.declared.interface.Fault.{Fault}
use Rattle.fdw_api.specs.declared.interface.SourceRow.{SourceRow}

pub put_same : {X : Type 0} (m : finmap.FinMap nat_cmp X) (k : ℕ) (v : X) → finmap.get (finmap.insert m k v) k ≡ Some v
put_same m k v = grind (gets, rules)

not_none : {X : Type 0} (o : Option X) (x : X) → o ≡ None → o ≡ Some x → ⊥
not_none o x e f = absurd cc

set_same : {X : Type 0} (f : ℕ → X) (k : ℕ) (x : X) → set_at f k x k ≡ x
set_same f k x = search rules

-- on an idle wrapper every remote name is free
pub idle_can_bind : (s : BoxState) (remote : List ℕ) (columns : List Column) (settings : List OptionForm) → IsIdle s → s.nature.kind.objections columns settings ≡ [] → CanBind s remote columns settings
idle_can_bind s remote columns settings idle no_objection = record {
  free = λ t b is. absurd (not_none (table_of s t) b (idle.no_table t) is);
  no_objection = no_objection;
}

-- what is bound is a table
pub bound_is_table : (old new : BoxState) (remote : List ℕ) (columns : List Column) (settings : List OptionForm) (t : ℕ) (b : Binds old remote columns settings t new) → table_of new t ≡ Some b.bound
bound_is_table old new remote columns settings t b = ap (λ z. z.tables t) b.ledger ∙ set_same old.ledger.tables t (Some b.bound)

pub some_is : {X : Type 0} (o : Option X) (x : X) → o ≡ Some x → IsSome o
some_is o x e = subst IsSome (sym e) refl

pub bound_is_some : (old new : BoxState) (remote : List ℕ) (columns : List Column) (settings : List OptionForm) (t : ℕ) → Binds old remote columns settings t new → IsSome (table_of new t)
bound_is_some old new remote columns settings t b = some_is _ _ (bound_is_table old new remote columns settings t b)

-- a table bound on an idle wrapper may be let go
pub bound_can_unbind : (old new : BoxState) (remote : List ℕ) (columns : List Column) (settings : List OptionForm) (t : ℕ) → IsIdle old → Binds old remote columns settings t new → CanUnbind new t
bound_can_unbind old new remote columns settings t idle b = record {
  is_bound = bound_is_some old new remote columns settings t b;
  no_scan = λ q scan is. absurd (not_none (scan_of new q) scan (ap (λ z. finmap.get z.live q) b.ledger ∙ idle.no_scan q) is);
  not_staged = ap (λ z. z.staged) b.ledger ∙ idle.no_staging;
}

-- a scan that fails is still live
pub broken_is_live : (old new : BoxState) (n : ℕ) (fault : Fault) → Breaks old n fault new → IsSome (scan_of new n)
broken_is_live old new n fault b = some_is _ _ (ap (λ z. finmap.get z.live n) b.ledger ∙ put_same old.ledger.live n _)

pub given_can_rescan : (old new : BoxState) (n : ℕ) (row : Option SourceRow) (params : Tuple) → Iterates old n row new → CanRescan old n params → CanRescan new n params
given_can_rescan old new n None params g c = record {
  scan = c.scan;
  at = ap (λ z. finmap.get z.live n) g.ledger ∙ c.at;
  whole = c.whole;
  bound = c.bound;
  is = ap (λ z. z.tables c.scan.table) g.ledger ∙ c.is;
  typed = c.typed;
}
given_can_rescan old new n (Some row) params g c =
    let same : g.scan ≡ c.scan = same_Some g.scan c.scan (sym g.at ∙ c.at) in
    record {
      scan = record c.scan { left = g.left };
      at = ap (λ z. finmap.get z.live n) g.ledger ∙ put_same old.ledger.live n _ ∙ ap (λ (z : Scan). Some (record z { left = g.left })) same;
      whole = c.whole;
      bound = c.bound;
      is = ap (λ z. z.tables c.scan.table) g.ledger ∙ c.is;
      typed = c.typed;
    }

-- a table bound on an idle wrapper may be written
pub bound_can_modify : (old new : BoxState) (remote : List ℕ) (columns : List Column) (settings : List OptionForm) (t : ℕ) → IsIdle old → Binds old remote columns settings t new → CanModify new t
bound_can_modify old new remote columns settings t idle b = let c = bound_can_unbind old new remote columns settings t idle b in record { is_bound = c.is_bound; no_scan = c.no_scan; not_staged = c.not_staged }

pub bound_kinds : (old new : BoxState) (remote : List ℕ) (columns : List Column) (settings : List OptionForm) (kinds : List ColType) (t : ℕ) (b : Binds old remote columns settings t new) → map (λ c. c.kind) columns ≡ kinds → (bound : BoxTable) → table_of new t ≡ Some bound → bound.kinds ≡ kinds
bound_kinds old new remote columns settings kinds t b e bound is = ap (λ (z : BoxTable). z.kinds) (same_Some bound b.bound (sym is ∙ bound_is_table old new remote columns settings t b)) ∙ b.kinds_are ∙ e

pub on_ok_any : {T E P : Type 0} (r : Result T E) → P → OnOk r P
on_ok_any (Ok x) p = p
on_ok_any (Err e) p = tt

-- a scan begun by some parameters may begin again by others that fit
pub begun_can_rescan_by : (old new : BoxState) (t : ℕ) (spec : Spec) (params others : Tuple) (n : ℕ) → ((bound : BoxTable) → table_of old t ≡ Some bound → params_fit bound.kinds spec.offered others ≡ true) → IsSome (table_of old t) → Begins old t spec params n new → CanRescan new n others
begun_can_rescan_by old new t spec params others n fit is b = at_table (table_of old t) refl is
  where
    at_table : (o : Option BoxTable) → table_of old t ≡ o → IsSome o → CanRescan new n others
    at_table None e is = absurd cc
    at_table (Some bound) e is = record {
      scan = _;
      at = ap (λ z. finmap.get z.live n) b.ledger ∙ put_same old.ledger.live n _;
      whole = refl;
      bound = bound;
      is = ap (λ z. z.tables t) b.ledger ∙ e;
      typed = fit bound e;
    }

-- a scan that may begin again is open and live
pub can_is_open : (s : BoxState) (n : ℕ) (params : Tuple) → CanRescan s n params → IsOpen s n
can_is_open s n params c = (c.scan, c.at, c.whole)

pub can_is_live : (s : BoxState) (n : ℕ) (params : Tuple) → CanRescan s n params → IsSome (scan_of s n)
can_is_live s n params c = some_is _ _ c.at

-- a scan that gave a row, or none, is open still
pub given_is_open : (old new : BoxState) (n : ℕ) (row : Option SourceRow) → Iterates old n row new → IsOpen old n → IsOpen new n
given_is_open old new n None g is_open = (is_open.0, ap (λ z. finmap.get z.live n) g.ledger ∙ is_open.1, is_open.2)
given_is_open old new n (Some row) g is_open =
    (record g.scan { left = g.left }, ap (λ z. finmap.get z.live n) g.ledger ∙ put_same old.ledger.live n _, ap (λ (z : Scan). z.broken) (same_Some g.scan is_open.0 (sym g.at ∙ is_open.1)) ∙ is_open.2)

-- a scan with a wish may begin by the wrapper's own answer, where its restrictions name no parameter
pub wished_begins : (s : BoxState) (t : ℕ) (spec : ScanSpec2) → ((kinds : List ColType) → params_fit kinds (map restriction_form spec.base.offered.items) [] ≡ true) → AllowsPromise s t (spec2_of spec)
    → is_fair (wish_form spec.wish) spec.base.agreement.answers.items spec.ordered spec.limited ≡ true → CanBegin2 s t spec []
wished_begins s t spec fits a fair = record {
  bound = a.allows.bound;
  is = a.allows.is;
  allowed = a.allows.allowed;
  may = a.may;
  fair = fair;
  typed = fits a.allows.bound.kinds;
}

-- begun again, it may begin again by the same parameters
pub again_can_rescan : (old new : BoxState) (n : ℕ) (params : Tuple) → Rescans old n params new → CanRescan old n params → CanRescan new n params
again_can_rescan old new n params r c =
    let same : r.scan ≡ c.scan = same_Some r.scan c.scan (sym r.at ∙ c.at) in
    record {
      scan = _;
      at = ap (λ z. finmap.get z.live n) r.ledger ∙ put_same old.ledger.live n _;
      whole = refl;
      bound = c.bound;
      is = ap (λ z. z.tables r.scan.table) r.ledger ∙ ap (λ (z : Scan). table_of old z.table) same ∙ c.is;
      typed = ap (λ (z : Scan). params_fit c.bound.kinds z.spec.offered params) same ∙ c.typed;
    }

-- parameters that were found to fit, do
pub found_to_fit : (kinds own : List ColType) (offered o : List Restriction) (params p : List Value) (b : Bool) → kinds ≡ own → o ≡ offered → p ≡ params → b ≡ params_fit own (map restriction_form o) (map datum p) → b ≡ true → params_fit kinds (map restriction_form offered) (map datum params) ≡ true
found_to_fit kinds own offered o params p b k e f is holds =
    ap (λ (x : List ColType). params_fit x (map restriction_form offered) (map datum params)) k
    ∙ ap (λ (l : List Restriction). params_fit own (map restriction_form l) (map datum params)) (sym e)
    ∙ ap (λ (l : List Value). params_fit own (map restriction_form o) (map datum l)) (sym f)
    ∙ sym is ∙ holds

pub on_ok : {T E : Type 0} (P : T → Type 0) (Q : Type 0) (r : Result T E) → ((x : T) → P x → Q) → IfOk r P → OnOk r Q
on_ok P Q (Ok x) f p = f x p
on_ok P Q (Err e) f p = tt
