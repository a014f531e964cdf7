-- How the calls of a write go together.
use Rattle.std.proofs.Common.{◌≡◌, ℕ, true, List, Result, Ok, Err, IfOk, IfErr, Option, Some, None, IsSome, option_map, refl, ap, sym, ◌∙◌, subst}
use Rattle.std.specs.FinMap as finmap
use Rattle.std.proofs.lemmas.Option.{same_Some}
use Rattle.med_value.specs.Datum.{Tuple}
use Rattle.med_value.specs.declared.value.ColType.{ColType}
use Rattle.fdw_api.specs.Prelude.{Change, Inserts, BoxTable, Staging, BoxState, IsIdle, table_of, CanModify, Opens, CanChange, Stages, CanClose, Closes, RefusesClose, row_of_change_fits}
use Rattle.fdw_api.specs.declared.interface.Fault.{Fault}
use Rattle.probe_wrapper.specs.declared.failing.Failure.TheVariants.{Before}
use Rattle.probe_wrapper.specs.Counting.{counted}
use Rattle.probe_wrapper.specs.Failing.{failed, staging_of}
use Rattle.source_tests.specs.Writing.{IsWriting}

-- a write that was just begun may go on
pub opened_is_writing : (old s : BoxState) (t : ℕ) (kinds : List ColType) → CanModify old t → ((bound : BoxTable) → table_of old t ≡ Some bound → bound.kinds ≡ kinds) → Opens old t s → IsWriting s t kinds
opened_is_writing old s t kinds can typed o = at_table (table_of old t) refl can.is_bound
  where
    at_table : (x : Option BoxTable) → table_of old t ≡ x → IsSome x → IsWriting s t kinds
    at_table None e is = absurd cc
    at_table (Some bound) e is = record {
      staging = _;
      is_staged = ap (λ z. z.staged) o.ledger;
      whole = refl;
      on = refl;
      bound = bound;
      is = ap (λ z. z.tables t) o.ledger ∙ e;
      kinds_are = typed bound e;
      no_scan = λ q scan is. can.no_scan q scan (sym (ap (λ z. finmap.get z.live q) o.ledger) ∙ is);
    }

-- a row of the table's types may be inserted
pub writing_can_insert : (s : BoxState) (t : ℕ) (kinds : List ColType) (row : Tuple) → row_of_change_fits kinds (Inserts row) ≡ true → IsWriting s t kinds → CanChange s (Inserts row)
writing_can_insert s t kinds row fits w = record {
  staging = w.staging;
  is_staged = w.is_staged;
  whole = w.whole;
  bound = w.bound;
  is = ap (table_of s) w.on ∙ w.is;
  fits = ap (λ (k : List ColType). row_of_change_fits k (Inserts row)) w.kinds_are ∙ fits;
  there = λ h. refl;
  once = refl;
}

-- and the write may go on then
pub staged_is_writing : (s u : BoxState) (t : ℕ) (kinds : List ColType) (change : Change) → Stages s change u → IsWriting s t kinds → IsWriting u t kinds
staged_is_writing s u t kinds change g w =
    let same : g.staging ≡ w.staging = same_Some g.staging w.staging (sym g.is_staged ∙ w.is_staged) in
    record {
      staging = _;
      is_staged = ap (λ z. z.staged) g.ledger;
      whole = ap (λ (z : Staging). z.broken) same ∙ w.whole;
      on = ap (λ (z : Staging). z.table) same ∙ w.on;
      bound = w.bound;
      is = ap (λ z. z.tables t) g.ledger ∙ w.is;
      kinds_are = w.kinds_are;
      no_scan = λ q scan is. w.no_scan q scan (sym (ap (λ z. finmap.get z.live q) g.ledger) ∙ is);
    }

some_is : {X : Type 0} (o : Option X) (x : X) → o ≡ Some x → IsSome o
some_is o x e = subst IsSome (sym e) refl

-- it may be kept
pub writing_can_close : (s : BoxState) (t : ℕ) (kinds : List ColType) → IsWriting s t kinds → CanClose s true
writing_can_close s t kinds w = record {
  staging = w.staging;
  is_staged = w.is_staged;
  is_bound = some_is _ _ (ap (table_of s) w.on ∙ w.is);
  whole = λ k. w.whole;
  no_scan = λ k q scan is on. w.no_scan q scan is (on ∙ w.on);
}

-- the end of a write leaves the tables bound as they are
pub closed_tables : {T : Type 0} (s u : BoxState) (t : ℕ) (r : Result T Fault) → IfOk r (λ _. Closes s true u) → IfErr r (λ fault. RefusesClose s true fault u) → table_of u t ≡ table_of s t
closed_tables s u t (Ok x) ok err = ap (λ z. z.tables t) ok.ledger
closed_tables s u t (Err fault) ok err = ap (λ z. z.tables t) err.ledger

-- after a write that was kept the table may be written again
pub closed_can_modify : (s u : BoxState) (t : ℕ) (kinds : List ColType) → IsWriting s t kinds → Closes s true u → CanModify u t
closed_can_modify s u t kinds w c = record {
  is_bound = some_is _ _ (ap (λ z. z.tables t) c.ledger ∙ w.is);
  no_scan = λ q scan is. w.no_scan q scan (sym (ap (λ z. finmap.get z.live q) c.ledger) ∙ is);
  not_staged = ap (λ z. z.staged) c.ledger;
}

-- wrappers round an idle wrapper are idle
pub idle_counted : (s : BoxState) (pulled : ℕ) → IsIdle s → IsIdle (counted s pulled)
idle_counted s pulled i = record { no_table = i.no_table; no_scan = i.no_scan; no_staging = i.no_staging }

pub idle_failed : (s : BoxState) (passes : ℕ) → IsIdle s → IsIdle (failed s (Before passes))
idle_failed s passes i = record { no_table = i.no_table; no_scan = i.no_scan; no_staging = ap (option_map (staging_of (Before passes))) i.no_staging }
