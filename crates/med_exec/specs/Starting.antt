-- The start of a bound query's run.
use Rattle.std.specs.Prelude.{◌≡◌, ◌<◌, ◌⊎◌, ℕ, false, nat_eq, if◌then◌else◌, List, [], ◌∷◌, length, Option, Some}
use Rattle.std.specs.List.{IsDistinct}
use Rattle.med_query.specs.Form.{form_of, is_risky_form}
use Rattle.med_planner.specs.Plain.{IsPlainForm, IsBareForm}
use Rattle.med_binder.specs.declared.bound.BoundQuery.{BoundQuery}
use Rattle.fdw_api.specs.State.{Scan, BoxState}
use Rattle.med_exec.specs.declared.running.Run.{Run}
use Rattle.med_exec.specs.Pulling.{levels_in, skip_in, limit_in, PullsNone, GivesAsTheyCome}
use Rattle.med_exec.specs.Rests.{held}
use Rattle.scan_loops.specs.Scans.{scan_at}
use Rattle.med_planner.specs.Offered.{OfferForm, core_offers}
use Rattle.loop_runs.specs.Gathering.{levels_in as plan_levels}
use Rattle.loop_runs.specs.Running.{IsShown}
use Rattle.loop_runs.specs.declared.running.LoopPlan.{LoopPlan}
use Rattle.med_exec.specs.BoundPulling.{PullsRows}
use Rattle.med_exec.specs.BoundRunning.{IsPlanFor}

-- the plan's rows are shown as they come: the run holds the scans of its levels, OFFSET and LIMIT are to come, and no row was asked for
pub record HoldsScans (bound : BoundQuery) (old : List (Option BoxState)) (run : Run) (new : List (Option BoxState)) : Type 0 where
  pub plan : LoopPlan
  pub made : IsPlanFor old bound plan
  pub shown : IsShown plan
  pub levels : plan_levels plan.loops.items ≡ levels_in run ∷ []
  pub offset : skip_in run ≡ bound.select.offset
  pub limit : limit_in run ≡ bound.select.limit
  pub pulls : PullsNone old new

-- any other plan was run to its end, and the run holds its answer
pub record HoldsAnswer (bound : BoundQuery) (old : List (Option BoxState)) (run : Run) (new : List (Option BoxState)) : Type 0 where
  pub plan : LoopPlan
  pub made : IsPlanFor old bound plan
  pub waits : IsShown plan → ⊥
  pub none : levels_in run ≡ []
  pub pulls : PullsRows bound old new

-- what the run of a bound query holds once it is begun
abbrev pub HoldsFor : BoundQuery → List (Option BoxState) → Run → List (Option BoxState) → Type 0
HoldsFor bound old run new = HoldsScans bound old run new ⊎ HoldsAnswer bound old run new

-- Of a query with FROM whose rows can be shown as they are joined, and of which no part may fault, no row was asked for.
abbrev pub AsksNone : BoundQuery → (old new : List (Option BoxState)) → Type 0
AsksNone bound old new =
    IsPlainForm (form_of bound.select) → is_risky_form (form_of bound.select) ≡ false → 0 < length bound.entries.items → PullsNone old new

-- A query of all rows of one table, of which no part may fault, shows each row as it comes.
abbrev pub ShowsAll : BoundQuery → Run → Type 0
ShowsAll bound run = IsBareForm (form_of bound.select) → is_risky_form (form_of bound.select) ≡ false → GivesAsTheyCome run

-- ---- the scans of offers

-- A scan is open for an offer: live and whole, of the offer's table, asked for its wanted columns, and offered just its restrictions
-- (PostgreSQL: Writing a Foreign Data Wrapper, BeginForeignScan).
pub record IsOpenOf (boxes : List (Option BoxState)) (o : OfferForm) (number : ℕ) : Type 0 where
  pub scan : Scan
  pub live : scan_at boxes o.source number ≡ Some scan
  pub whole : scan.broken ≡ false
  pub table : scan.table ≡ o.table
  pub wanted : scan.spec.wanted ≡ o.wanted
  pub offered : scan.spec.offered ≡ o.forms

-- the scans of these numbers are open, one for each offer in order
abbrev pub AreOpenOf : List (Option BoxState) → List OfferForm → List ℕ → Type 0
AreOpenOf boxes [] [] = Unit {0}
AreOpenOf boxes (o ∷ os) (number ∷ numbers) = IsOpenOf boxes o number × AreOpenOf boxes os numbers
AreOpenOf boxes os numbers = ⊥

-- those of them that are scans of the box in a slot
abbrev pub numbers_in : List OfferForm → List ℕ → ℕ → List ℕ
numbers_in [] numbers slot = []
numbers_in (o ∷ os) [] slot = []
numbers_in (o ∷ os) (number ∷ numbers) slot =
    if nat_eq o.source slot then number ∷ numbers_in os numbers slot else numbers_in os numbers slot

-- a run holds an open scan for each offer, no two of them one scan, and no other
pub record HoldsOpen (os : List OfferForm) (run : Run) (boxes : List (Option BoxState)) : Type 0 where
  pub numbers : List ℕ
  pub opened : AreOpenOf boxes os numbers
  pub holds : (slot : ℕ) → held run slot ≡ numbers_in os numbers slot
  pub apart : (slot : ℕ) → IsDistinct nat_eq (held run slot)

-- Of a query with FROM whose rows can be shown as they are joined, and of which no part may fault, a scan is open for each entry, of the
-- entry's table in the entry's box, which was offered just the restrictions that are the entry's.
abbrev pub OpensScans : BoundQuery → Run → List (Option BoxState) → Type 0
OpensScans bound run boxes =
    (plain : IsPlainForm (form_of bound.select)) → is_risky_form (form_of bound.select) ≡ false → 0 < length bound.entries.items
    → HoldsOpen (core_offers bound.entries.items plain.core) run boxes
