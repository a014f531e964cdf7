-- The run of a bound query by loops: what it asks of the boxes, and what its rows are.
use Rattle.std.specs.Prelude.{◌≡◌, ℕ, true, List, map, Option}
use Rattle.med_value.specs.Datum.{Tuple}
use Rattle.med_value.specs.declared.cause.Cause.{Cause}
use Rattle.med_value.specs.declared.value.ColType.{ColType}
use Rattle.med_query.specs.Prelude.{Query, IsAnswer, form_of, are_safe_cores, IsShownCause}
use Rattle.med_binder.specs.Prelude.{FormAlike, bound_widths, FormCounts, FormWithin, Place, entry_place}
use Rattle.med_binder.specs.declared.bound.BoundQuery.{BoundQuery}
use Rattle.fdw_api.specs.State.{BoxState}
use Rattle.med_planner.specs.Planned.{entry_rows}
use Rattle.med_exec.specs.Running.{HonestOver}
use Rattle.scan_loops.specs.Prelude.{bound_at, rows_at, scans_in}
use Rattle.med_planner.specs.Plans.{tables_by}
use Rattle.med_planner.specs.Premises.{AreOfKinds, RowsAreWide}
use Rattle.loop_runs.specs.Gathering.{levels_in}
use Rattle.loop_runs.specs.Running.{plan_levels, CanRun, IsPlanOver}
use Rattle.loop_runs.specs.declared.running.LoopPlan.{LoopPlan}
use Rattle.med_exec.specs.BoundCounting.{scans_of}
use Rattle.med_exec.specs.BoundPulling.{AreAgreed}

-- The table of each entry is bound in its box, with columns of the types by which the query was bound; the query counts its entries, reads
-- columns that are in view, compares columns of one type, and has no ON that may fault. Rows of honest boxes are as wide as their tables,
-- which is so of sound boxes (the law `bound_rows_are_wide` of med_planner).
pub record IsReady (boxes : List (Option BoxState)) (bound : BoundQuery) : Type 0 where
  pub kinds : List (List ColType)
  pub typed : AreOfKinds (bound_at boxes) bound.entries.items kinds
  pub counts : FormCounts (bound_widths bound) (form_of bound.select)
  pub view : FormWithin (bound_widths bound) (form_of bound.select)
  pub alike : FormAlike kinds (form_of bound.select)
  pub wide : HonestOver (map entry_place bound.entries.items) boxes
      → RowsAreWide bound.entries.items (tables_by bound.entries.items (rows_at boxes))
  pub safe : are_safe_cores bound.select.cores.items ≡ true

-- a plan of a bound query: it may be run, it has one level for each entry of each core, by what the boxes agreed to, and where the boxes
-- of the entries tell the truth, it is a plan over the rows of the entries' tables
pub record IsPlanFor (boxes : List (Option BoxState)) (bound : BoundQuery) (plan : LoopPlan) : Type 0 where
  pub query : plan.select ≡ bound.select
  pub run : CanRun boxes plan
  pub scans : (slot : ℕ) → scans_in (plan_levels plan) slot ≡ scans_of bound slot
  pub agreed : AreAgreed boxes bound (levels_in plan.loops.items)
  pub over : HonestOver (map entry_place bound.entries.items) boxes
      → IsPlanOver (entry_rows boxes (map entry_place bound.entries.items)) plan boxes

-- over these rows of its entries, where their boxes tell the truth, the query is answered so, and no cause of the run stands
pub record RunAnswers (q : Query) (places : List Place) (boxes : List (Option BoxState)) (rows : List Tuple) : Type 0 where
  pub answers : HonestOver places boxes → IsAnswer q (entry_rows boxes places) rows
  pub clear : HonestOver places boxes → (c : Cause) → IsShownCause q (entry_rows boxes places) c → ⊥
