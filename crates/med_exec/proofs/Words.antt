-- What the runs of loops say, in the words of med_exec and med_planner.
use Rattle.std.proofs.Common.{◌≡◌, ◌∙◌, ◌+◌, ℕ, inr, List, map, Option, Result, Ok, Err, IfOk, IfErr, ap, sym, subst}
use Rattle.med_value.specs.Datum.{Tuple}
use Rattle.med_query.specs.Prelude.{Query, Tables, IsAnswer, query_of, IsShownCause}
use Rattle.med_query.specs.declared.select.Select.{Select}
use Rattle.med_binder.specs.declared.bound.BoundQuery.{BoundQuery}
use Rattle.fdw_api.specs.State.{BoxState}
use Rattle.fdw_api.specs.declared.interface.Fault.{Fault}
use Rattle.med_binder.specs.Place.{entry_place}
use Rattle.med_planner.specs.Planned.{entry_rows}
use Rattle.med_exec.specs.Running.{Stops as RunStops, lacks_memory, source_fails, numbers_end, query_shows as query_tells}
use Rattle.scan_loops.specs.Prelude.{PullsAtMost, many_in, wants_memory, box_breaks, ComesInOrder}
use Rattle.scan_loops.specs.Starting.{box_stops, numbers_end as numbers_out}
use Rattle.loop_runs.specs.Gathering.{levels_in}
use Rattle.loop_runs.specs.Ordering.{PullsAsAsked}
use Rattle.loop_runs.specs.Running.{IsPlanOver, Answers, Stops, loops_stop, query_shows}
use Rattle.loop_runs.specs.declared.running.LoopPlan.{LoopPlan}
use Rattle.med_exec.specs.BoundPulling.{PullsRows}
use Rattle.med_exec.specs.BoundRunning.{IsPlanFor, RunAnswers}

-- ---- the run

module _ (old : List (Option BoxState)) (bound : BoundQuery) (plan : LoopPlan) (p : IsPlanFor old bound plan) where
  abbrev db : Tables
  db = entry_rows old (map entry_place bound.entries.items)

  same : query_of plan.select ≡ query_of bound.select
  same = ap query_of p.query

  pub run_answers : (rows : List Tuple) → ((eb : Tables) → IsPlanOver eb plan old → Answers eb plan rows) → RunAnswers (query_of bound.select) (map entry_place bound.entries.items) old rows
  run_answers rows h = record {
    answers = λ honest. subst (λ (q : Query). IsAnswer q db rows) same (h db (p.over honest)).answer;
    clear = λ honest c tells. (h db (p.over honest)).clear c (subst (λ (q : Query). IsShownCause q db c) (sym same) tells);
  }

  stops : (fault : Fault) (new : List (Option BoxState)) → Stops db plan fault old new → RunStops (query_of bound.select) (map entry_place bound.entries.items) fault old new
  stops fault new (loops_stop (box_stops (wants_memory e))) = lacks_memory e
  stops fault new (loops_stop (box_stops (box_breaks e failed))) = source_fails e failed
  stops fault new (loops_stop (numbers_out e used)) = numbers_end e used
  stops fault new (query_shows c e of_run tells) = query_tells c e of_run (λ honest. subst (λ (q : Query). IsShownCause q db c) same (tells (p.over honest)))

  pub run_pulls : (new : List (Option BoxState)) → PullsAsAsked plan old new → PullsRows bound old new
  run_pulls new h = inr (record {
    loops = levels_in plan.loops.items;
    agreed = p.agreed;
    pulls = λ c l only comes bare most limit. subst (λ (n : ℕ). PullsAtMost (many_in l.source n) old new) (ap (λ (s : Select). s.offset + most) p.query)
        (h (record { core = c; level = l; levels = only; comes = subst (λ (s : Select). ComesInOrder s c l) (sym p.query) comes }) bare most (ap (λ (s : Select). s.limit) p.query ∙ limit));
  })

  pub run_stops : (fault : Fault) (new : List (Option BoxState)) → ((eb : Tables) → Stops eb plan fault old new) → RunStops (query_of bound.select) (map entry_place bound.entries.items) fault old new
  run_stops fault new h = stops fault new (h db)

pub ok_on : {T E : Type 0} (r : Result T E) (P Q : T → Type 0) → ((t : T) → P t → Q t) → IfOk r P → IfOk r Q
ok_on (Ok t) P Q f h = f t h
ok_on (Err e) P Q f h = h

pub err_on : {T E : Type 0} (r : Result T E) (P Q : E → Type 0) → ((e : E) → P e → Q e) → IfErr r P → IfErr r Q
err_on (Ok t) P Q f h = h
err_on (Err e) P Q f h = f e h
