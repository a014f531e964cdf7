use Rattle.std.proofs.Common.{List, [], ◌∷◌, map, inl, inr, refl, ap, sym, ◌∙◌, subst}
use Rattle.med_value.specs.Datum.{Tuple, tuple}
use Rattle.med_query.specs.Select.{query_of}
use Rattle.med_query.specs.declared.select.Select.{Select}
use Rattle.med_binder.specs.Place.{entry_place}
use Rattle.med_exec.specs.Rests.{Rests}
use Rattle.med_exec.specs.Running.{Held, ServesRun, none_held}
use Rattle.med_exec.proofs.Served.{all_served}
use Rattle.scan_loops.specs.Prelude.{scans_in, states, IsBareRun}
use Rattle.scan_loops.specs.declared.levels.LoopLevel.{LoopLevel}
use Rattle.scan_loops.proofs.CountLemmas.{none_at_most}
use Rattle.loop_runs.specs.Running.{plan_levels, loops_stop}
use Rattle.med_exec.specs.BoundCounting.{scans_of}
use Rattle.med_exec.proofs.Beginning.{begun, held_begun, stream_holds, levels_placed, answer_holds, not_shown}
use Rattle.med_exec.proofs.Counts.{begins_told, at_most_told}
use Rattle.med_exec.proofs.Words.{run_answers, run_pulls, run_stops}
use Rattle.loop_runs.specs.Gathering.{levels_in}
use Rattle.med_exec.proofs.Bare.{shows_all, has_entry}
use Rattle.med_exec.proofs.Opening.{stream_opens}
use Rattle.med_exec.proofs.Plain.{unordered}
use Rattle.med_exec.proofs.bound_running.start_bound.Goals as goal

pub returns-in-Err-clause-ended : goal.returns-in-Err-clause-ended
returns-in-Err-clause-ended g c = all_served (states g.W.Wrapper.meaning c.args.slots.now.items)

pub returns-in-Err-clause-at_most : goal.returns-in-Err-clause-at_most
returns-in-Err-clause-at_most g c =
    let boxes = states g.W.Wrapper.meaning c.args.slots.now.items in
    at_most_told (scans_of c.args.bound) (scans_of c.args.bound) (λ slot. refl) boxes boxes (none_at_most (scans_of c.args.bound) boxes)

pub returns-in-Err-clause-pulls : goal.returns-in-Err-clause-pulls
returns-in-Err-clause-pulls g c = inl refl

-- ---- a run that holds its scans

pub returns-in-Ok-start_plan-clause-boxes : goal.returns-in-Ok-start_plan-clause-boxes
returns-in-Ok-start_plan-clause-boxes g c =
    subst (λ (h : Held). ServesRun none_held h (states g.W.Wrapper.meaning c.args.slots.now.items) (states g.W.Wrapper.meaning c.start_plan.new.slots.items)) (sym c.streamed.ensures.held) c.in-Ok-start_plan.ensures.ok.starts.serves

pub returns-in-Ok-start_plan-clause-running : goal.returns-in-Ok-start_plan-clause-running
returns-in-Ok-start_plan-clause-running g c = c.streamed.ensures.running (states g.W.Wrapper.meaning c.start_plan.new.slots.items) c.in-Ok-start_plan.ensures.ok.streams

pub returns-in-Ok-start_plan-clause-holds : goal.returns-in-Ok-start_plan-clause-holds
returns-in-Ok-start_plan-clause-holds g c =
    let started = c.in-Ok-start_plan.ensures.ok in
    stream_holds (map entry_place c.args.bound.entries.items) c.in-Ok-start_plan.run' (states g.W.Wrapper.meaning c.start_plan.new.slots.items) c.streamed.result c.streamed.ensures.held started.streams
    (levels_placed (states g.W.Wrapper.meaning c.args.slots.now.items) c.args.bound c.in-Ok.plan c.in-Ok-start_plan.run'.levels.items c.requires.ready c.in-Ok.ensures.ok started.levels)

pub returns-in-Ok-start_plan-clause-ok : goal.returns-in-Ok-start_plan-clause-ok
returns-in-Ok-start_plan-clause-ok g c =
    let old = states g.W.Wrapper.meaning c.args.slots.now.items in
    let new = states g.W.Wrapper.meaning c.start_plan.new.slots.items in
    begun (query_of c.args.bound.select) (map entry_place c.args.bound.entries.items) old (Rests c.streamed.result new)
    (λ rows r. run_answers old c.args.bound c.in-Ok.plan c.in-Ok.ensures.ok rows (λ db over. c.in-Ok-start_plan.ensures.ok.answers db over rows ((c.streamed.ensures.rests new rows).0 r)))
    (c.runs_have_rests.ensures c.streamed.result new)

pub returns-in-Ok-start_plan-clause-begins : goal.returns-in-Ok-start_plan-clause-begins
returns-in-Ok-start_plan-clause-begins g c =
    begins_told (scans_in (plan_levels c.in-Ok.plan)) (scans_of c.args.bound) c.in-Ok.ensures.ok.scans (states g.W.Wrapper.meaning c.args.slots.now.items) (states g.W.Wrapper.meaning c.start_plan.new.slots.items) c.in-Ok-start_plan.ensures.begins

pub returns-in-Ok-start_plan-clause-scans : goal.returns-in-Ok-start_plan-clause-scans
returns-in-Ok-start_plan-clause-scans g c =
    let started = c.in-Ok-start_plan.ensures.ok in
    let made = c.in-Ok.ensures.ok in
    let asks = c.streamed.ensures.asks in
    inl (record {
      plan = c.in-Ok.plan;
      made = made;
      shown = c.is_shown.ensures.0 c.if-is_shown.true;
      levels = started.levels ∙ ap (λ (ls : List LoopLevel). ls ∷ []) (sym asks.0);
      offset = asks.1 ∙ started.skip ∙ ap (λ (s : Select). s.offset) made.query;
      limit = asks.2 ∙ started.left ∙ ap (λ (s : Select). s.limit) made.query;
      pulls = c.in-Ok-start_plan.ensures.pulls;
    })

pub returns-in-Ok-start_plan-clause-plain : goal.returns-in-Ok-start_plan-clause-plain
returns-in-Ok-start_plan-clause-plain g c = λ plain safe some. c.in-Ok-start_plan.ensures.pulls

pub returns-in-Ok-start_plan-clause-bare : goal.returns-in-Ok-start_plan-clause-bare
returns-in-Ok-start_plan-clause-bare g c = λ bare safe.
    let started = c.in-Ok-start_plan.ensures.ok in
    let made = c.in-Ok.ensures.ok in
    let asks = c.streamed.ensures.asks in (
      subst IsBareRun (sym asks.0) (shows_all c.args.bound made.agreed.answers (levels_in c.in-Ok.plan.loops.items) c.in-Ok-start_plan.run'.levels.items bare made.agreed.levels started.levels),
      asks.1 ∙ started.skip ∙ ap (λ (s : Select). s.offset) made.query ∙ bare.at_first,
    )

pub returns-in-Ok-start_plan-clause-opens : goal.returns-in-Ok-start_plan-clause-opens
returns-in-Ok-start_plan-clause-opens g c = λ plain safe some.
    let started = c.in-Ok-start_plan.ensures.ok in
    let agreed = c.in-Ok.ensures.ok.agreed in
    stream_opens c.args.bound agreed.answers (levels_in c.in-Ok.plan.loops.items) c.in-Ok-start_plan.run' c.streamed.result (states g.W.Wrapper.meaning c.start_plan.new.slots.items) plain agreed.levels started.levels
    c.streamed.ensures.held started.streams

pub returns-in-Err-start_plan-clause-ended : goal.returns-in-Err-start_plan-clause-ended
returns-in-Err-start_plan-clause-ended g c = c.in-Err-start_plan.ensures.err.served

pub returns-in-Err-start_plan-clause-err : goal.returns-in-Err-start_plan-clause-err
returns-in-Err-start_plan-clause-err g c =
    run_stops (states g.W.Wrapper.meaning c.args.slots.now.items) c.args.bound c.in-Ok.plan c.in-Ok.ensures.ok c.in-Err-start_plan.fault (states g.W.Wrapper.meaning c.start_plan.new.slots.items) (λ db. loops_stop c.in-Err-start_plan.ensures.err.cause)

pub returns-in-Err-start_plan-clause-at_most : goal.returns-in-Err-start_plan-clause-at_most
returns-in-Err-start_plan-clause-at_most g c =
    at_most_told (scans_in (plan_levels c.in-Ok.plan)) (scans_of c.args.bound) c.in-Ok.ensures.ok.scans (states g.W.Wrapper.meaning c.args.slots.now.items) (states g.W.Wrapper.meaning c.start_plan.new.slots.items) c.in-Err-start_plan.ensures.at_most

pub returns-in-Err-start_plan-clause-pulls : goal.returns-in-Err-start_plan-clause-pulls
returns-in-Err-start_plan-clause-pulls g c = inl c.in-Err-start_plan.ensures.pulls

-- ---- a run that holds its answer

pub returns-in-Ok-run_plan-clause-boxes : goal.returns-in-Ok-run_plan-clause-boxes
returns-in-Ok-run_plan-clause-boxes g c =
    subst (λ (h : Held). ServesRun none_held h (states g.W.Wrapper.meaning c.args.slots.now.items) (states g.W.Wrapper.meaning c.run_plan.new.slots.items)) (sym c.held.ensures.none.0) c.in-Ok-run_plan.ensures.served

pub returns-in-Ok-run_plan-clause-running : goal.returns-in-Ok-run_plan-clause-running
returns-in-Ok-run_plan-clause-running g c = c.held.ensures.running (states g.W.Wrapper.meaning c.run_plan.new.slots.items)

pub returns-in-Ok-run_plan-clause-holds : goal.returns-in-Ok-run_plan-clause-holds
returns-in-Ok-run_plan-clause-holds g c = answer_holds (map entry_place c.args.bound.entries.items) c.held.result (states g.W.Wrapper.meaning c.run_plan.new.slots.items) c.held.ensures.none.0

pub returns-in-Ok-run_plan-clause-ok : goal.returns-in-Ok-run_plan-clause-ok
returns-in-Ok-run_plan-clause-ok g c =
    let old = states g.W.Wrapper.meaning c.args.slots.now.items in
    let new = states g.W.Wrapper.meaning c.run_plan.new.slots.items in
    let out : List Tuple = map tuple c.in-Ok-run_plan.rows.items in
    held_begun (query_of c.args.bound.select) (map entry_place c.args.bound.entries.items) old out (Rests c.held.result new) (c.held.ensures.rests new)
    (run_answers old c.args.bound c.in-Ok.plan c.in-Ok.ensures.ok out c.in-Ok-run_plan.ensures.ok)

pub returns-in-Ok-run_plan-clause-begins : goal.returns-in-Ok-run_plan-clause-begins
returns-in-Ok-run_plan-clause-begins g c =
    begins_told (scans_in (plan_levels c.in-Ok.plan)) (scans_of c.args.bound) c.in-Ok.ensures.ok.scans (states g.W.Wrapper.meaning c.args.slots.now.items) (states g.W.Wrapper.meaning c.run_plan.new.slots.items) c.in-Ok-run_plan.ensures.begins

pub returns-in-Ok-run_plan-clause-scans : goal.returns-in-Ok-run_plan-clause-scans
returns-in-Ok-run_plan-clause-scans g c =
    inr (record {
      plan = c.in-Ok.plan;
      made = c.in-Ok.ensures.ok;
      waits = λ s. not_shown c.is_shown.result c.if-is_shown.false (c.is_shown.ensures.1 s);
      none = c.held.ensures.none.1;
      pulls = run_pulls (states g.W.Wrapper.meaning c.args.slots.now.items) c.args.bound c.in-Ok.plan c.in-Ok.ensures.ok (states g.W.Wrapper.meaning c.run_plan.new.slots.items) c.in-Ok-run_plan.ensures.pulls;
    })

pub returns-in-Ok-run_plan-clause-plain : goal.returns-in-Ok-run_plan-clause-plain
returns-in-Ok-run_plan-clause-plain g c = λ plain safe some.
    let made = c.in-Ok.ensures.ok in
    let shown = unordered (states g.W.Wrapper.meaning c.args.slots.now.items) c.args.bound c.in-Ok.plan made plain safe some in
    absurd (not_shown c.is_shown.result c.if-is_shown.false (c.is_shown.ensures.1 (inl shown)))

pub returns-in-Ok-run_plan-clause-bare : goal.returns-in-Ok-run_plan-clause-bare
returns-in-Ok-run_plan-clause-bare g c = λ bare safe.
    let made = c.in-Ok.ensures.ok in
    let shown = unordered (states g.W.Wrapper.meaning c.args.slots.now.items) c.args.bound c.in-Ok.plan made bare.plain safe (has_entry c.args.bound bare c.requires.ready.counts) in
    absurd (not_shown c.is_shown.result c.if-is_shown.false (c.is_shown.ensures.1 (inl shown)))

pub returns-in-Ok-run_plan-clause-opens : goal.returns-in-Ok-run_plan-clause-opens
returns-in-Ok-run_plan-clause-opens g c = λ plain safe some.
    let made = c.in-Ok.ensures.ok in
    let shown = unordered (states g.W.Wrapper.meaning c.args.slots.now.items) c.args.bound c.in-Ok.plan made plain safe some in
    absurd (not_shown c.is_shown.result c.if-is_shown.false (c.is_shown.ensures.1 (inl shown)))

pub returns-in-Err-run_plan-clause-ended : goal.returns-in-Err-run_plan-clause-ended
returns-in-Err-run_plan-clause-ended g c = c.in-Err-run_plan.ensures.served

pub returns-in-Err-run_plan-clause-err : goal.returns-in-Err-run_plan-clause-err
returns-in-Err-run_plan-clause-err g c =
    run_stops (states g.W.Wrapper.meaning c.args.slots.now.items) c.args.bound c.in-Ok.plan c.in-Ok.ensures.ok c.in-Err-run_plan.fault (states g.W.Wrapper.meaning c.run_plan.new.slots.items) c.in-Err-run_plan.ensures.err

pub returns-in-Err-run_plan-clause-at_most : goal.returns-in-Err-run_plan-clause-at_most
returns-in-Err-run_plan-clause-at_most g c =
    at_most_told (scans_in (plan_levels c.in-Ok.plan)) (scans_of c.args.bound) c.in-Ok.ensures.ok.scans (states g.W.Wrapper.meaning c.args.slots.now.items) (states g.W.Wrapper.meaning c.run_plan.new.slots.items) c.in-Err-run_plan.ensures.at_most

pub returns-in-Err-run_plan-clause-pulls : goal.returns-in-Err-run_plan-clause-pulls
returns-in-Err-run_plan-clause-pulls g c = run_pulls (states g.W.Wrapper.meaning c.args.slots.now.items) c.args.bound c.in-Ok.plan c.in-Ok.ensures.ok (states g.W.Wrapper.meaning c.run_plan.new.slots.items) c.in-Err-run_plan.ensures.pulls
