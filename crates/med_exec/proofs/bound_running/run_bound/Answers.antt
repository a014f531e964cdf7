use Rattle.std.proofs.Common.{map, inl, refl}
use Rattle.med_value.specs.Datum.{tuple}
use Rattle.med_exec.proofs.Served.{all_served}
use Rattle.scan_loops.specs.Prelude.{states, scans_in}
use Rattle.med_exec.proofs.Words.{run_answers, run_pulls, run_stops, ok_on, err_on}
use Rattle.scan_loops.proofs.CountLemmas.{none_at_most}
use Rattle.loop_runs.specs.Running.{plan_levels}
use Rattle.med_exec.specs.BoundCounting.{scans_of}
use Rattle.med_exec.proofs.Counts.{begins_told, at_most_told}
use Rattle.med_exec.proofs.bound_running.run_bound.Goals as goal

pub returns-in-Err-clause-served : goal.returns-in-Err-clause-served
returns-in-Err-clause-served g c = all_served (states g.W.Wrapper.meaning c.args.slots.now.items)

pub returns-clause-served : goal.returns-clause-served
returns-clause-served g c = c.run_plan.ensures.served

pub returns-clause-ok : goal.returns-clause-ok
returns-clause-ok g c =
    ok_on c.run_plan.result _ _ (λ rows h. run_answers (states g.W.Wrapper.meaning c.args.slots.now.items) c.args.bound c.in-Ok.plan c.in-Ok.ensures.ok (map tuple rows.items) h) c.run_plan.ensures.ok

pub returns-clause-err : goal.returns-clause-err
returns-clause-err g c =
    err_on c.run_plan.result _ _ (λ fault h. run_stops (states g.W.Wrapper.meaning c.args.slots.now.items) c.args.bound c.in-Ok.plan c.in-Ok.ensures.ok fault (states g.W.Wrapper.meaning c.run_plan.new.slots.items) h) c.run_plan.ensures.err

pub returns-in-Err-clause-at_most : goal.returns-in-Err-clause-at_most
returns-in-Err-clause-at_most g c =
    let boxes = states g.W.Wrapper.meaning c.args.slots.now.items in
    at_most_told (scans_of c.args.bound) (scans_of c.args.bound) (λ slot. refl) boxes boxes (none_at_most (scans_of c.args.bound) boxes)

pub returns-clause-begins : goal.returns-clause-begins
returns-clause-begins g c =
    ok_on c.run_plan.result _ _
    (λ rows h. begins_told (scans_in (plan_levels c.in-Ok.plan)) (scans_of c.args.bound) c.in-Ok.ensures.ok.scans (states g.W.Wrapper.meaning c.args.slots.now.items) (states g.W.Wrapper.meaning c.run_plan.new.slots.items) h) c.run_plan.ensures.begins

pub returns-clause-at_most : goal.returns-clause-at_most
returns-clause-at_most g c =
    err_on c.run_plan.result _ _
    (λ fault h. at_most_told (scans_in (plan_levels c.in-Ok.plan)) (scans_of c.args.bound) c.in-Ok.ensures.ok.scans (states g.W.Wrapper.meaning c.args.slots.now.items) (states g.W.Wrapper.meaning c.run_plan.new.slots.items) h) c.run_plan.ensures.at_most

pub returns-in-Err-clause-pulls : goal.returns-in-Err-clause-pulls
returns-in-Err-clause-pulls g c = inl refl

pub returns-clause-pulls : goal.returns-clause-pulls
returns-clause-pulls g c = run_pulls (states g.W.Wrapper.meaning c.args.slots.now.items) c.args.bound c.in-Ok.plan c.in-Ok.ensures.ok (states g.W.Wrapper.meaning c.run_plan.new.slots.items) c.run_plan.ensures.pulls
