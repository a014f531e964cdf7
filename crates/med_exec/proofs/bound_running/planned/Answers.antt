use Rattle.std.proofs.Common.{refl}
use Rattle.scan_loops.specs.Slots.{states}
use Rattle.med_exec.specs.Offers.{query_wish}
use Rattle.med_exec.proofs.Planning.{cores_offered, plan_for}
use Rattle.med_exec.proofs.bound_running.planned.Goals as goal

pub plan_loops-requires : goal.plan_loops-requires
plan_loops-requires g c =
    let ready = c.requires.ready in
    let bound = c.args.bound in
    cores_offered (states g.W.Wrapper.meaning c.args.slots.now.items) bound.entries.items ready.kinds bound.select.cores.items ready.typed ready.counts.cores

pub returns-clause-ok : goal.returns-clause-ok
returns-clause-ok g c =
    let boxes = states g.W.Wrapper.meaning c.args.slots.now.items in
    let bound = c.args.bound in
    let agreed = c.in-Ok.ensures.ok in
    plan_for boxes bound (record { loops = c.in-Ok.loops; select = bound.select }) (query_wish bound) agreed.answers c.bound_cores_are_in_view.ensures c.bound_rows_are_wide.ensures.counted
    c.bound_levels_can_start.ensures c.plans_are_loop_plans.ensures.plans c.wished_rows_come_in_order.ensures.wished c.wished_rows_come_in_order.ensures.unwished
    c.requires.ready c.requires.places refl refl agreed.allowed agreed.levels
