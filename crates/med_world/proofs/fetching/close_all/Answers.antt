use Rattle.std.proofs.Common.{map}
use Rattle.med_exec.specs.Slots.{states}
use Rattle.med_world.specs.Open.{opened, held_by}
use Rattle.med_world.proofs.Closing.{last_held, front_own, front_held, front_served}
use Rattle.med_world.proofs.fetching.close_all.Goals as goal

pub close_cursor-requires : goal.close_cursor-requires
close_cursor-requires g c =
    last_held c.loop-cursor.cursors.items c.pop.new.self.items c.in-Some.cursor c.in-Some.ensures.items (states g.W.Wrapper.meaning c.loop-cursor.slots.items) c.loop-cursor.invariant.good

pub loop-cursor-preserved : goal.loop-cursor-preserved
loop-cursor-preserved g c =
    let m = g.W.Wrapper.meaning in
    let popped = c.in-Some.ensures.items in
    let before = c.loop-cursor.cursors.items in
    let after = c.pop.new.self.items in
    let now = states m c.loop-cursor.slots.items in
    let new = states m c.close_cursor.new.slots.items in
    record {
      boxes = c.services_join.ensures.joined (held_by (map opened c.args.cursors.items)) (held_by (map opened before)) (held_by (map opened after)) (states m c.args.slots.now.items) now new
          c.loop-cursor.invariant.boxes (front_served before after c.in-Some.cursor popped now new c.close_cursor.ensures.boxes);
      own = front_own before after c.in-Some.cursor popped c.loop-cursor.invariant.own;
      good = front_held before after c.in-Some.cursor popped c.other_runs_are_left.ensures.held now new c.loop-cursor.invariant.own c.loop-cursor.invariant.good c.close_cursor.ensures.boxes;
    }
