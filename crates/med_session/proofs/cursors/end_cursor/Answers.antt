use Rattle.std.proofs.Common.{ap, sym, refl, ◌∙◌, List, map}
use Rattle.med_world.specs.Open.{Opened, opened, seated, has_name}
use Rattle.med_exec.specs.Slots.{states}
use Rattle.med_world.proofs.NamedTables.{found_place, at_place}
use Rattle.med_session.specs.Cursors.{having}
use Rattle.med_session.proofs.CursorLists.{all_stay}
use Rattle.med_session.proofs.cursors.end_cursor.Goals as goal

pub returns-in-Some-clause-ok : goal.returns-in-Some-clause-ok
returns-in-Some-clause-ok g c = record {
  at = opened c.in-Some.cursor;
  there = sym c.in-Some.ensures.taken;
  closes = c.close_cursor.ensures.boxes;
  pulls = c.close_cursor.ensures.pulls;
  is = ap (λ (cs : List Opened). having (seated c.args.seat.now) cs) c.take.ensures.left;
}

pub returns-in-None-clause-err : goal.returns-in-None-clause-err
returns-in-None-clause-err g c = record {
  told = refl;
  unknown = sym c.in-None.ensures.taken;
  seat_kept = ap (λ (cs : List Opened). having (seated c.args.seat.now) cs) (c.take.ensures.left ∙ all_stay c.args.name.now (map opened c.args.seat.now.cursors.items) (sym c.in-None.ensures.taken));
  boxes_kept = refl;
}

pub close_cursor-requires : goal.close_cursor-requires
close_cursor-requires g c =
    let cursors = map opened c.args.seat.now.cursors.items in
    let p = found_place (has_name c.args.name.now) cursors (opened c.in-Some.cursor) (sym c.in-Some.ensures.taken) in
    c.running_is_held.ensures.held c.in-Some.cursor.run (states g.W.Wrapper.meaning c.args.slots.now.items) (c.requires.running (opened c.in-Some.cursor) (at_place cursors p.0 (opened c.in-Some.cursor) p.1))
