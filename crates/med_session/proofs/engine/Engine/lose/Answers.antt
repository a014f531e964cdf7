use Rattle.std.proofs.Common.{◌∙◌, None, sym, subst}
use Rattle.med_exec.specs.Slots.{states}
use Rattle.med_world.specs.Prelude.{seated, Shown, IsSound, at_once}
use Rattle.med_session.specs.Shows.{shown}
use Rattle.med_session.proofs.Seats.{put_other, seat_sound, seat_running, left_long}
use Rattle.med_session.proofs.engine.Engine.lose.Goals as goal

pub end_cursor-requires-clause-sound : goal.end_cursor-requires-clause-sound
end_cursor-requires-clause-sound g c = seat_sound (shown g.W.Wrapper.meaning c.args.self.now) c.args.sid.number (seated c.in-Some.seat) c.requires.sound (sym c.in-Some.ensures.taken)

pub end_cursor-requires-clause-running : goal.end_cursor-requires-clause-running
end_cursor-requires-clause-running g c = seat_running (shown g.W.Wrapper.meaning c.args.self.now) c.args.sid.number (seated c.in-Some.seat) c.requires.sound (sym c.in-Some.ensures.taken)

pub put_seat-requires : goal.put_seat-requires
put_seat-requires g c =
    let e = shown g.W.Wrapper.meaning c.args.self.now in
    c.take_seat.new.seats.ok.0 ∙ left_long c.take_seat.new.seats.items e.seats _ None c.take_seat.ensures.left c.requires.sound.sessions

pub returns-clause-sound : goal.returns-clause-sound
returns-clause-sound g c =
    let e = shown g.W.Wrapper.meaning c.args.self.now in
    let sid = c.args.sid.number in
    let seat = seated c.in-Some.seat in
    let boxes = states g.W.Wrapper.meaning c.end_cursor.new.slots.items in
    let f = c.in-Ok.ensures.ok in
    subst (λ (n : Shown). IsSound n) (sym (put_other e sid seat _ _ _ _ boxes c.take_seat.ensures.left c.put_seat.ensures f.is))
    (c.cursors_lead.ensures.ended_sound e boxes sid seat _ f.at seat.asked c.args.sid.in_range c.requires.sound (sym c.in-Some.ensures.taken) f.there (at_once f.closes))

pub returns-clause-lost : goal.returns-clause-lost
returns-clause-lost g c =
    let e = shown g.W.Wrapper.meaning c.args.self.now in
    let sid = c.args.sid.number in
    let seat = seated c.in-Some.seat in
    let boxes = states g.W.Wrapper.meaning c.end_cursor.new.slots.items in
    let f = c.in-Ok.ensures.ok in
    record {
      seat = seat;
      is_open = sym c.in-Some.ensures.taken;
      at = f.at;
      there = f.there;
      closes = f.closes;
      pulls = f.pulls;
      is = put_other e sid seat _ _ _ _ boxes c.take_seat.ensures.left c.put_seat.ensures f.is;
    }
