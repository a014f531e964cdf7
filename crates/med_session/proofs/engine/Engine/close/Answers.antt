use Rattle.std.proofs.Common.{◌≡◌, ◌∙◌, Some, None, codes, refl, sym, subst}
use Rattle.med_exec.specs.Slots.{states}
use Rattle.med_world.specs.Prelude.{seated, Shown, IsSound, Leads, seat_of, at_once}
use Rattle.sql_meaning.specs.Prelude.{done, refused, sql}
use Rattle.med_session.specs.Shows.{shown}
use Rattle.med_session.proofs.Seats.{put_other, put_back, read_seat, seat_sound, seat_running, left_long}
use Rattle.med_session.proofs.engine.Engine.close.Goals as goal

pub end_cursor-ended-requires-clause-sound : goal.end_cursor-ended-requires-clause-sound
end_cursor-ended-requires-clause-sound g c = seat_sound (shown g.W.Wrapper.meaning c.args.self.now) c.args.sid.number (seated c.in-Some.seat) c.requires.sound (sym c.in-Some.ensures.taken)

pub end_cursor-ended-requires-clause-running : goal.end_cursor-ended-requires-clause-running
end_cursor-ended-requires-clause-running g c = seat_running (shown g.W.Wrapper.meaning c.args.self.now) c.args.sid.number (seated c.in-Some.seat) c.requires.sound (sym c.in-Some.ensures.taken)

pub put_seat-requires : goal.put_seat-requires
put_seat-requires g c =
    let e = shown g.W.Wrapper.meaning c.args.self.now in
    c.take_seat.new.seats.ok.0 ∙ left_long c.take_seat.new.seats.items e.seats _ None c.take_seat.ensures.left c.requires.sound.sessions

pub returns-in-Ok-clause-sound : goal.returns-in-Ok-clause-sound
returns-in-Ok-clause-sound g c =
    let e = shown g.W.Wrapper.meaning c.args.self.now in
    let sid = c.args.sid.number in
    let seat = seated c.in-Some.seat in
    let boxes = states g.W.Wrapper.meaning c.end_cursor-ended.new.slots.items in
    let f = c.in-Ok.ensures.ok in
    subst (λ (n : Shown). IsSound n) (sym (put_other e sid seat _ _ _ _ boxes c.take_seat.ensures.left c.put_seat.ensures f.is))
    (c.cursors_lead.ensures.ended_sound e boxes sid seat _ f.at seat.asked c.args.sid.in_range c.requires.sound (sym c.in-Some.ensures.taken) f.there (at_once f.closes))

pub returns-in-Ok-clause-leads : goal.returns-in-Ok-clause-leads
returns-in-Ok-clause-leads g c = λ text user read.
    let e = shown g.W.Wrapper.meaning c.args.self.now in
    let sid = c.args.sid.number in
    let seat = seated c.in-Some.seat in
    let boxes = states g.W.Wrapper.meaning c.end_cursor-ended.new.slots.items in
    let f = c.in-Ok.ensures.ok in
    let is_open : seat_of e.seats sid ≡ Some seat = sym c.in-Some.ensures.taken in
    subst (λ (n : Shown). Leads e sid (sql text) (done (codes "CLOSE CURSOR")) n) (sym (put_other e sid seat _ _ _ _ boxes c.take_seat.ensures.left c.put_seat.ensures f.is))
    (c.cursors_lead.ensures.closed e boxes sid text seat _ f.at (read_seat e sid text user _ seat read is_open) is_open c.requires.sound f.there (at_once f.closes))

pub returns-in-Err-clause-sound : goal.returns-in-Err-clause-sound
returns-in-Err-clause-sound g c =
    let e = shown g.W.Wrapper.meaning c.args.self.now in
    let sid = c.args.sid.number in
    let seat = seated c.in-Some.seat in
    let boxes = states g.W.Wrapper.meaning c.end_cursor-ended.new.slots.items in
    let f = c.in-Err.ensures.err in
    subst (λ (n : Shown). IsSound n) (sym (put_back e sid seat _ _ _ boxes (sym c.in-Some.ensures.taken) c.take_seat.ensures.left c.put_seat.ensures f.seat_kept)) (rw f.boxes_kept c.requires.sound)

pub returns-in-Err-clause-leads : goal.returns-in-Err-clause-leads
returns-in-Err-clause-leads g c = λ text user read.
    let e = shown g.W.Wrapper.meaning c.args.self.now in
    let sid = c.args.sid.number in
    let seat = seated c.in-Some.seat in
    let boxes = states g.W.Wrapper.meaning c.end_cursor-ended.new.slots.items in
    let f = c.in-Err.ensures.err in
    let is_open : seat_of e.seats sid ≡ Some seat = sym c.in-Some.ensures.taken in
    subst (λ (n : Shown). Leads e sid (sql text) (refused c.in-Err.cause) n) (sym (put_back e sid seat _ _ _ boxes is_open c.take_seat.ensures.left c.put_seat.ensures f.seat_kept))
    (rw (f.told, f.boxes_kept) (c.cursors_lead.ensures.unknown e sid text seat _ _ refl (read_seat e sid text user _ seat read is_open) is_open f.unknown))
