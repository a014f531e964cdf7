use Rattle.std.proofs.Common.{sym, subst}
use Rattle.med_exec.specs.Slots.{states}
use Rattle.med_world.specs.Prelude.{seated, Shown, IsSound, Closes}
use Rattle.med_session.specs.Shows.{shown}
use Rattle.med_session.proofs.Seats.{vacated, shut}
use Rattle.med_session.proofs.engine.Engine.close_session.Goals as goal

pub returns-in-Some-clause-sound : goal.returns-in-Some-clause-sound
returns-in-Some-clause-sound g c =
    let e = shown g.W.Wrapper.meaning c.args.self.now in
    let boxes = states g.W.Wrapper.meaning c.close_all.new.slots.items in
    subst (λ (n : Shown). IsSound n) (sym (vacated e c.args.sid.number _ boxes c.take_seat.ensures.left))
    (c.sessions_end.ensures.one_sound e boxes c.args.sid.number (seated c.in-Some.seat) c.args.sid.in_range c.requires (sym c.in-Some.ensures.taken) c.close_all.ensures)

pub returns-in-Some-clause-closes : goal.returns-in-Some-clause-closes
returns-in-Some-clause-closes g c =
    let e = shown g.W.Wrapper.meaning c.args.self.now in
    let boxes = states g.W.Wrapper.meaning c.close_all.new.slots.items in
    subst (λ (n : Shown). Closes e c.args.sid.number n) (sym (vacated e c.args.sid.number _ boxes c.take_seat.ensures.left))
    (c.sessions_end.ensures.one e boxes c.args.sid.number (seated c.in-Some.seat) c.args.sid.in_range c.requires.sessions (sym c.in-Some.ensures.taken) c.close_all.ensures)

pub returns-in-None-clause-sound : goal.returns-in-None-clause-sound
returns-in-None-clause-sound g c =
    let e = shown g.W.Wrapper.meaning c.args.self.now in
    subst (λ (n : Shown). IsSound n) (sym (shut e c.args.sid.number _ c.take_seat.ensures.left)) (c.sessions_end.ensures.none_sound e c.args.sid.number c.args.sid.in_range c.requires (sym c.in-None.ensures.taken))

pub returns-in-None-clause-closes : goal.returns-in-None-clause-closes
returns-in-None-clause-closes g c =
    let e = shown g.W.Wrapper.meaning c.args.self.now in
    subst (λ (n : Shown). Closes e c.args.sid.number n) (sym (shut e c.args.sid.number _ c.take_seat.ensures.left))
    (c.sessions_end.ensures.none e c.args.sid.number c.args.sid.in_range c.requires.sessions (sym c.in-None.ensures.taken))

pub close_all-requires-clause-held : goal.close_all-requires-clause-held
close_all-requires-clause-held g c = (c.cursors_may_close.ensures.one (shown g.W.Wrapper.meaning c.args.self.now) c.args.sid.number (seated c.in-Some.seat) c.requires (sym c.in-Some.ensures.taken)).0

pub close_all-requires-clause-own : goal.close_all-requires-clause-own
close_all-requires-clause-own g c = (c.cursors_may_close.ensures.one (shown g.W.Wrapper.meaning c.args.self.now) c.args.sid.number (seated c.in-Some.seat) c.requires (sym c.in-Some.ensures.taken)).1
