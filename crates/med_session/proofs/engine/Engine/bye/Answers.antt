use Rattle.std.proofs.Common.{codes, sym, subst}
use Rattle.med_exec.specs.Slots.{states}
use Rattle.med_world.specs.Prelude.{seated, Shown, IsSound, Leads}
use Rattle.sql_meaning.specs.Prelude.{done, refused, bye}
use Rattle.med_value.specs.declared.cause.Cause.TheVariants.{NoConnection}
use Rattle.med_session.specs.Shows.{shown}
use Rattle.med_session.proofs.Seats.{no_user, vacated, left_shut}
use Rattle.med_session.proofs.engine.Engine.bye.Goals as goal

pub returns-in-Some-clause-sound : goal.returns-in-Some-clause-sound
returns-in-Some-clause-sound g c =
    let e = shown g.W.Wrapper.meaning c.args.self.now in
    let boxes = states g.W.Wrapper.meaning c.close_all.new.slots.items in
    subst (λ (n : Shown). IsSound n) (sym (vacated e c.args.sid.number _ boxes c.take_seat.ensures.left))
    (c.sessions_lead.ensures.closed_sound e boxes c.args.sid.number (seated c.in-Some.seat) c.args.sid.in_range c.requires (sym c.in-Some.ensures.taken) c.close_all.ensures)

pub returns-in-Some-clause-leads : goal.returns-in-Some-clause-leads
returns-in-Some-clause-leads g c =
    let e = shown g.W.Wrapper.meaning c.args.self.now in
    let boxes = states g.W.Wrapper.meaning c.close_all.new.slots.items in
    subst (λ (n : Shown). Leads e c.args.sid.number bye (done (codes "BYE")) n) (sym (vacated e c.args.sid.number _ boxes c.take_seat.ensures.left))
    (c.sessions_lead.ensures.closed e boxes c.args.sid.number (seated c.in-Some.seat) c.args.sid.in_range c.requires.sessions (sym c.in-Some.ensures.taken) c.close_all.ensures)

pub returns-in-None-clause-sound : goal.returns-in-None-clause-sound
returns-in-None-clause-sound g c =
    let e = shown g.W.Wrapper.meaning c.args.self.now in
    subst (λ (n : Shown). IsSound n) (sym (left_shut e c.args.sid.number _ (sym c.in-None.ensures.taken) c.take_seat.ensures.left)) c.requires

pub returns-in-None-clause-leads : goal.returns-in-None-clause-leads
returns-in-None-clause-leads g c =
    let e = shown g.W.Wrapper.meaning c.args.self.now in
    subst (λ (n : Shown). Leads e c.args.sid.number bye (refused NoConnection) n) (sym (left_shut e c.args.sid.number _ (sym c.in-None.ensures.taken) c.take_seat.ensures.left))
    (c.sessions_lead.ensures.not_closed e c.args.sid.number c.args.sid.in_range (no_user e.seats c.args.sid.number (sym c.in-None.ensures.taken)))

pub close_all-requires-clause-held : goal.close_all-requires-clause-held
close_all-requires-clause-held g c = (c.cursors_may_close.ensures.one (shown g.W.Wrapper.meaning c.args.self.now) c.args.sid.number (seated c.in-Some.seat) c.requires (sym c.in-Some.ensures.taken)).0

pub close_all-requires-clause-own : goal.close_all-requires-clause-own
close_all-requires-clause-own g c = (c.cursors_may_close.ensures.one (shown g.W.Wrapper.meaning c.args.self.now) c.args.sid.number (seated c.in-Some.seat) c.requires (sym c.in-Some.ensures.taken)).1
