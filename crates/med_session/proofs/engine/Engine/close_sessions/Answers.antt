use Rattle.med_exec.specs.Slots.{states}
use Rattle.med_world.specs.Open.{seats_shown}
use Rattle.med_session.specs.Shows.{shown}
use Rattle.med_session.proofs.engine.Engine.close_sessions.Goals as goal

pub returns-clause-sound : goal.returns-clause-sound
returns-clause-sound g c =
    c.sessions_end.ensures.all_sound (shown g.W.Wrapper.meaning c.args.self.now) (states g.W.Wrapper.meaning c.close_seats.new.slots.items) (seats_shown c.close_seats.new.seats.items) c.requires c.close_seats.ensures.closed c.close_seats.ensures.served

pub returns-clause-closes : goal.returns-clause-closes
returns-clause-closes g c =
    c.sessions_end.ensures.all (shown g.W.Wrapper.meaning c.args.self.now) (states g.W.Wrapper.meaning c.close_seats.new.slots.items) (seats_shown c.close_seats.new.seats.items) c.close_seats.ensures.closed c.close_seats.ensures.served

pub close_seats-requires-clause-held : goal.close_seats-requires-clause-held
close_seats-requires-clause-held g c = (c.cursors_may_close.ensures.all (shown g.W.Wrapper.meaning c.args.self.now) c.requires).0

pub close_seats-requires-clause-own : goal.close_seats-requires-clause-own
close_seats-requires-clause-own g c = (c.cursors_may_close.ensures.all (shown g.W.Wrapper.meaning c.args.self.now) c.requires).1
