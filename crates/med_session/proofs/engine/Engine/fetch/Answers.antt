use Rattle.std.proofs.Common.{◌≡◌, ◌∙◌, map, Some, None, string_bytes, codes, sym, subst}
use Rattle.med_value.specs.Datum.{tuple}
use Rattle.med_exec.specs.Slots.{states}
use Rattle.med_world.specs.Prelude.{seated, Shown, IsSound, Leads, seat_of, having_asked}
use Rattle.sql_meaning.specs.Prelude.{answered, sql}
use Rattle.med_session.specs.Shows.{shown}
use Rattle.med_session.proofs.Seats.{put_other, read_seat, seat_sound, seat_running, left_long}
use Rattle.med_session.proofs.Turns.{may_be_untold, failed_sound, failed_leads}
use Rattle.med_session.proofs.engine.Engine.fetch.Goals as goal

pub fetch_rows-given-requires-clause-sound : goal.fetch_rows-given-requires-clause-sound
fetch_rows-given-requires-clause-sound g c = seat_sound (shown g.W.Wrapper.meaning c.args.self.now) c.args.sid.number (seated c.in-Some.seat) c.requires.sound (sym c.in-Some.ensures.taken)

pub fetch_rows-given-requires-clause-running : goal.fetch_rows-given-requires-clause-running
fetch_rows-given-requires-clause-running g c = seat_running (shown g.W.Wrapper.meaning c.args.self.now) c.args.sid.number (seated c.in-Some.seat) c.requires.sound (sym c.in-Some.ensures.taken)

pub put_seat-requires : goal.put_seat-requires
put_seat-requires g c =
    let e = shown g.W.Wrapper.meaning c.args.self.now in
    c.take_seat.new.seats.ok.0 ∙ left_long c.take_seat.new.seats.items e.seats _ None c.take_seat.ensures.left c.requires.sound.sessions

pub returns-in-Ok-clause-sound : goal.returns-in-Ok-clause-sound
returns-in-Ok-clause-sound g c =
    let e = shown g.W.Wrapper.meaning c.args.self.now in
    let sid = c.args.sid.number in
    let seat = seated c.in-Some.seat in
    let boxes = states g.W.Wrapper.meaning c.fetch_rows-given.new.slots.items in
    let f = rw c.as_str.ensures.value at c.in-Ok.ensures.ok in
    subst (λ (n : Shown). IsSound n) (sym (put_other e sid (having_asked seat f.count) _ _ _ _ boxes c.take_seat.ensures.left c.put_seat.ensures f.is))
    (c.cursors_lead.ensures.fetched_sound e boxes sid seat _ _ f.at _ f.run f.count c.args.sid.in_range c.requires.sound (sym c.in-Some.ensures.taken) f.there f.gives)

pub returns-in-Ok-clause-leads : goal.returns-in-Ok-clause-leads
returns-in-Ok-clause-leads g c = λ text user read.
    let e = shown g.W.Wrapper.meaning c.args.self.now in
    let sid = c.args.sid.number in
    let seat = seated c.in-Some.seat in
    let boxes = states g.W.Wrapper.meaning c.fetch_rows-given.new.slots.items in
    let f = rw c.as_str.ensures.value at c.in-Ok.ensures.ok in
    let is_open : seat_of e.seats sid ≡ Some seat = sym c.in-Some.ensures.taken in
    let rows = map tuple c.in-Ok.set.rows.items in
    subst (λ (n : Shown). Leads e sid (sql text) (answered (codes "FETCH") (map string_bytes c.in-Ok.set.names.items) rows) n) (sym (put_other e sid (having_asked seat f.count) _ _ _ _ boxes c.take_seat.ensures.left c.put_seat.ensures f.is))
    (rw f.named (c.cursors_lead.ensures.fetched e boxes sid text seat _ _ f.at rows f.run f.count (read_seat e sid text user _ seat read is_open) is_open c.requires.sound f.there f.gives f.pulls))

pub returns-in-Ok-clause-untold : goal.returns-in-Ok-clause-untold
returns-in-Ok-clause-untold g c = λ text user read.
    let e = shown g.W.Wrapper.meaning c.args.self.now in
    let sid = c.args.sid.number in
    let seat = seated c.in-Some.seat in
    let boxes = states g.W.Wrapper.meaning c.fetch_rows-given.new.slots.items in
    let f = rw c.as_str.ensures.value at c.in-Ok.ensures.ok in
    let is_open : seat_of e.seats sid ≡ Some seat = sym c.in-Some.ensures.taken in
    may_be_untold c.cursors_lead.ensures.not_fetched e sid text seat _ _ _ _ _ boxes _ (read_seat e sid text user _ seat read is_open) is_open c.requires.sound f
    (put_other e sid (having_asked seat f.count) _ _ _ _ boxes c.take_seat.ensures.left c.put_seat.ensures f.is)

pub returns-in-Err-clause-sound : goal.returns-in-Err-clause-sound
returns-in-Err-clause-sound g c =
    let e = shown g.W.Wrapper.meaning c.args.self.now in
    let seat = seated c.in-Some.seat in
    let boxes = states g.W.Wrapper.meaning c.fetch_rows-given.new.slots.items in
    failed_sound e c.args.sid.number seat _ _ _ boxes _ c.requires.sound (sym c.in-Some.ensures.taken) c.take_seat.ensures.left c.put_seat.ensures c.cursors_lead.ensures.ended_sound c.args.sid.in_range _ c.in-Err.fault (rw c.as_str.ensures.value at c.in-Err.ensures.err)

pub returns-in-Err-clause-leads : goal.returns-in-Err-clause-leads
returns-in-Err-clause-leads g c = λ text user read.
    let e = shown g.W.Wrapper.meaning c.args.self.now in
    let sid = c.args.sid.number in
    let seat = seated c.in-Some.seat in
    let boxes = states g.W.Wrapper.meaning c.fetch_rows-given.new.slots.items in
    let is_open : seat_of e.seats sid ≡ Some seat = sym c.in-Some.ensures.taken in
    failed_leads e sid seat _ _ _ boxes _ c.requires.sound is_open c.take_seat.ensures.left c.put_seat.ensures c.cursors_lead.ensures.not_fetched c.cursors_lead.ensures.unknown c.sessions_lead.ensures.no_memory text _ c.in-Err.fault _ c.cause.ensures
    (read_seat e sid text user _ seat read is_open) (rw c.as_str.ensures.value at c.in-Err.ensures.err)
