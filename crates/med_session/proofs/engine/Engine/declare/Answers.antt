use Rattle.std.proofs.Common.{◌≡◌, ◌∙◌, Some, None, codes, sym, subst}
use Rattle.med_exec.specs.Slots.{states}
use Rattle.med_world.specs.Prelude.{seated, Shown, IsSound, Leads, with_boxes, seat_of}
use Rattle.sql_meaning.specs.Prelude.{done, refused, sql}
use Rattle.med_session.specs.Cursors.{is_taken, no_memory, not_started}
use Rattle.med_session.specs.Shows.{shown}
use Rattle.med_session.proofs.Seats.{put_other, put_back, read_declare, left_long}
use Rattle.med_session.proofs.Tables.{queries_ready}
use Rattle.med_session.proofs.engine.Engine.declare.Goals as goal

pub open_cursor-opened-requires-clause-ready : goal.open_cursor-opened-requires-clause-ready
open_cursor-opened-requires-clause-ready g c = rw c.deref.ensures.value (queries_ready (shown g.W.Wrapper.meaning c.args.self.now) c.requires.sound)

pub put_seat-requires : goal.put_seat-requires
put_seat-requires g c =
    let e = shown g.W.Wrapper.meaning c.args.self.now in
    c.take_seat.new.seats.ok.0 ∙ left_long c.take_seat.new.seats.items e.seats _ None c.take_seat.ensures.left c.requires.sound.sessions

pub returns-in-Ok-clause-sound : goal.returns-in-Ok-clause-sound
returns-in-Ok-clause-sound g c =
    let e = shown g.W.Wrapper.meaning c.args.self.now in
    let sid = c.args.sid.number in
    let seat = seated c.in-Some.seat in
    let boxes = states g.W.Wrapper.meaning c.open_cursor-opened.new.slots.items in
    let o = rw c.deref.ensures.value at c.in-Ok.ensures.ok in
    subst (λ (n : Shown). IsSound n) (sym (put_other e sid seat _ _ _ _ boxes c.take_seat.ensures.left c.put_seat.ensures o.is))
    (c.cursors_lead.ensures.declared_sound e boxes sid seat _ _ o.names o.run c.args.sid.in_range c.requires.sound (sym c.in-Some.ensures.taken) o.unknown o.starts)

pub returns-in-Ok-clause-leads : goal.returns-in-Ok-clause-leads
returns-in-Ok-clause-leads g c = λ text user read.
    let e = shown g.W.Wrapper.meaning c.args.self.now in
    let sid = c.args.sid.number in
    let seat = seated c.in-Some.seat in
    let boxes = states g.W.Wrapper.meaning c.open_cursor-opened.new.slots.items in
    let o = rw c.deref.ensures.value at c.in-Ok.ensures.ok in
    let is_open : seat_of e.seats sid ≡ Some seat = sym c.in-Some.ensures.taken in
    subst (λ (n : Shown). Leads e sid (sql text) (done (codes "DECLARE CURSOR")) n) (sym (put_other e sid seat _ _ _ _ boxes c.take_seat.ensures.left c.put_seat.ensures o.is))
    (c.cursors_lead.ensures.declared e boxes sid text seat _ _ o.names o.run (read_declare e sid text user _ _ seat read is_open) is_open c.requires.sound o.unknown o.starts)

pub returns-in-Err-clause-sound : goal.returns-in-Err-clause-sound
returns-in-Err-clause-sound g c =
    let e = shown g.W.Wrapper.meaning c.args.self.now in
    let sid = c.args.sid.number in
    let seat = seated c.in-Some.seat in
    let boxes = states g.W.Wrapper.meaning c.open_cursor-opened.new.slots.items in
    let is_open : seat_of e.seats sid ≡ Some seat = sym c.in-Some.ensures.taken in
    subst (λ (n : Shown). IsSound n) (sym (put_back e sid seat _ _ _ boxes is_open c.take_seat.ensures.left c.put_seat.ensures c.in-Err.ensures.kept))
    (elim (rw c.deref.ensures.value at c.in-Err.ensures.err) as (λ _. IsSound (with_boxes e boxes)) [
      | is_taken told there kept ↦ rw kept c.requires.sound
      | no_memory told kept ↦ rw kept c.requires.sound
      | not_started unknown fails ↦ c.cursors_lead.ensures.not_declared_sound e boxes seat _ c.in-Err.cause c.requires.sound fails
    ])

pub returns-in-Err-clause-leads : goal.returns-in-Err-clause-leads
returns-in-Err-clause-leads g c = λ text user read.
    let e = shown g.W.Wrapper.meaning c.args.self.now in
    let sid = c.args.sid.number in
    let seat = seated c.in-Some.seat in
    let boxes = states g.W.Wrapper.meaning c.open_cursor-opened.new.slots.items in
    let is_open : seat_of e.seats sid ≡ Some seat = sym c.in-Some.ensures.taken in
    let asked = read_declare e sid text user _ _ seat read is_open in
    subst (λ (n : Shown). Leads e sid (sql text) (refused c.in-Err.cause) n) (sym (put_back e sid seat _ _ _ boxes is_open c.take_seat.ensures.left c.put_seat.ensures c.in-Err.ensures.kept))
    (elim (rw c.deref.ensures.value at c.in-Err.ensures.err) as (λ _. Leads e sid (sql text) (refused c.in-Err.cause) (with_boxes e boxes)) [
      | is_taken told there kept ↦ rw (told, kept) (c.cursors_lead.ensures.exists e sid text seat _ _ asked is_open there)
      | no_memory told kept ↦ rw (told, kept) (c.sessions_lead.ensures.no_memory e sid (sql text) tt)
      | not_started unknown fails ↦ c.cursors_lead.ensures.not_declared e boxes sid text seat _ _ c.in-Err.cause asked is_open c.requires.sound unknown fails
    ])
