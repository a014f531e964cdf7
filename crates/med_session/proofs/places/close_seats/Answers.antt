use Rattle.std.proofs.Common.{◌≡◌, ◌∙◌, ◌<◌, List, Option, None, length, replicate, slice_set, sym, subst, arith}
use Rattle.std.proofs.lemmas.Grind.{common_steps}
use Rattle.med_exec.specs.Prelude.{Held, ServesRun, states}
use Rattle.med_value.specs.Limits.{session_count}
use Rattle.med_world.specs.Open.{Seated, seated, seats_shown, held_by, AreHeld, AreOwn, all_cursors}
use Rattle.med_session.proofs.CursorLists.{next_closed}
use Rattle.med_session.proofs.ClosingSeats.{shut_at, one_held, one_own, shut_held, shut_own, shut_served, shut_same, all_shut, shown_at, shown_none, shown_set}
use Rattle.med_session.proofs.places.close_seats.Goals as goal
use Rattle.med_session.proofs.places.close_seats.Goals.{in-Some, in-None}

pub close_all-requires-clause-held : goal.close_all-requires-clause-held
close_all-requires-clause-held g c =
    let items = c.loop-place.seats.items in
    let lt : c.loop-place.place < length items = (let n : length items ≡ c.loop-place.seats.len = sym c.loop-place.seats.ok.0 in let long : c.loop-place.seats.len ≡ session_count = c.loop-place.invariant.long in let m : c.loop-place.place < session_count = c.loop-place-test.true in omega (arith, n, long, m)) in
    one_held (seats_shown items) c.loop-place.place (seated c.in-Some.seat) (states g.W.Wrapper.meaning c.loop-place.slots.items)
    (shown_at items c.loop-place.place c.index_mut.result.now c.in-Some.seat lt c.index_mut.ensures.value (sym c.take.ensures.value ∙ c.in-Some.is)) c.loop-place.invariant.held

pub close_all-requires-clause-own : goal.close_all-requires-clause-own
close_all-requires-clause-own g c =
    let items = c.loop-place.seats.items in
    let lt : c.loop-place.place < length items = (let n : length items ≡ c.loop-place.seats.len = sym c.loop-place.seats.ok.0 in let long : c.loop-place.seats.len ≡ session_count = c.loop-place.invariant.long in let m : c.loop-place.place < session_count = c.loop-place-test.true in omega (arith, n, long, m)) in
    one_own (seats_shown items) c.loop-place.place (seated c.in-Some.seat)
    (shown_at items c.loop-place.place c.index_mut.result.now c.in-Some.seat lt c.index_mut.ensures.value (sym c.take.ensures.value ∙ c.in-Some.is)) c.loop-place.invariant.own

pub loop-place-preserved : goal.loop-place-preserved
loop-place-preserved g c =
    let m = g.W.Wrapper.meaning in
    let items = c.loop-place.seats.items in
    let place = c.loop-place.place in
    let shown = seats_shown items in
    let start = seats_shown c.args.seats.now.items in
    let old = states m c.args.slots.now.items in
    let now = states m c.loop-place.slots.items in
    let v = c.loop-place.invariant in
    let lt : place < length items = (let n : length items ≡ c.loop-place.seats.len = sym c.loop-place.seats.ok.0 in let long : c.loop-place.seats.len ≡ session_count = v.long in let m : place < session_count = c.loop-place-test.true in omega (arith, n, long, m)) in
    let set : seats_shown (slice_set items place c.take.new.self) ≡ shut_at shown place = shown_set items place c.take.new.self c.take.ensures.after in
    record {
      long = v.long;
      closed = next_closed items place c.take.new.self c.take.ensures.after lt v.closed;
      held = elim c.match-take.branch [
        | in-Some w ↦
            let at = shown_at items place c.index_mut.result.now w.in-Some.seat lt c.index_mut.ensures.value (sym c.take.ensures.value ∙ w.in-Some.is) in
            rw w.slots-is (subst (λ (l : List (Option Seated)). AreHeld (all_cursors l) (states m w.close_all.new.slots.items)) (sym set)
            (shut_held c.other_runs_are_left.ensures.held shown place (seated w.in-Some.seat) now (states m w.close_all.new.slots.items) at v.own v.held w.close_all.ensures))
        | in-None w ↦
            let at = shown_none items place c.index_mut.result.now lt c.index_mut.ensures.value (sym c.take.ensures.value ∙ w.in-None.is) in
            rw w.slots-is (subst (λ (l : List (Option Seated)). AreHeld (all_cursors l) now) (sym (set ∙ shut_same shown place at)) v.held)
      ];
      own = subst (λ (l : List (Option Seated)). AreOwn (all_cursors l)) (sym set) (shut_own shown place v.own);
      served = elim c.match-take.branch [
        | in-Some w ↦
            let at = shown_at items place c.index_mut.result.now w.in-Some.seat lt c.index_mut.ensures.value (sym c.take.ensures.value ∙ w.in-Some.is) in
            let new = states m w.close_all.new.slots.items in
            rw w.slots-is (subst (λ (l : List (Option Seated)). ServesRun (held_by (all_cursors start)) (held_by (all_cursors l)) old new) (sym set)
            (c.services_join.ensures.joined (held_by (all_cursors start)) (held_by (all_cursors shown)) (held_by (all_cursors (shut_at shown place))) old now new v.served (shut_served shown place (seated w.in-Some.seat) now new at w.close_all.ensures)))
        | in-None w ↦
            let at = shown_none items place c.index_mut.result.now lt c.index_mut.ensures.value (sym c.take.ensures.value ∙ w.in-None.is) in
            rw w.slots-is (subst (λ (l : List (Option Seated)). ServesRun (held_by (all_cursors start)) (held_by (all_cursors l)) old now) (sym (set ∙ shut_same shown place at)) v.served)
      ];
    }

pub returns-clause-served : goal.returns-clause-served
returns-clause-served g c =
    let m = g.W.Wrapper.meaning in
    let closed : seats_shown c.loop-place.seats.items ≡ replicate session_count None = grind (arith, common_steps) in
    subst (λ (own : Held). ServesRun (held_by (all_cursors (seats_shown c.args.seats.now.items))) own (states m c.args.slots.now.items) (states m c.loop-place.slots.items)) (all_shut (seats_shown c.loop-place.seats.items) session_count closed) c.loop-place.invariant.served
