use Rattle.std.proofs.Common.{◌≡◌, ◌<◌, length, slice_get, List, map, string_bytes, ap, subst, arith, ◌∙◌}
use Rattle.fdw_api.specs.declared.interface.Fault.{Fault}
use Rattle.med_exec.specs.Prelude.{ServesRun, Breaks, wants_memory, box_breaks, none_held, states}
use Rattle.med_exec.specs.Rests.{held}
use Rattle.med_exec.specs.declared.running.Run.{Run}
use Rattle.std.proofs.lemmas.Grind.{common_steps}
use Rattle.med_world.specs.Prelude.{later, having_asked, Opened, opened, opened_named, seated}
use Rattle.med_world.specs.Fetching.{GivesNone, no_memory, box_fails, cause_of}
use Rattle.med_world.proofs.Pulled.{pulls_ended}
use Rattle.med_syntax.specs.CursorView.{count_tree}
use Rattle.med_world.specs.declared.cursors.OpenCursor.{OpenCursor}
use Rattle.med_session.specs.Cursors.{having}
use Rattle.med_session.proofs.CursorLists.{same_at, place_within, named_there, runs_there, gone_there}
use Rattle.med_session.proofs.cursors.fetch_rows.Goals as goal

pub returns-in-Ok-fetch-clause-ok : goal.returns-in-Ok-fetch-clause-ok
returns-in-Ok-fetch-clause-ok g c =
    let cursors = c.args.seat.now.cursors.items in
    let at = c.index_mut.result.now in
    let lt : c.in-Some.place < length cursors = place_within c.args.name.now cursors c.in-Some.place (rw c.deref.ensures.value at c.in-Some.ensures.place) in
    let there : slice_get (map opened cursors) c.in-Some.place ≡ opened_named c.args.name.now (map opened cursors) = rw c.deref.ensures.value at c.in-Some.ensures.there in
    record {
      at = opened at;
      there = named_there c.args.name.now cursors c.in-Some.place at lt c.index_mut.ensures.value there;
      named = c.in-Ok.ensures ∙ ap (λ (xs : List _). map string_bytes xs) c.deref-2.ensures.value ∙ ap (λ (o : OpenCursor). map string_bytes o.names.items) (same_at cursors c.in-Some.place c.index.result.now at lt c.index.ensures c.index_mut.ensures.value);
      run = c.fetch.new.run;
      count = c.fetch.new.count.times;
      gives = c.in-Ok-fetch.ensures.ok;
      pulls = c.fetch.ensures.pulls;
      is = ap (λ (cs : List Opened). having (having_asked (seated c.args.seat.now) c.fetch.new.count.times) cs) (runs_there c.args.name.now cursors c.in-Some.place at c.fetch.new.run c.requires.sound.apart lt c.index_mut.ensures.value there);
    }

breaks_none : (fault : Fault) (old new : List _) → Breaks fault old new → GivesNone (cause_of fault) old new
breaks_none fault old new (wants_memory w) = no_memory (ap cause_of w)
breaks_none fault old new (box_breaks w shows) = box_fails (ap cause_of w) shows

pub returns-in-Err-clause-err : goal.returns-in-Err-clause-err
returns-in-Err-clause-err g c =
    let cursors = c.args.seat.now.cursors.items in
    let at = c.index_mut.result.now in
    let old = states g.W.Wrapper.meaning c.args.slots.now.items in
    let mid = states g.W.Wrapper.meaning c.fetch.new.slots.items in
    let new = states g.W.Wrapper.meaning c.close_cursor.new.slots.items in
    let lt : c.in-Some.place < length cursors = place_within c.args.name.now cursors c.in-Some.place (rw c.deref.ensures.value at c.in-Some.ensures.place) in
    let there : slice_get (map opened cursors) c.in-Some.place ≡ opened_named c.args.name.now (map opened cursors) = rw c.deref.ensures.value at c.in-Some.ensures.there in
    let same : c.remove.result.run ≡ c.fetch.new.run = grind (arith, common_steps) in
    record {
      at = opened at;
      there = named_there c.args.name.now cursors c.in-Some.place at lt c.index_mut.ensures.value there;
      count = c.fetch.new.count.times;
      risen = c.in-Err.ensures.asked;
      gives = breaks_none c.in-Err.unfetched.fault old new (c.services_join.ensures.broken none_held none_held (held c.remove.result.run) none_held old old mid new c.in-Err.unfetched.fault (c.services_join.ensures.same none_held old) c.in-Err.ensures.breaks c.close_cursor.ensures.boxes);
      ends = later c.fetch.new.run mid c.fetch.ensures.boxes (subst (λ (r : Run). ServesRun (held r) none_held mid new) same c.close_cursor.ensures.boxes);
      pulls = pulls_ended (count_tree c.args.asked) at.run c.fetch.new.run old mid new c.args.seat.now.asked.times c.fetch.new.count.times c.fetch.ensures.pulls c.close_cursor.ensures.pulls;
      is = ap (λ (cs : List Opened). having (having_asked (seated c.args.seat.now) c.fetch.new.count.times) cs) (ap (map opened) c.remove.ensures.items ∙ gone_there c.args.name.now cursors c.in-Some.place at _ c.requires.sound.apart lt c.index_mut.ensures.value there);
    }
