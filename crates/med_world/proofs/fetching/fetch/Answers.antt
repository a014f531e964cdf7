use Rattle.std.proofs.Common.{◌≡◌, ◌∙◌, ◌+◌, ℕ, List, length-append, true, false, [], refl, ◌∷◌, ◌++◌, Some, None, length, ap, sym, subst, arith}
use Rattle.std.proofs.lemmas.Grind.{common_steps}
use Rattle.med_value.specs.Datum.{tuple}
use Rattle.med_value.specs.declared.value.Row.{Row}
use Rattle.med_syntax.specs.CursorView.{count_tree}
use Rattle.med_exec.specs.Prelude.{states, GivesNext, EndsAt, levels_in}
use Rattle.med_exec.specs.Rests.{Rests, held}
use Rattle.scan_loops.specs.Prelude.{none_in, HonestFor}
use Rattle.scan_loops.specs.declared.levels.LoopLevel.{LoopLevel}
use Rattle.med_world.specs.Fetching.{has_enough, IsWithin, PullsFor, counted as counted_to}
use Rattle.med_exec.proofs.Counted.{begins_none}
use Rattle.med_world.proofs.KeptCursors.{tables_itself, tables_on}
use Rattle.med_world.proofs.Counts.{begins_on, none_called, one_called}
use Rattle.med_world.proofs.Asking.{counts_on, risen_on, some_given}
use Rattle.med_world.proofs.Rows.{one_more, all_given, all_then, within_more, none_given, within_none, enough_given, all_there, gives_none}
use Rattle.med_world.proofs.fetching.fetch.Goals as goal

pub returns-in-Err-clause-breaks : goal.returns-in-Err-clause-breaks
returns-in-Err-clause-breaks g c =
    let m = g.W.Wrapper.meaning in
    let own = held c.next.new.self in
    let new = states m c.next.new.slots.items in
    c.services_join.ensures.broken (held c.args.run.now) (held c.loop-alloc.run) own own (states m c.args.slots.now.items) (states m c.loop-alloc.slots.items) new new c.in-Err.fault c.loop-alloc.invariant.boxes c.in-Err.ensures.err (c.services_join.ensures.same own new)

pub returns-in-Err-clause-err : goal.returns-in-Err-clause-err
returns-in-Err-clause-err g c = gives_none _ _ _ (returns-in-Err-clause-breaks g c)

pub returns-in-Ok-None-clause-ok : goal.returns-in-Ok-None-clause-ok
returns-in-Ok-None-clause-ok g c =
    let m = g.W.Wrapper.meaning in
    let old = states m c.args.slots.now.items in
    let now = states m c.loop-alloc.slots.items in
    let next = states m c.next.new.slots.items in
    let still : HonestFor (levels_in c.args.run.now) old → HonestFor (levels_in c.loop-alloc.run) now = λ honest. subst (λ (ls : List LoopLevel). HonestFor ls now) (sym c.loop-alloc.invariant.pulls.same)
    (λ slot has. c.services_join.ensures.honest (held c.args.run.now) (held c.loop-alloc.run) old now c.loop-alloc.invariant.boxes slot (honest slot has)) in
    let gives : HonestFor (levels_in c.loop-alloc.run) now → GivesNext (Rests c.loop-alloc.run now) None (Rests c.next.new.self next) = rw c.in-Ok-None.field-0-is at c.in-Ok-None.ensures.gives in
    let over : HonestFor (levels_in c.loop-alloc.run) now → EndsAt None (Rests c.next.new.self next) = rw c.in-Ok-None.field-0-is at c.in-Ok-None.ensures.over in
    let counted : c.len.result ≡ length c.loop-alloc.rows.items = c.len.ensures ∙ c.loop-alloc.rows.ok.0 in
    let more : has_enough (count_tree c.args.asked) (length c.loop-alloc.rows.items) ≡ false = ap (has_enough (count_tree c.args.asked)) (sym counted) ∙ sym c.is_enough.ensures ∙ c.loop-alloc-test.true in
    record {
      served = c.services_join.ensures.joined (held c.args.run.now) (held c.loop-alloc.run) (held c.next.new.self) old now next c.loop-alloc.invariant.boxes c.next.ensures.boxes;
      same = c.next.ensures.same ∙ c.loop-alloc.invariant.same;
      tables = tables_on c.loop-alloc.run (held c.args.run.now) old now next c.loop-alloc.invariant.same c.loop-alloc.invariant.running c.loop-alloc.invariant.tables c.in-Ok-None.ensures.tables;
      running = c.in-Ok-None.ensures.running;
      some = λ honest. c.runs_have_rests.ensures c.next.new.self next;
      gives = λ honest. all_then c.args.run.now c.loop-alloc.run c.next.new.self old now next c.loop-alloc.rows.items (c.loop-alloc.invariant.given honest)
          (gives (still honest))
          (over (still honest));
      enough = λ honest. all_there (count_tree c.args.asked) c.loop-alloc.rows.items (Rests c.args.run.now old) more
          (all_given c.args.run.now c.loop-alloc.run c.next.new.self old now next c.loop-alloc.rows.items (c.loop-alloc.invariant.given honest)
          (gives (still honest)));
    }

pub loop-alloc-preserved : goal.loop-alloc-preserved
loop-alloc-preserved g c =
    let m = g.W.Wrapper.meaning in
    let old = states m c.args.slots.now.items in
    let now = states m c.loop-alloc.slots.items in
    let next = states m c.next.new.slots.items in
    let pushed : c.push.new.self.items ≡ c.loop-alloc.rows.items ++ (c.in-Ok-Some.row ∷ []) = grind (arith, common_steps) in
    let still : HonestFor (levels_in c.args.run.now) old → HonestFor (levels_in c.loop-alloc.run) now = λ honest. subst (λ (ls : List LoopLevel). HonestFor ls now) (sym c.loop-alloc.invariant.pulls.same)
    (λ slot has. c.services_join.ensures.honest (held c.args.run.now) (held c.loop-alloc.run) old now c.loop-alloc.invariant.boxes slot (honest slot has)) in
    let gives : HonestFor (levels_in c.loop-alloc.run) now → GivesNext (Rests c.loop-alloc.run now) (Some (tuple c.in-Ok-Some.row)) (Rests c.next.new.self next) = rw c.in-Ok-Some.field-0-is at c.in-Ok-Some.ensures.gives in
    let before : c.len.result ≡ length c.loop-alloc.rows.items = c.len.ensures ∙ c.loop-alloc.rows.ok.0 in
    let more : has_enough (count_tree c.args.asked) (length c.loop-alloc.rows.items) ≡ false = ap (has_enough (count_tree c.args.asked)) (sym before) ∙ sym c.is_enough.ensures ∙ c.loop-alloc-test.true in
    let counted : length c.loop-alloc.rows.items + 1 ≡ length c.push.new.self.items = omega (arith, sym (ap (λ (rs : List Row). length rs) pushed ∙ length-append c.loop-alloc.rows.items (c.in-Ok-Some.row ∷ []))) in
    record {
      boxes = c.services_join.ensures.joined (held c.args.run.now) (held c.loop-alloc.run) (held c.next.new.self) (states m c.args.slots.now.items) (states m c.loop-alloc.slots.items) (states m c.next.new.slots.items) c.loop-alloc.invariant.boxes c.next.ensures.boxes;
      begins = begins_on (held c.args.run.now) (held c.loop-alloc.run) none_in old now next c.loop-alloc.invariant.boxes c.loop-alloc.invariant.begins c.next.ensures.begins;
      pulls = subst (λ (n : ℕ). PullsFor n c.args.run.now old c.next.new.self next) counted
          (one_called c.args.run.now c.loop-alloc.run c.next.new.self old now next (length c.loop-alloc.rows.items) c.loop-alloc.invariant.pulls c.next.ensures.pulls);
      same = c.next.ensures.same ∙ c.loop-alloc.invariant.same;
      tables = tables_on c.loop-alloc.run (held c.args.run.now) old now next c.loop-alloc.invariant.same c.loop-alloc.invariant.running c.loop-alloc.invariant.tables c.in-Ok-Some.ensures.tables;
      running = c.in-Ok-Some.ensures.running;
      given = λ honest.
          one_more c.args.run.now c.loop-alloc.run c.next.new.self old now next c.loop-alloc.rows.items c.push.new.self.items c.in-Ok-Some.row pushed (c.loop-alloc.invariant.given honest)
          (gives (still honest));
      most = subst (IsWithin (count_tree c.args.asked)) counted (within_more (count_tree c.args.asked) (length c.loop-alloc.rows.items) more);
      counts = subst (λ (n : ℕ). c.count.new.self.times ≡ counted_to c.args.count.now.times n) counted
          (counts_on c.args.count.now.times (length c.loop-alloc.rows.items) c.loop-alloc.count.times c.count.new.self.times c.loop-alloc.invariant.counts c.count.ensures);
    }

pub returns-in-Err-clause-begins : goal.returns-in-Err-clause-begins
returns-in-Err-clause-begins g c =
    let m = g.W.Wrapper.meaning in
    begins_on (held c.args.run.now) (held c.loop-alloc.run) none_in (states m c.args.slots.now.items) (states m c.loop-alloc.slots.items) (states m c.next.new.slots.items) c.loop-alloc.invariant.boxes c.loop-alloc.invariant.begins c.next.ensures.begins

pub returns-in-Ok-None-clause-begins : goal.returns-in-Ok-None-clause-begins
returns-in-Ok-None-clause-begins g c =
    let m = g.W.Wrapper.meaning in
    begins_on (held c.args.run.now) (held c.loop-alloc.run) none_in (states m c.args.slots.now.items) (states m c.loop-alloc.slots.items) (states m c.next.new.slots.items) c.loop-alloc.invariant.boxes c.loop-alloc.invariant.begins c.next.ensures.begins

pub returns-then-is_err-clause-begins : goal.returns-then-is_err-clause-begins
returns-then-is_err-clause-begins g c =
    let m = g.W.Wrapper.meaning in
    begins_on (held c.args.run.now) (held c.loop-alloc.run) none_in (states m c.args.slots.now.items) (states m c.loop-alloc.slots.items) (states m c.next.new.slots.items) c.loop-alloc.invariant.boxes c.loop-alloc.invariant.begins c.next.ensures.begins

pub loop-alloc-init : goal.loop-alloc-init
loop-alloc-init g c =
    let m = g.W.Wrapper.meaning in
    let old = states m c.args.slots.now.items in
    record {
      boxes = c.services_join.ensures.same (held c.args.run.now) old;
      begins = begins_none old old refl;
      pulls = subst (λ (rs : List Row). PullsFor (length rs) c.args.run.now old c.args.run.now old) (sym c.new-rows.ensures.items) (none_called c.args.run.now old);
      same = refl;
      tables = tables_itself (held c.args.run.now) old;
      running = c.requires;
      given = λ honest. none_given c.args.run.now old c.new-rows.result.items c.new-rows.ensures.items;
      most = within_none (count_tree c.args.asked) c.new-rows.result.items c.new-rows.ensures.items;
      counts = subst (λ (rs : List Row). c.args.count.now.times ≡ counted_to c.args.count.now.times (length rs)) (sym c.new-rows.ensures.items) refl;
    }

pub returns-clause-ok : goal.returns-clause-ok
returns-clause-ok g c =
    let m = g.W.Wrapper.meaning in
    let old = states m c.args.slots.now.items in
    let now = states m c.loop-alloc.slots.items in
    let v = c.loop-alloc.invariant in
    let counted : c.len.result ≡ length c.loop-alloc.rows.items = c.len.ensures ∙ c.loop-alloc.rows.ok.0 in
    let all : has_enough (count_tree c.args.asked) (length c.loop-alloc.rows.items) ≡ true = ap (has_enough (count_tree c.args.asked)) (sym counted) ∙ sym c.is_enough.ensures ∙ c.loop-alloc-test.false in
    record {
      served = v.boxes;
      same = v.same;
      tables = v.tables;
      running = v.running;
      some = λ honest. c.runs_have_rests.ensures c.loop-alloc.run now;
      gives = λ honest left r. v.given honest left r;
      enough = λ honest. enough_given (count_tree c.args.asked) c.loop-alloc.rows.items (Rests c.args.run.now old) v.most all;
    }

pub returns-in-Err-clause-pulls : goal.returns-in-Err-clause-pulls
returns-in-Err-clause-pulls g c =
    let m = g.W.Wrapper.meaning in
    let counted : c.len.result ≡ length c.loop-alloc.rows.items = c.len.ensures ∙ c.loop-alloc.rows.ok.0 in
    let more : has_enough (count_tree c.args.asked) (length c.loop-alloc.rows.items) ≡ false = ap (has_enough (count_tree c.args.asked)) (sym counted) ∙ sym c.is_enough.ensures ∙ c.loop-alloc-test.true in
    record {
      times = length c.loop-alloc.rows.items + 1;
      within = within_more (count_tree c.args.asked) (length c.loop-alloc.rows.items) more;
      some = λ _. omega arith;
      pulls = one_called c.args.run.now c.loop-alloc.run c.next.new.self (states m c.args.slots.now.items) (states m c.loop-alloc.slots.items) (states m c.next.new.slots.items) (length c.loop-alloc.rows.items) c.loop-alloc.invariant.pulls c.next.ensures.pulls;
      counts = counts_on c.args.count.now.times (length c.loop-alloc.rows.items) c.loop-alloc.count.times c.count.new.self.times c.loop-alloc.invariant.counts c.count.ensures;
    }

pub returns-in-Ok-None-clause-pulls : goal.returns-in-Ok-None-clause-pulls
returns-in-Ok-None-clause-pulls g c =
    let m = g.W.Wrapper.meaning in
    let counted : c.len.result ≡ length c.loop-alloc.rows.items = c.len.ensures ∙ c.loop-alloc.rows.ok.0 in
    let more : has_enough (count_tree c.args.asked) (length c.loop-alloc.rows.items) ≡ false = ap (has_enough (count_tree c.args.asked)) (sym counted) ∙ sym c.is_enough.ensures ∙ c.loop-alloc-test.true in
    record {
      times = length c.loop-alloc.rows.items + 1;
      within = within_more (count_tree c.args.asked) (length c.loop-alloc.rows.items) more;
      some = λ _. omega arith;
      pulls = one_called c.args.run.now c.loop-alloc.run c.next.new.self (states m c.args.slots.now.items) (states m c.loop-alloc.slots.items) (states m c.next.new.slots.items) (length c.loop-alloc.rows.items) c.loop-alloc.invariant.pulls c.next.ensures.pulls;
      counts = counts_on c.args.count.now.times (length c.loop-alloc.rows.items) c.loop-alloc.count.times c.count.new.self.times c.loop-alloc.invariant.counts c.count.ensures;
    }

pub returns-then-is_err-clause-pulls : goal.returns-then-is_err-clause-pulls
returns-then-is_err-clause-pulls g c =
    let m = g.W.Wrapper.meaning in
    let counted : c.len.result ≡ length c.loop-alloc.rows.items = c.len.ensures ∙ c.loop-alloc.rows.ok.0 in
    let more : has_enough (count_tree c.args.asked) (length c.loop-alloc.rows.items) ≡ false = ap (has_enough (count_tree c.args.asked)) (sym counted) ∙ sym c.is_enough.ensures ∙ c.loop-alloc-test.true in
    record {
      times = length c.loop-alloc.rows.items + 1;
      within = within_more (count_tree c.args.asked) (length c.loop-alloc.rows.items) more;
      some = λ _. omega arith;
      pulls = one_called c.args.run.now c.loop-alloc.run c.next.new.self (states m c.args.slots.now.items) (states m c.loop-alloc.slots.items) (states m c.next.new.slots.items) (length c.loop-alloc.rows.items) c.loop-alloc.invariant.pulls c.next.ensures.pulls;
      counts = counts_on c.args.count.now.times (length c.loop-alloc.rows.items) c.loop-alloc.count.times c.count.new.self.times c.loop-alloc.invariant.counts c.count.ensures;
    }

pub returns-clause-pulls : goal.returns-clause-pulls
returns-clause-pulls g c =
    let counted : c.len.result ≡ length c.loop-alloc.rows.items = c.len.ensures ∙ c.loop-alloc.rows.ok.0 in
    let all : has_enough (count_tree c.args.asked) (length c.loop-alloc.rows.items) ≡ true = ap (has_enough (count_tree c.args.asked)) (sym counted) ∙ sym c.is_enough.ensures ∙ c.loop-alloc-test.false in
    record {
      times = length c.loop-alloc.rows.items;
      within = c.loop-alloc.invariant.most;
      some = λ more. some_given (count_tree c.args.asked) (length c.loop-alloc.rows.items) more all;
      pulls = c.loop-alloc.invariant.pulls;
      counts = c.loop-alloc.invariant.counts;
    }

pub returns-in-Err-clause-asked : goal.returns-in-Err-clause-asked
returns-in-Err-clause-asked g c = risen_on c.args.count.now.times (length c.loop-alloc.rows.items) c.loop-alloc.count.times c.count.new.self.times c.loop-alloc.invariant.counts c.count.ensures

pub returns-then-is_err-clause-asked : goal.returns-then-is_err-clause-asked
returns-then-is_err-clause-asked g c = risen_on c.args.count.now.times (length c.loop-alloc.rows.items) c.loop-alloc.count.times c.count.new.self.times c.loop-alloc.invariant.counts c.count.ensures
