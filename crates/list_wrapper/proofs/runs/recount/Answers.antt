use Rattle.std.proofs.Common.{◌≡◌, ◌≤◌, ◌<◌, ◌+◌, List, length, refl, ap, sym, ◌∙◌, subst, arith, rules, length-set}
use Rattle.list_wrapper.specs.declared.runs.Run.{Run}
use Rattle.list_wrapper.specs.Runs.{run_rows, Counted}
use Rattle.list_wrapper.proofs.RunsOfRows.{run_is, same_rows, before_none, before_more, before_within, before_set, count_more}
use Rattle.std.proofs.lemmas.List.{take_all}
use Rattle.list_wrapper.proofs.runs.recount.Goals as goal

pub loop-at-init : goal.loop-at-init
loop-at-init c = record { within = omega arith; total = sym (before_none c.args.runs.now.items); counted = tt; rows = refl }

pub overflow_add-total : goal.overflow_add-total
overflow_add-total c =
    let runs = c.loop-at.runs.items in
    let at = c.loop-at.at in
    let x = c.index_mut-run.result.now in
    let lt : at < length runs = search rules in
    let many : c.len-total.result ≡ length x.rows.items = search rules in
    let here : length (run_rows runs at) ≡ length x.rows.items = ap length (run_is runs at x lt c.index_mut-run.ensures.value) in
    let next = before_more runs at in
    let within = before_within runs (at + 1) in
    let all = ap length c.loop-at.invariant.rows in
    let total = c.loop-at.invariant.total in
    let few = c.requires in
    omega arith

pub loop-at-preserved : goal.loop-at-preserved
loop-at-preserved c =
    let runs = c.loop-at.runs.items in
    let at = c.loop-at.at in
    let x = c.index_mut-run.result.now in
    let lt : at < length runs = search rules in
    let many : c.len-total.result ≡ length x.rows.items = search rules in
    let r : Run = record { rows = x.rows; end = c.loop-at.total + c.len-total.result } in
    let total = c.loop-at.invariant.total in
    let next = before_set runs at r lt in
    let long = length-set runs at r in
    record {
      within = omega arith;
      total = omega arith;
      counted = count_more runs at r lt c.loop-at.invariant.counted (omega arith);
      rows = same_rows runs at r (sym (run_is runs at x lt c.index_mut-run.ensures.value)) ∙ c.loop-at.invariant.rows;
    }

pub returns-clause-counted : goal.returns-clause-counted
returns-clause-counted c =
    let runs = c.loop-at.runs.items in
    let past : length runs ≤ c.loop-at.at = search rules in
    subst (λ (l : List Run). Counted 0 l) (take_all c.loop-at.at runs past) c.loop-at.invariant.counted
