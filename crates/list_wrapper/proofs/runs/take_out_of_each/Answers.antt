use Rattle.std.proofs.Common.{◌≡◌, ◌≤◌, ◌<◌, ◌+◌, ◌++◌, ℕ, List, length, drop, take, set, ap, ◌∙◌, arith, rules, length-set}
use Rattle.list_wrapper.specs.declared.runs.Run.{Run}
use Rattle.list_wrapper.specs.Runs.{rows_in}
use Rattle.list_wrapper.specs.Stay.{stay}
use Rattle.list_wrapper.proofs.RunsOfRows.{stay_next, all_stay}
use Rattle.std.proofs.Common.{Bool}
use Rattle.list_wrapper.proofs.runs.take_out_of_each.Goals as goal

pub loop-at-preserved : goal.loop-at-preserved
loop-at-preserved c =
    let runs = c.loop-at.runs.items in
    let at = c.loop-at.at in
    let x = c.index_mut-run.result.now in
    let lt : at < length runs = search rules in
    let many : c.len-count.result ≡ length x.rows.items = search rules in
    let s : Run = record { rows = c.take_out.new.rows; end = x.end } in
    let marks : c.marks_from-marks.result.now ≡ drop (length x.rows.items) c.loop-at.marks.now =
    c.marks_from-marks.ensures ∙ ap (λ (n : ℕ). drop n c.loop-at.marks.now) many in
    let long = length-set runs at s in
    record {
      within = omega arith;
      same = ap (λ (l : List Bool). rows_in (take (at + 1) (set runs at s)) ++ stay (rows_in (drop (at + 1) (set runs at s))) l) marks
          ∙ stay_next runs at x s c.loop-at.marks.now _ lt c.index_mut-run.ensures.value c.take_out.ensures c.loop-at.invariant.same;
    }

pub returns : goal.returns
returns c =
    let past : length c.loop-at.runs.items ≤ c.loop-at.at = search rules in
    all_stay c.loop-at.runs.items c.loop-at.at c.loop-at.marks.now _ past c.loop-at.invariant.same
