use Rattle.std.proofs.Common.{◌≡◌, ◌+◌, List, length, get_or, set, ap, sym, ◌∙◌, subst, arith, rules}
use Rattle.list_wrapper.specs.declared.runs.Run.{Run}
use Rattle.list_wrapper.specs.Runs.{rows_in, run_rows}
use Rattle.list_wrapper.proofs.RunsOfRows.{run_is, cut_rows, cut_first, same_rows}
use Rattle.std.specs.List.{insert}
use Rattle.list_wrapper.proofs.runs.cut.Goals as goal

pub cut_off-requires : goal.cut_off-requires
cut_off-requires c =
    let runs = c.args.runs.now.items in
    let at = c.args.at in
    let x = c.index_mut-run.result.now in
    let is : x ≡ get_or runs at x = subst (λ (l : List Run). x ≡ get_or l at x) c.reserve.ensures.items c.index_mut-run.ensures.value in
    let here : length (run_rows runs at) ≡ length x.rows.items = ap length (run_is runs at x c.requires.there is) in
    let long = c.requires.long in
    omega arith

pub returns-in_err-rows-clause-rows : goal.returns-in_err-rows-clause-rows
returns-in_err-rows-clause-rows c =
    let runs = c.args.runs.now.items in
    let at = c.args.at in
    let x = c.index_mut-run.result.now in
    let is : x ≡ get_or runs at x = subst (λ (l : List Run). x ≡ get_or l at x) c.reserve.ensures.items c.index_mut-run.ensures.value in
    let r : Run = record { rows = c.cut_off.new.rows; end = x.end } in
    ap (λ (l : List Run). rows_in (set l at r)) c.reserve.ensures.items
    ∙ same_rows runs at r (c.in_err-rows.ensures.same ∙ sym (run_is runs at x c.requires.there is))

pub returns-clause-rows : goal.returns-clause-rows
returns-clause-rows c =
    let runs = c.args.runs.now.items in
    let at = c.args.at in
    let x = c.index_mut-run.result.now in
    let is : x ≡ get_or runs at x = subst (λ (l : List Run). x ≡ get_or l at x) c.reserve.ensures.items c.index_mut-run.ensures.value in
    let r : Run = record { rows = c.cut_off.new.rows; end = x.end } in
    let s : Run = record { rows = c.in_ok-rows.rows; end = 0 } in
    let new : c.insert.new.self.items ≡ insert (set c.reserve.new.self.items at r) (at + 1) s = search rules in
    cut_rows runs c.insert.new.self.items at x r s c.requires.there is c.in_ok-rows.ensures.parts
    (new ∙ ap (λ (l : List Run). insert (set l at r) (at + 1) s) c.reserve.ensures.items)

pub returns-clause-shorter : goal.returns-clause-shorter
returns-clause-shorter c =
    let runs = c.args.runs.now.items in
    let at = c.args.at in
    let x = c.index_mut-run.result.now in
    let is : x ≡ get_or runs at x = subst (λ (l : List Run). x ≡ get_or l at x) c.reserve.ensures.items c.index_mut-run.ensures.value in
    let r : Run = record { rows = c.cut_off.new.rows; end = x.end } in
    let s : Run = record { rows = c.in_ok-rows.rows; end = 0 } in
    let new : c.insert.new.self.items ≡ insert (set c.reserve.new.self.items at r) (at + 1) s = search rules in
    let first = ap length (cut_first runs c.insert.new.self.items at r s c.requires.there (new ∙ ap (λ (l : List Run). insert (set l at r) (at + 1) s) c.reserve.ensures.items)) in
    let here : length (run_rows runs at) ≡ length x.rows.items = ap length (run_is runs at x c.requires.there is) in
    let less = c.in_ok-rows.ensures.shorter in
    omega arith
