use Rattle.std.proofs.Common.{◌≡◌, ◌∙◌, ℕ, ◌≤◌, ap, map, take, length, Ok, arith}
use Rattle.std.proofs.lemmas.List.{take_all}
use Rattle.std.specs.Str.Lines.{lines}
use Rattle.std.proofs.lemmas.Iterator.Consumers.{map_from_collect}
use Rattle.std.proofs.lemmas.Iterator.Splits.{YieldsList-from_lines}
use Rattle.tab_tests.specs.Tabs.{line_cells}
use Rattle.tab_tests.proofs.tabs.rows_of.Goals as goal

pub returns : goal.returns
returns c =
    let w : map (λ x. x.now) c.in_ok-lines.lines.items ≡ lines c.args.text.now =
    map_from_collect {E = ℕ} (Ok c.in_ok-lines.lines) c.in_ok-lines.ensures.ran (YieldsList-from_lines c.args.text.now c.lines.ensures.rest) in
    let xs = c.deref-line-items.result.now in
    let le : length xs ≤ c.loop-line.line-index = omega arith in
    let done : take c.loop-line.line-index xs ≡ c.in_ok-lines.lines.items = take_all c.loop-line.line-index xs le ∙ c.deref-line-items.ensures.value in
    c.loop-line.invariant ∙ ap (λ l. map line_cells (map (λ x. x.now) l)) done ∙ ap (map line_cells) w
