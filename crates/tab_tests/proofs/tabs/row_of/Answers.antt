use Rattle.std.proofs.Common.{◌≡◌, ◌∙◌, ℕ, ◌==◌, ◌≤◌, ap, map, take, length, Ok, lit<, arith}
use Rattle.std.proofs.lemmas.List.{take_all}
use Rattle.std.specs.List.{slice_split}
use Rattle.std.proofs.lemmas.Iterator.Consumers.{map_from_collect}
use Rattle.std.proofs.lemmas.Iterator.Splits.{YieldsList-from_str_split}
use Rattle.tab_tests.specs.Tabs.{cell_of}
use Rattle.tab_tests.proofs.tabs.row_of.Goals as goal

pub returns : goal.returns
returns c =
    let w : map (λ x. x.now) c.in_ok-fields.fields.items ≡ slice_split (λ b. b == 9) c.args.line.now =
    map_from_collect {E = ℕ} (Ok c.in_ok-fields.fields) c.in_ok-fields.ensures.ran (YieldsList-from_str_split 9 c.args.line.now (lit< tt) c.split.ensures.text c.split.ensures.has_more c.split.ensures.pattern) in
    let xs = c.deref-field-items.result.now in
    let le : length xs ≤ c.loop-field.field-index = omega arith in
    let done : take c.loop-field.field-index xs ≡ c.in_ok-fields.fields.items = take_all c.loop-field.field-index xs le ∙ c.deref-field-items.ensures.value in
    c.loop-field.invariant ∙ ap (λ l. map cell_of (map (λ x. x.now) l)) done ∙ ap (map cell_of) w
