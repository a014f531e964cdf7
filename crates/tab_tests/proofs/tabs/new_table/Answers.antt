use Rattle.std.proofs.Common.{◌≡◌, ◌∙◌, sym, refl, true, false, rules, tests}
use Rattle.std.proofs.lemmas.Iterator.{YieldsList-from_slice}
use Rattle.std.proofs.lemmas.Iterator.Search.{all_from_yields_List}
use Rattle.std.specs.List.{list_all}
use Rattle.med_value.specs.Datum.{tuple}
use Rattle.med_value.specs.declared.value.Row.{Row}
use Rattle.tab_tests.specs.Tabs.{is_row, texts}
use Rattle.tab_tests.proofs.TabReads.{all_map}
use Rattle.tab_tests.proofs.tabs.new_table.Goals as goal

pub returns-then-not-all-clause-err : goal.returns-then-not-all-clause-err
returns-then-not-all-clause-err c =
    let rows = c.args.rows.items in
    let all = all_from_yields_List (λ (r : Row). is_row (texts c.args.width) (tuple r)) _ _ c.all.result c.all.ensures.ran (YieldsList-from_slice rows cc) (λ x b q k. search (rules, tests)) in
    let none : list_all (λ (r : Row). is_row (texts c.args.width) (tuple r)) rows ≡ false = search rules in
    (refl, sym (all_map (is_row (texts c.args.width)) tuple rows) ∙ none)

pub invariant_of-result : goal.invariant_of-result
invariant_of-result c =
    let rows = c.args.rows.items in
    let all = all_from_yields_List (λ (r : Row). is_row (texts c.args.width) (tuple r)) _ _ c.all.result c.all.ensures.ran (YieldsList-from_slice rows cc) (λ x b q k. search (rules, tests)) in
    let each : list_all (λ (r : Row). is_row (texts c.args.width) (tuple r)) rows ≡ true = search rules in
    record { plain = sym (all_map (is_row (texts c.args.width)) tuple rows) ∙ each }
