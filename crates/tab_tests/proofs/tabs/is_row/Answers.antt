use Rattle.std.proofs.Common.{◌≡◌, ◌∙◌, sym, true, false, ◌&&◌, length, nat_eq, ap, Bool, rules, tests}
use Rattle.std.proofs.lemmas.Iterator.{YieldsList-from_slice}
use Rattle.std.proofs.lemmas.Iterator.Search.{all_from_yields_List}
use Rattle.std.specs.List.{list_all}
use Rattle.med_value.specs.Datum.{datum}
use Rattle.med_value.specs.declared.value.Value.{Value}
use Rattle.tab_tests.specs.Tabs.{is_plain}
use Rattle.tab_tests.proofs.TabReads.{row_is}
use Rattle.tab_tests.proofs.tabs.is_row.Goals as goal

pub returns-then-len-width : goal.returns-then-len-width
returns-then-len-width c =
    let cells = c.args.row.now.cells.items in
    let all = all_from_yields_List (λ (v : Value). is_plain (datum v)) _ _ c.all.result c.all.ensures.ran (YieldsList-from_slice cells cc) (λ x b q k. search (rules, tests)) in
    let wide : nat_eq (length cells) c.args.width ≡ true = search rules in
    all ∙ sym (row_is c.args.width cells ∙ ap (λ (b : Bool). b && list_all (λ (v : Value). is_plain (datum v)) cells) wide)

pub returns-else-len-width : goal.returns-else-len-width
returns-else-len-width c =
    let cells = c.args.row.now.cells.items in
    let wide : nat_eq (length cells) c.args.width ≡ false = search rules in
    let short : nat_eq c.len.result c.args.width ≡ false = search rules in
    short ∙ sym (row_is c.args.width cells ∙ ap (λ (b : Bool). b && list_all (λ (v : Value). is_plain (datum v)) cells) wide)
