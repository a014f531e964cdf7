use Rattle.std.proofs.Common.{◌∙◌, sym, not, ap, string_bytes, rules, tests}
use Rattle.std.proofs.lemmas.Iterator.{YieldsList-from_slice}
use Rattle.std.proofs.lemmas.Iterator.Search.{any_from_yields_List}
use Rattle.med_value.specs.Datum.{datum}
use Rattle.med_value.specs.declared.value.Value.{Value}
use Rattle.tab_tests.specs.Tabs.{is_mark, is_plain}
use Rattle.tab_tests.proofs.tabs.is_plain.Goals as goal

pub returns-in-Text : goal.returns-in-Text
returns-in-Text c =
    let any = any_from_yields_List is_mark _ _ c.any.result c.any.ensures.ran (YieldsList-from_slice (string_bytes c.in-Text.text) cc) (λ x b q k. search (rules, tests)) in
    ap not any ∙ sym (ap (λ (v : Value). is_plain (datum v)) c.in-Text.is)
