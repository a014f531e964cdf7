use Rattle.std.proofs.Common.{◌≡◌, ◌∙◌, sym, ap, subst, true, length, map, string_bytes, rules, ℕ}
use Rattle.std.specs.List.{list_all}
use Rattle.std.specs.Str.{is_utf8}
use Rattle.std.proofs.lemmas.Str.{IsUtf8-from_is_utf8, is_utf8-from_IsUtf8}
use Rattle.med_value.specs.Datum.{tuple}
use Rattle.fdw_api.specs.Kinds.{column_of, option_form}
use Rattle.fdw_api.specs.declared.interface.Fault.{Fault}
use Rattle.place_wrapper.specs.Forms.{RefusesContent}
use Rattle.tab_tests.specs.Tabs.{is_row, texts, rows_of}
use Rattle.tab_tests.specs.TabForms.{tab_form}
use Rattle.tab_tests.proofs.TabReads.{reads_as, refuses_bytes, refuses_rows, kinds_are_texts, ok_gives, err_gives, not_true, map_length}
use Rattle.tab_tests.proofs.tabs.TabTablePlacedTable.read.Goals as goal

pub returns-in_default-clause-err : goal.returns-in_default-clause-err
returns-in_default-clause-err c =
    refuses_bytes (map column_of c.args.columns.now) (map option_form c.args._options.now) c.args.content.items
    (ap is_utf8 (sym c.deref.ensures.value) ∙ not_true (is_utf8 c.deref.result.now) (λ e. c.in_default.ensures.cases.0 (IsUtf8-from_is_utf8 _ e)))

pub returns-clause-ok : goal.returns-clause-ok
returns-clause-ok c =
    let columns = map column_of c.args.columns.now in
    let settings = map option_form c.args._options.now in
    let name : string_bytes c.in_ok-remote.remote ≡ c.args.remote.now = search rules in
    let wide : length c.args.columns.now ≡ length columns = map_length column_of c.args.columns.now in
    let found : map tuple c.in_ok-rows.rows.items ≡ rows_of c.args.content.items = c.in_ok-rows.ensures ∙ ap rows_of (c.in-Ok.ensures.cases.0 ∙ c.deref.ensures.value) in
    let text : is_utf8 c.args.content.items ≡ true = ap is_utf8 (sym c.deref.ensures.value) ∙ is_utf8-from_IsUtf8 _ c.in-Ok.ensures.cases.1 in
    ok_gives c.new_table.result _ _
    (λ t h. reads_as c.args.remote.now columns settings c.args.content.items t (ap string_bytes h.0 ∙ name)
    (ap texts (h.1 ∙ wide) ∙ kinds_are_texts columns settings c.requires.no_objection) text (ap (λ rows. map tuple rows.items) h.2 ∙ found)) c.new_table.ensures.ok

pub returns-clause-err : goal.returns-clause-err
returns-clause-err c =
    let columns = map column_of c.args.columns.now in
    let settings = map option_form c.args._options.now in
    let wide : length c.args.columns.now ≡ length columns = map_length column_of c.args.columns.now in
    let found : map tuple c.in_ok-rows.rows.items ≡ rows_of c.args.content.items = c.in_ok-rows.ensures ∙ ap rows_of (c.in-Ok.ensures.cases.0 ∙ c.deref.ensures.value) in
    err_gives c.new_table.result _ _
    (λ fault h. subst (λ (f : Fault). RefusesContent tab_form columns settings c.args.content.items f) (sym h.0)
    (refuses_rows columns settings c.args.content.items (map tuple c.in_ok-rows.rows.items) (kinds_are_texts columns settings c.requires.no_objection) found
    (ap (λ (n : ℕ). list_all (is_row (texts n)) (map tuple c.in_ok-rows.rows.items)) (sym wide) ∙ h.1))) c.new_table.ensures.err
