use Rattle.std.proofs.Common.{◌≡◌, ◌∙◌, sym, ap, subst, map, string_bytes, rules}
use Rattle.std.proofs.lemmas.Result.{err_from_is_err_and}
use Rattle.med_value.specs.Datum.{tuple}
use Rattle.fdw_api.specs.Writes.{rows_after}
use Rattle.fdw_api.specs.declared.interface.Fault.{Fault}
use Rattle.wrapper_parts.specs.Staged.{change_is}
use Rattle.place_wrapper.specs.Forms.{RefusesChanges}
use Rattle.tab_tests.specs.Kept.{no_line, as_held}
use Rattle.tab_tests.specs.Tabs.{text_of}
use Rattle.tab_tests.specs.TabForms.{tab_form, rows_in}
use Rattle.tab_tests.proofs.TabReads.{rewrites, refuses_changes}
use Rattle.tab_tests.proofs.tabs.TabTable.changed.Goals as goal

pub returns-in_err-table-clause-err : goal.returns-in_err-table-clause-err
returns-in_err-table-clause-err c =
    let t = c.args.self.now in
    let cs = map change_is c.args.changes.items in
    let rows = map tuple c.in_ok-rows.rows.items in
    let after : map as_held rows ≡ rows_after no_line (rows_in t) cs = search rules in
    let p = err_from_is_err_and c.from_residual-in_err-table.result c.from_residual-in_err-table.ensures.1 in
    rw (p.1, p.2) (subst (λ (f : Fault). RefusesChanges tab_form t cs f) (sym c.in_err-table.ensures.err.0) (refuses_changes t cs rows after c.in_err-table.ensures.err.1))

pub returns-clause-ok : goal.returns-clause-ok
returns-clause-ok c =
    let t = c.args.self.now in
    let cs = map change_is c.args.changes.items in
    let h = c.in_ok-table.ensures.ok in
    let name : string_bytes c.in_ok-remote.remote ≡ string_bytes t.remote = search rules in
    let after : map as_held (map tuple c.in_ok-rows.rows.items) ≡ rows_after no_line (rows_in t) cs = search rules in
    let text : c.in_ok-image.image.items ≡ text_of (map tuple c.in_ok-rows.rows.items) = search rules in
    rewrites t c.in_ok-table.table cs c.in_ok-image.image.items (ap string_bytes h.0 ∙ name) h.1 (ap (λ rows. map as_held (map tuple rows.items)) h.2 ∙ after)
    (text ∙ ap (λ rows. text_of (map tuple rows.items)) (sym h.2))
