use Rattle.std.proofs.Common.{◌≡◌, map, length, sym, ◌∙◌, rules}
use Rattle.std.proofs.lemmas.Result.{err_from_is_err_and}
use Rattle.std.proofs.lemmas.List.{length-map}
use Rattle.med_value.specs.Datum.{tuple}
use Rattle.fdw_api.specs.Calls.{row_of}
use Rattle.med_write.specs.Form.{form_of, change_of}
use Rattle.med_exec.proofs.BoxWrites.{has_read, stageable, writes, lacks, twice, shows, none_made, not_so, so_it_is}
use Rattle.med_exec.proofs.writing.write_box.Goals as goal

pub returns-in_err-are_distinct-clause-err : goal.returns-in_err-are_distinct-clause-err
returns-in_err-are_distinct-clause-err g c =
    let p = err_from_is_err_and c.from_residual-in_err-are_distinct.result c.from_residual-in_err-are_distinct.ensures.1 in
    let m = g.W.Wrapper.meaning in
    rw p.1 (lacks c.args.write.now.columns.items (form_of c.args.write.now.rows) (map tuple c.args.answer.now) (m c.args.b.now) _ c.args.table.number (map row_of c.in_ok-rows.rows.items) p.0 (has_read c.tests_decide.ensures c.bare_tree_means_the_same.ensures _ _ _ _ _ c.in_ok-rows.ensures.ok) (p.2 ∙ c.in_err-are_distinct.ensures.err))

pub returns-then-not-branch-clause-err : goal.returns-then-not-branch-clause-err
returns-then-not-branch-clause-err g c =
    twice _ _ _ _ _ _ (map row_of c.in_ok-rows.rows.items) c.requires (has_read c.tests_decide.ensures c.bare_tree_means_the_same.ensures _ _ _ _ _ c.in_ok-rows.ensures.ok) (not_so c.in_ok-are_distinct.field-0 c.if-not-branch.true (rw c.as_slice.ensures.value at c.in_ok-are_distinct.ensures.ok))

pub returns-in-Err-clause-err : goal.returns-in-Err-clause-err
returns-in-Err-clause-err g c =
    shows c.rows_out_change_nothing.ensures _ _ _ _ _ _ (map row_of c.in_ok-rows.rows.items) c.in-Err.fault c.told.result (has_read c.tests_decide.ensures c.bare_tree_means_the_same.ensures _ _ _ _ _ c.in_ok-rows.ensures.ok) c.told.ensures c.in-Err.ensures.err

pub make_changes-requires-clause-stageable : goal.make_changes-requires-clause-stageable
make_changes-requires-clause-stageable g c =
    stageable c.rows_out_change_nothing.ensures _ _ _ _ _ _ (map row_of c.in_ok-rows.rows.items) (map change_of c.in-Ok.staged.items) c.requires (has_read c.tests_decide.ensures c.bare_tree_means_the_same.ensures _ _ _ _ _ c.in_ok-rows.ensures.ok) (so_it_is c.in_ok-are_distinct.field-0 c.if-not-branch.false (rw c.as_slice.ensures.value at c.in_ok-are_distinct.ensures.ok)) c.in-Ok.ensures.ok

pub returns-in_err-make_changes-clause-err : goal.returns-in_err-make_changes-clause-err
returns-in_err-make_changes-clause-err g c =
    let p = err_from_is_err_and c.from_residual-in_err-make_changes.result c.from_residual-in_err-make_changes.ensures.1 in
    rw (p.1, p.2) (none_made c.rows_out_change_nothing.ensures _ _ _ _ _ _ _ (map row_of c.in_ok-rows.rows.items) (map change_of c.in-Ok.staged.items) c.in_err-make_changes.field-0.0 c.requires.can (has_read c.tests_decide.ensures c.bare_tree_means_the_same.ensures _ _ _ _ _ c.in_ok-rows.ensures.ok) c.in-Ok.ensures.ok c.in_err-make_changes.ensures.err)

pub returns-clause-ok : goal.returns-clause-ok
returns-clause-ok g c =
    let many : c.len-count.result ≡ length c.in-Ok.staged.items = search rules in
    writes c.rows_out_change_nothing.ensures _ _ _ _ _ _ _ _ (map row_of c.in_ok-rows.rows.items) (map change_of c.in-Ok.staged.items) (has_read c.tests_decide.ensures c.bare_tree_means_the_same.ensures _ _ _ _ _ c.in_ok-rows.ensures.ok) c.in-Ok.ensures.ok (many ∙ sym (length-map c.in-Ok.staged.items change_of)) c.in_ok-make_changes.ensures.ok
