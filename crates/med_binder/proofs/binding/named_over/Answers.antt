use Rattle.std.proofs.Common.{◌≡◌, List, map, refl, sym, subst}
use Rattle.std.proofs.lemmas.Result.{err_from_is_err_and}
use Rattle.med_syntax.specs.Prelude.{StatementTree, select_tree}
use Rattle.bind_names.specs.Prelude.{select_name_causes, seen_entry, TellsCause, table_shape, query_entries}
use Rattle.bind_names.specs.declared.table.TableView.{TableView}
use Rattle.med_catalog.specs.View.{objects}
use Rattle.med_binder.specs.Looking.{IsLookedUp}
use Rattle.med_binder.specs.Places.{attached}
use Rattle.med_binder.specs.Looked.{query_in, AreEntriesAt, IsNameTold}
use Rattle.med_binder.proofs.OverCatalog.{rights_told, entries_told, names_told, known_there, named_is}
use Rattle.med_binder.proofs.binding.named_over.Goals as goal

pub returns-in_err-check_rights : goal.returns-in_err-check_rights
returns-in_err-check_rights c =
    let o = objects c.args.catalog.now in
    let q = select_tree c.query_of-select.result.now in
    let es = map seen_entry c.in_ok-written.written.items in
    let are : es ≡ query_entries q = c.in_ok-written.ensures.0 in
    let p = err_from_is_err_and c.from_residual-in_err-check_rights.result c.from_residual-in_err-check_rights.ensures.1 in
    rw (p.1, p.2) (subst (λ (t : StatementTree). IsNameTold o c.args.user.now (query_in t) c.in_err-check_rights.field-0.0) (sym c.query_of-select.ensures)
    (rights_told o c.args.user.now q es _ are (rw c.as_slice.ensures.value at c.in_err-check_rights.ensures)))

pub returns-in_err-found : goal.returns-in_err-found
returns-in_err-found c =
    let o = objects c.args.catalog.now in
    let q = select_tree c.query_of-select.result.now in
    let es = map seen_entry c.in_ok-written.written.items in
    let are : es ≡ query_entries q = c.in_ok-written.ensures.0 in
    let p = err_from_is_err_and c.from_residual-in_err-found.result c.from_residual-in_err-found.ensures.1 in
    rw (p.1, p.2) (subst (λ (t : StatementTree). IsNameTold o c.args.user.now (query_in t) c.in_err-found.field-0.0) (sym c.query_of-select.ensures)
    (entries_told o c.args.user.now q es _ are (rw c.as_slice-2.ensures.value at c.in_err-found.ensures.tables)))

pub look_up-requires : goal.look_up-requires
look_up-requires c =
    let o = objects c.args.catalog.now in
    let q = select_tree c.query_of-select.result.now in
    let es = map seen_entry c.in_ok-written.written.items in
    let seen = rw c.as_slice-2.ensures.value at c.in_ok-found.ensures.tables in
    rw c.as_slice-3.ensures.value (known_there o q es (map table_shape c.in_ok-found.found.tables.items) c.in_ok-written.ensures.0 seen.0 seen.1)

pub returns-in_err-query : goal.returns-in_err-query
returns-in_err-query c =
    let o = objects c.args.catalog.now in
    let q = select_tree c.query_of-select.result.now in
    let es = map seen_entry c.in_ok-written.written.items in
    let seen = rw c.as_slice-2.ensures.value at c.in_ok-found.ensures.tables in
    let p = err_from_is_err_and c.from_residual-in_err-query.result c.from_residual-in_err-query.ensures.1 in
    rw (p.1, p.2) (subst (λ (t : StatementTree). IsNameTold o c.args.user.now (query_in t) c.in_err-query.field-0.0) (sym c.query_of-select.ensures)
    (names_told o c.args.user.now q es (map table_shape c.in_ok-found.found.tables.items) _ c.in_ok-written.ensures.0 seen.0 seen.1
    (subst (λ (ts : List TableView). TellsCause (select_name_causes (map table_shape ts) q) c.in_err-query.field-0.0) c.as_slice-3.ensures.value c.in_err-query.ensures)))

pub returns : goal.returns
returns c =
    let o = objects c.args.catalog.now in
    let b = map attached c.args.bound.now in
    let q = select_tree c.query_of-select.result.now in
    let es = map seen_entry c.in_ok-written.written.items in
    let are : es ≡ query_entries q = c.in_ok-written.ensures.0 in
    let seen = rw c.as_slice-2.ensures.value at c.in_ok-found.ensures.tables in
    let placed : AreEntriesAt o b es c.in_ok-found.found.entries.items = rw c.as_slice-2.ensures.value at c.in_ok-found.ensures.entries in
    named_is o b c.args.user.now _ q es _ _ c.query_of-select.ensures refl are seen.0 seen.1 placed
    (subst (λ (ts : List TableView). IsLookedUp (map table_shape ts) q c.in_ok-found.found.entries.items c.in_ok-query.query) c.as_slice-3.ensures.value c.in_ok-query.ensures) (rw c.as_slice.ensures.value at c.in_ok-check_rights.ensures)
