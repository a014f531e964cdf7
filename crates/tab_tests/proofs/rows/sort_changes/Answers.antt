use Rattle.std.proofs.Common.{◌≡◌, ◌∙◌, sym, ap, refl, map, rules}
use Rattle.std.proofs.lemmas.List.{nil_from_length}
use Rattle.med_value.specs.Datum.{tuple}
use Rattle.wrapper_parts.specs.Staged.{change_is}
use Rattle.wrapper_parts.proofs.Weaves.{left_update, left_delete, left_without_changes}
use Rattle.tab_tests.specs.Kept.{no_line, as_held, rows_left}
use Rattle.tab_tests.proofs.rows.sort_changes.Goals as goal

pub loop-change-preserved-in-Update : goal.loop-change-preserved-in-Update
loop-change-preserved-in-Update c = record {
  fates = λ rows.
      (let i = c.loop-change.invariant.fates rows in
      let w = left_update no_line as_held tuple c.in-Update.id rows c.loop-change.fates.items c.in-Update.row (tuple c.in-Update.row) (map change_is c.next.new.self.rest.items) refl in
      search rules);
  fresh = search rules;
}

pub loop-change-preserved : goal.loop-change-preserved
loop-change-preserved c = record {
  fates = λ rows.
      (let i = c.loop-change.invariant.fates rows in
      let w = left_delete no_line as_held tuple c.in-Delete.id rows c.loop-change.fates.items (map change_is c.next.new.self.rest.items) in
      search rules);
  fresh = search rules;
}

pub returns-clause-fates : goal.returns-clause-fates
returns-clause-fates c = λ rows.
    (let none = nil_from_length c.loop-change.change-iterator.rest.items (search rules) in
    let start : c.into_iter-change-iterator.result.rest.items ≡ c.args.changes.items = search rules in
    sym (left_without_changes no_line as_held tuple 0 rows c.loop-change.fates.items)
    ∙ ap (λ cs. rows_left rows c.loop-change.fates.items (map change_is cs)) (sym none) ∙ c.loop-change.invariant.fates rows
    ∙ ap (λ cs. rows_left rows c.args.fates.items (map change_is cs)) start)
