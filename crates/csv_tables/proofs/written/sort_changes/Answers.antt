use Rattle.std.proofs.Common.{◌≡◌, ◌∙◌, ◌∷◌, ap, sym, refl, length, map, replicate, Some, None, rules}
use Rattle.std.proofs.lemmas.List.{nil_from_length}
use Rattle.std.specs.String.{string_bytes}
use Rattle.med_value.specs.Datum.{tuple}
use Rattle.fdw_api.specs.Kinds.{Inserts, Updates, Deletes}
use Rattle.wrapper_parts.specs.declared.fates.Fate.TheVariants.{Keep}
use Rattle.wrapper_parts.specs.Staged.{change_is}
use Rattle.csv_tables.specs.Tables.{shape_is}
use Rattle.csv_tables.specs.Rewriting.{fates_of, rows_left}
use Rattle.csv_tables.proofs.Changes.{fates_set, fates_at_first, wide_first, wide_set}
use Rattle.wrapper_parts.proofs.Weaves.{left_on, left_insert, left_update, left_delete, left_without_changes}
use Rattle.csv.specs.Records.{fields_of}
use Rattle.csv_tables.specs.Cells.{line_of}
use Rattle.csv_tables.specs.Shapes.{read_row}
use Rattle.csv_tables.proofs.Sorting.{first_fits, written_row, fresh_on, same_on, wide_line, clear_on, fresh_wide_on}
use Rattle.csv_tables.proofs.written.sort_changes.Goals as goal

pub loop-change-preserved-in_ok-insert-in-Delete : goal.loop-change-preserved-in_ok-insert-in-Delete
loop-change-preserved-in_ok-insert-in-Delete c =
    let l = c.args.layout.now in
    let shape = shape_is l in
    let write = line_of shape.null in
    let read = read_row shape in
    let i = c.loop-change.invariant in
    let cs = map change_is c.loop-change.change-iterator.rest.items in
    let ds = map change_is c.next.new.self.rest.items in
    let id = c.in-Delete.id in
    let old = c.loop-change.changed in
    let new = c.insert-in-Delete.new.self in
    let up = c.in_ok-insert-in-Delete.ensures.updates in
    let ce : cs ≡ Deletes id ∷ ds = search rules in
    let fit = first_fits l.kinds.items (Deletes id) cs ds ce i.fit in
    record {
      fit = fit.1;
      fates = λ count rows. left_on write read fields_of rows (fates_of old count) (fates_of new count) (Deletes id) cs ds _ (i.fates count rows) ce
          (left_delete write read fields_of id rows (fates_of old count) ds ∙ ap (λ fs. rows_left shape rows fs ds) (sym (fates_set old new id count None up)));
      fresh = same_on shape _ (Deletes id) cs ds _ i.fresh ce refl;
      wide = wide_set (length l.kinds.items) old new id None up refl i.wide;
      fresh_wide = i.fresh_wide;
      clear = clear_on (string_bytes l.null) _ (Deletes id) cs ds i.clear ce refl;
    }

pub loop-change-preserved-in_ok-insert-in-Delete-2 : goal.loop-change-preserved-in_ok-insert-in-Delete-2
loop-change-preserved-in_ok-insert-in-Delete-2 c =
    let l = c.args.layout.now in
    let shape = shape_is l in
    let write = line_of shape.null in
    let read = read_row shape in
    let i = c.loop-change.invariant in
    let cs = map change_is c.loop-change.change-iterator.rest.items in
    let ds = map change_is c.next.new.self.rest.items in
    let id = c.in-Delete.id in
    let old = c.loop-change.changed in
    let new = c.insert-in-Delete.new.self in
    let up = c.in_ok-insert-in-Delete.ensures.updates in
    let ce : cs ≡ Deletes id ∷ ds = search rules in
    let fit = first_fits l.kinds.items (Deletes id) cs ds ce i.fit in
    record {
      fit = fit.1;
      fates = λ count rows. left_on write read fields_of rows (fates_of old count) (fates_of new count) (Deletes id) cs ds _ (i.fates count rows) ce
          (left_delete write read fields_of id rows (fates_of old count) ds ∙ ap (λ fs. rows_left shape rows fs ds) (sym (fates_set old new id count None up)));
      fresh = same_on shape _ (Deletes id) cs ds _ i.fresh ce refl;
      wide = wide_set (length l.kinds.items) old new id None up refl i.wide;
      fresh_wide = i.fresh_wide;
      clear = clear_on (string_bytes l.null) _ (Deletes id) cs ds i.clear ce refl;
    }

pub loop-change-preserved : goal.loop-change-preserved
loop-change-preserved c =
    let l = c.args.layout.now in
    let shape = shape_is l in
    let write = line_of shape.null in
    let read = read_row shape in
    let i = c.loop-change.invariant in
    let cs = map change_is c.loop-change.change-iterator.rest.items in
    let ds = map change_is c.next.new.self.rest.items in
    let id = c.in-Delete.id in
    let old = c.loop-change.changed in
    let new = c.insert-in-Delete.new.self in
    let up = c.in_ok-insert-in-Delete.ensures.updates in
    let ce : cs ≡ Deletes id ∷ ds = search rules in
    let fit = first_fits l.kinds.items (Deletes id) cs ds ce i.fit in
    record {
      fit = fit.1;
      fates = λ count rows. left_on write read fields_of rows (fates_of old count) (fates_of new count) (Deletes id) cs ds _ (i.fates count rows) ce
          (left_delete write read fields_of id rows (fates_of old count) ds ∙ ap (λ fs. rows_left shape rows fs ds) (sym (fates_set old new id count None up)));
      fresh = same_on shape _ (Deletes id) cs ds _ i.fresh ce refl;
      wide = wide_set (length l.kinds.items) old new id None up refl i.wide;
      fresh_wide = i.fresh_wide;
      clear = clear_on (string_bytes l.null) _ (Deletes id) cs ds i.clear ce refl;
    }

pub loop-change-init : goal.loop-change-init
loop-change-init c =
    let l = c.args.layout.now in
    let start = c.into_iter-change-iterator.ensures.into_iter_gives in
    record {
      fit = search rules;
      fates = λ count rows. ap (λ fs. rows_left (shape_is l) rows fs (map change_is c.into_iter-change-iterator.result.rest.items)) (fates_at_first c.new-changed.result count c.new-changed.ensures.empty);
      fresh = search rules;
      wide = wide_first (length l.kinds.items) c.new-changed.result c.new-changed.ensures.empty;
      fresh_wide = search rules;
      clear = refl;
    }

pub loop-change-preserved-in-Insert : goal.loop-change-preserved-in-Insert
loop-change-preserved-in-Insert c =
    let l = c.args.layout.now in
    let shape = shape_is l in
    let write = line_of shape.null in
    let read = read_row shape in
    let i = c.loop-change.invariant in
    let cs = map change_is c.loop-change.change-iterator.rest.items in
    let ds = map change_is c.next.new.self.rest.items in
    let x = tuple c.in-Insert.row in
    let line = c.in_ok-line-in-Insert.line in
    let did = rw c.deref.ensures at c.in_ok-line-in-Insert.ensures in
    let ce : cs ≡ Inserts x ∷ ds = search rules in
    let fit = first_fits l.kinds.items (Inserts x) cs ds ce i.fit in
    record {
      fit = fit.1;
      fates = λ count rows. left_on write read fields_of rows (fates_of c.loop-change.changed count) (fates_of c.loop-change.changed count) (Inserts x) cs ds _ (i.fates count rows) ce
          (left_insert write read fields_of 0 rows (fates_of c.loop-change.changed count) x ds);
      fresh = fresh_on shape c.loop-change.fresh.items c.push.new.self.items line x cs ds _ i.fresh ce (search rules) (written_row shape line x did.line (did.back l.kinds.items fit.0));
      wide = i.wide;
      fresh_wide = fresh_wide_on (length l.kinds.items) c.loop-change.fresh.items c.push.new.self.items line (search rules) i.fresh_wide (wide_line shape line x did.line did.texts fit.0);
      clear = clear_on (string_bytes l.null) _ (Inserts x) cs ds i.clear ce did.clear;
    }

pub loop-change-preserved-in-Update : goal.loop-change-preserved-in-Update
loop-change-preserved-in-Update c =
    let l = c.args.layout.now in
    let shape = shape_is l in
    let write = line_of shape.null in
    let read = read_row shape in
    let i = c.loop-change.invariant in
    let cs = map change_is c.loop-change.change-iterator.rest.items in
    let ds = map change_is c.next.new.self.rest.items in
    let x = tuple c.in-Update.row in
    let id = c.in-Update.id in
    let line = c.in_ok-line-in-Update.line in
    let did = rw c.deref-in-Update.ensures at c.in_ok-line-in-Update.ensures in
    let old = c.loop-change.changed in
    let new = c.insert.new.self in
    let up = c.in_ok-insert-in-Update.ensures.updates in
    let ce : cs ≡ Updates id x ∷ ds = search rules in
    let fit = first_fits l.kinds.items (Updates id x) cs ds ce i.fit in
    record {
      fit = fit.1;
      fates = λ count rows. left_on write read fields_of rows (fates_of old count) (fates_of new count) (Updates id x) cs ds _ (i.fates count rows) ce
          (left_update write read fields_of id rows (fates_of old count) line x ds (written_row shape line x did.line (did.back l.kinds.items fit.0))
          ∙ ap (λ fs. rows_left shape rows fs ds) (sym (fates_set old new id count (Some line) up)));
      fresh = same_on shape _ (Updates id x) cs ds _ i.fresh ce refl;
      wide = wide_set (length l.kinds.items) old new id (Some line) up (wide_line shape line x did.line did.texts fit.0) i.wide;
      fresh_wide = i.fresh_wide;
      clear = clear_on (string_bytes l.null) _ (Updates id x) cs ds i.clear ce did.clear;
    }

pub returns-clause-fates : goal.returns-clause-fates
returns-clause-fates c =
    let shape = shape_is c.args.layout.now in
    let none = nil_from_length c.loop-change.change-iterator.rest.items (search rules) in
    let start : c.into_iter-change-iterator.result.rest.items ≡ c.args.changes.items = search rules in
    λ count rows.
    (let kept = fates_of c.loop-change.changed count in
    sym (left_without_changes (line_of shape.null) (read_row shape) fields_of 0 rows kept)
    ∙ ap (λ cs. rows_left shape rows kept (map change_is cs)) (sym none) ∙ c.loop-change.invariant.fates count rows
    ∙ ap (λ cs. rows_left shape rows (replicate count Keep) (map change_is cs)) start)
