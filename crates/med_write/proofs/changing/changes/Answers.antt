use Rattle.std.proofs.Common.{map, refl}
use Rattle.med_value.specs.Datum.{tuple}
use Rattle.fdw_api.specs.Calls.{row_of}
use Rattle.med_write.specs.Form.{change_of, form_of}
use Rattle.med_write.proofs.WholeWrites.{ok_of_form}
use Rattle.med_write.proofs.changing.changes.Goals as goal

pub returns-in-Update-clause-ok : goal.returns-in-Update-clause-ok
returns-in-Update-clause-ok c =
    ok_of_form c.update.result (λ v. map change_of v.items) _ c.args.write.now.columns.items _ (form_of c.args.write.now.rows) (map row_of c.args.rows.items) (map tuple c.args.answer.now) c.as_slice-columns.ensures.value
    (rw (c.deref-in-Update.ensures.value, c.deref-in-Update-2.ensures.value, c.in-Update.is) refl) c.update.ensures.ok

pub returns-in-Delete-clause-ok : goal.returns-in-Delete-clause-ok
returns-in-Delete-clause-ok c =
    ok_of_form c.delete.result (λ v. map change_of v.items) _ c.args.write.now.columns.items _ (form_of c.args.write.now.rows) (map row_of c.args.rows.items) (map tuple c.args.answer.now) c.as_slice-columns.ensures.value
    (rw (c.deref-in-Delete.ensures.value, c.in-Delete.is) refl) c.delete.ensures.ok
