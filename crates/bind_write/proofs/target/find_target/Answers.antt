use Rattle.std.proofs.Common.{◌≡◌, ◌∙◌, Some, ap, sym, refl, map, slice_get}
use Rattle.std.proofs.lemmas.Result.{err_from_is_err_and}
use Rattle.med_value.specs.Column.{column_of}
use Rattle.bind_names.proofs.Causes.{tells_one, tells_left, tells_right, tells_same}
use Rattle.med_catalog.specs.View.{objects, table_of}
use Rattle.med_binder.specs.Prelude.{target_right_causes, writing_causes, shapes}
use Rattle.bind_write.specs.Naming.{target_causes}
use Rattle.bind_write.proofs.Targets.{target_missing, target_known, target_columns, rights_there, target_placed, place_within, place_there}
use Rattle.bind_write.proofs.target.find_target.Goals as goal

pub returns-in-None : goal.returns-in-None
returns-in-None c =
    let o = objects c.args.catalog.now in
    tells_left (target_causes (shapes o) c.args.name.now) (target_right_causes o c.args.user.now c.args.name.now) _
    (tells_one (target_causes (shapes o) c.args.name.now) _ (target_missing o c.args.name.now c.in-None.ensures.named))

pub returns-in_err-check_mode-in-Some : goal.returns-in_err-check_mode-in-Some
returns-in_err-check_mode-in-Some c =
    let o = objects c.args.catalog.now in
    let t = table_of c.args.name.now c.in-Some.table.now in
    let p = err_from_is_err_and c.from_residual.result c.from_residual.ensures.1 in
    let right = rights_there o c.args.user.now c.args.name.now t c.in-Some.ensures.named in
    let mode = c.mapping_of.ensures ∙ ap (λ s. Rattle.med_catalog.specs.Rights.mode_for o c.args.user.now s) c.as_str.ensures.value in
    rw (p.1, p.2) (tells_right (target_causes (shapes o) c.args.name.now) (target_right_causes o c.args.user.now c.args.name.now) _
    (tells_same _ _ _ (ap writing_causes mode ∙ sym right) c.in_err-check_mode-in-Some.ensures))

pub returns-in_ok-check_mode-in-Some : goal.returns-in_ok-check_mode-in-Some
returns-in_ok-check_mode-in-Some c =
    let o = objects c.args.catalog.now in
    let n = c.args.name.now in
    let t = table_of n c.in-Some.table.now in
    let there : slice_get o.tables c.in-Some.place ≡ Some t = c.in-Some.ensures.there in
    let mode = c.mapping_of.ensures ∙ ap (λ s. Rattle.med_catalog.specs.Rights.mode_for o c.args.user.now s) c.as_str.ensures.value in
    record {
      place = target_placed o n t c.in-Some.place c.requires.once there refl;
      there = place_there c.args.bound.now c.in-Some.place _ (place_within o c.args.bound.now c.in-Some.place t c.requires.many there);
      columns = ap (map column_of) c.as_slice.ensures.value ∙ sym (target_columns o n t c.in-Some.ensures.named);
      known = target_known o n t c.in-Some.ensures.named;
      rights = rights_there o c.args.user.now n t c.in-Some.ensures.named ∙ sym (ap writing_causes mode) ∙ c.in_ok-check_mode-in-Some.ensures;
    }
