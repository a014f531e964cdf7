use Rattle.std.proofs.Common.{◌<◌, ◌++◌, ◌∷◌, [], ◌∙◌, sym, length, map, flat_map, ap, arith}
use Rattle.std.proofs.lemmas.Result.{err_from_is_err_and}
use Rattle.med_syntax.specs.QueryView.{core_tree}
use Rattle.bind_names.specs.Prelude.{table_shape, core_asked_causes}
use Rattle.bind_types.specs.Kinds.{types_in}
use Rattle.bind_types.specs.Typing.{core_types}
use Rattle.bind_query.specs.Resolving.{sorting_form}
use Rattle.bind_names.proofs.Causes.{tells_first, next_causes}
use Rattle.bind_names.proofs.Added.{added_after}
use Rattle.bind_names.proofs.Parts.{drop_read}
use Rattle.med_binder.proofs.CoreSteps.{cores_next}
use Rattle.med_binder.proofs.cores.push_cores.Goals as goal

pub returns-in_err-number : goal.returns-in_err-number
returns-in_err-number c =
    let f = core_asked_causes (map table_shape c.args.tables.now) in
    let lt : c.loop-core.core-index < length c.args.cores.now = omega arith in
    let at = drop_read c.args.cores.now c.loop-core.core-index c.core-item.result lt c.core-item.is in
    let p = err_from_is_err_and c.from_residual.result c.from_residual.ensures.1 in
    rw (p.1, p.2) (tells_first _ (f (core_tree c.core-item.result)) _ _ (c.loop-core.invariant.causes ∙ ap (λ xs. flat_map f (map core_tree xs)) at) c.in_err-number.ensures)

pub loop-core-preserved : goal.loop-core-preserved
loop-core-preserved c =
    let tables = map table_shape c.args.tables.now in
    let f = core_asked_causes tables in
    let g = core_types tables in
    let lt : c.loop-core.core-index < length c.args.cores.now = omega arith in
    let at = drop_read c.args.cores.now c.loop-core.core-index c.core-item.result lt c.core-item.is in
    let added = c.in_ok-number.ensures in
    record {
      causes = next_causes _ (f (core_tree c.core-item.result)) _ (c.loop-core.invariant.causes ∙ ap (λ xs. flat_map f (map core_tree xs)) at) added.clear;
      forms = cores_next tables (sorting_form c.args.sorting.now) _ _ _ c.loop-core.number _ c.args.cores.now c.loop-core.core-index c.core-item.result c.loop-core.invariant.forms lt c.core-item.is added.behind added.forms;
      kinds = added_after _ (map types_in c.loop-core.out.kinds.items) _ (g (core_tree c.core-item.result) ∷ []) _
          (ap (λ xs. map types_in c.loop-core.out.kinds.items ++ map g (map core_tree xs)) (sym at) ∙ c.loop-core.invariant.kinds) added.kinds;
    }
