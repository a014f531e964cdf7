use Rattle.std.proofs.Common.{flat_map}
use Rattle.std.proofs.lemmas.Result.{err_from_is_err_and}
use Rattle.med_syntax.specs.QueryView.{core_tree}
use Rattle.bind_names.specs.Scope.{scope_of}
use Rattle.bind_types.specs.Typing.{item_type_causes, condition_type_causes}
use Rattle.bind_names.proofs.Causes.{tells_left, tells_right}
use Rattle.bind_types.proofs.checks.check_asked.Goals as goal

pub returns-in_err-type_where : goal.returns-in_err-type_where
returns-in_err-type_where c =
    let s = scope_of c.args.scope.now in
    let q = core_tree c.args.core.now in
    let p = err_from_is_err_and c.from_residual-in_err-type_where.result c.from_residual-in_err-type_where.ensures.1 in
    rw (p.1, p.2) (tells_right (flat_map (item_type_causes s) q.items) _ _ (tells_left (condition_type_causes s q.condition) _ _ c.in_err-type_where.ensures))
