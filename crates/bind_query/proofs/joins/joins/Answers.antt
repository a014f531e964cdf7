use Rattle.std.proofs.Common.{◌<◌, map, length, arith}
use Rattle.std.proofs.lemmas.Result.{err_from_is_err_and}
use Rattle.bind_names.specs.Scope.{scope_of, table_shape}
use Rattle.bind_query.proofs.JoinSteps.{joins_next, joins_told, joins_clear}
use Rattle.bind_query.proofs.joins.joins.Goals as goal

pub returns-in_err-last : goal.returns-in_err-last
returns-in_err-last c =
    let lt : c.loop-written.written-index < length c.args.joins.now = omega arith in
    let p = err_from_is_err_and c.from_residual-in_err-last.result c.from_residual-in_err-last.ensures.1 in
    rw (p.1, p.2) (joins_told (map table_shape c.args.tables.now) _ (scope_of c.loop-written.scope.items) c.args.joins.now c.loop-written.written-index c.written-item.result _ c.loop-written.invariant.causes lt c.written-item.is c.in_err-last.ensures)

pub loop-written-preserved : goal.loop-written-preserved
loop-written-preserved c =
    let lt : c.loop-written.written-index < length c.args.joins.now = omega arith in
    let tables = map table_shape c.args.tables.now in
    let h = c.in_ok-last.ensures in
    record {
      causes = joins_clear tables _ _ _ c.args.joins.now c.loop-written.written-index c.written-item.result c.loop-written.invariant.causes lt c.written-item.is h.1 h.3;
      joins = joins_next tables _ _ _ _ _ c.loop-written.last _ c.args.joins.now c.loop-written.written-index c.written-item.result c.loop-written.invariant.joins lt c.written-item.is h.0 h.1 h.2;
    }
