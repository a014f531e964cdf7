use Rattle.std.proofs.Common.{ap, sym, subst, ◌<◌, List, Bor, length, map}
use Rattle.std.proofs.lemmas.Result.{err_from_is_err_and}
use Rattle.med_syntax.specs.declared.statement.Join.{Join}
use Rattle.med_syntax.specs.declared.symbols.Symbol.{Symbol}
use Rattle.med_syntax.specs.Prelude.{terminals_of, join_tree}
use Rattle.query_reader.proofs.QueryLoop.{JoinsLoop, joins_start, joins_end, joins_failed, joins_more, joins_shorter}
use Rattle.query_reader.proofs.query_source.joins.Goals as goal

pub loop-way-init : goal.loop-way-init
loop-way-init c =
    subst (λ (us : List Symbol). JoinsLoop c.args.room (terminals_of c.args.symbols.now) (map join_tree c.new-list.result.items) (terminals_of us)) (sym c.onward-rest.ensures)
    (joins_start c.args.room (terminals_of c.args.symbols.now) (map join_tree c.new-list.result.items) (ap (map join_tree) c.new-list.ensures.items))

pub returns-in_err-next : goal.returns-in_err-next
returns-in_err-next c =
    let p = err_from_is_err_and c.from_residual.result c.from_residual.ensures.1 in
    joins_failed (λ x. (map join_tree x.0.items, terminals_of x.1.now)) (λ (x : Join × Bor (List Symbol)). (join_tree x.0, terminals_of x.1.now)) c.args.room (terminals_of c.args.symbols.now) (map join_tree c.loop-way.list.items) (terminals_of c.loop-way.rest.now) (terminals_of c.in-Some.after.now) c.in-Some.way c.in_err-next.field-0.0 c.from_residual.result
    c.loop-way.invariant c.in-Some.ensures c.in_err-next.ensures (cc)

pub loop-way-smaller : goal.loop-way-smaller
loop-way-smaller c =
    subst (λ (us : List Symbol). length (terminals_of us) < length (terminals_of c.loop-way.rest.now)) (sym c.onward-rest-in-Some.ensures)
    (joins_shorter c.args.room (terminals_of c.loop-way.rest.now) (terminals_of c.in-Some.after.now) c.in-Some.way (join_tree c.in_ok-next.next) (terminals_of c.in_ok-next.more.now) c.in-Some.ensures c.in_ok-next.ensures)

pub loop-way-preserved : goal.loop-way-preserved
loop-way-preserved c =
    subst (λ (us : List Symbol). JoinsLoop c.args.room (terminals_of c.args.symbols.now) (map join_tree c.push.new.self.items) (terminals_of us)) (sym c.onward-rest-in-Some.ensures)
    (joins_more c.args.room join_tree (terminals_of c.args.symbols.now) c.loop-way.list.items c.push.new.self.items c.in_ok-next.next (terminals_of c.loop-way.rest.now) (terminals_of c.in-Some.after.now) c.in-Some.way (terminals_of c.in_ok-next.more.now) c.loop-way.invariant c.in-Some.ensures c.in_ok-next.ensures c.in_ok-push.ensures.items)

pub returns : goal.returns
returns c = joins_end c.args.room (terminals_of c.args.symbols.now) (map join_tree c.loop-way.list.items) (terminals_of c.loop-way.rest.now) c.loop-way.invariant c.in_default.ensures
