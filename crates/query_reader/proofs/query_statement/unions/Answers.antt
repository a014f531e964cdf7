use Rattle.std.proofs.Common.{ap, sym, subst, ◌<◌, List, Bor, length, map}
use Rattle.std.proofs.lemmas.Result.{err_from_is_err_and}
use Rattle.med_syntax.specs.declared.statement.Core.{Core}
use Rattle.med_syntax.specs.declared.symbols.Symbol.{Symbol}
use Rattle.med_syntax.specs.Prelude.{terminals_of, core_tree}
use Rattle.query_reader.proofs.QueryLoop.{UnionsLoop, unions_start, unions_end, unions_failed, unions_more, unions_shorter}
use Rattle.query_reader.proofs.query_statement.unions.Goals as goal

pub loop-after-init : goal.loop-after-init
loop-after-init c =
    subst (λ (us : List Symbol). UnionsLoop c.args.room (terminals_of c.args.symbols.now) (map core_tree c.new-others.result.items) (terminals_of us)) (sym c.onward-rest.ensures)
    (unions_start c.args.room (terminals_of c.args.symbols.now) (map core_tree c.new-others.result.items) (ap (map core_tree) c.new-others.ensures.items))

pub returns-in_err-next : goal.returns-in_err-next
returns-in_err-next c =
    let p = err_from_is_err_and c.from_residual.result c.from_residual.ensures.1 in
    unions_failed (λ x. (map core_tree x.0.items, terminals_of x.1.now)) (λ (x : Core × Bor (List Symbol)). (core_tree x.0, terminals_of x.1.now)) c.args.room (terminals_of c.args.symbols.now) (map core_tree c.loop-after.others.items) (terminals_of c.loop-after.rest.now) (terminals_of c.in-Some.after.now) c.in_err-next.field-0.0 c.from_residual.result
    c.loop-after.invariant c.in-Some.ensures c.in_err-next.ensures (cc)

pub loop-after-smaller : goal.loop-after-smaller
loop-after-smaller c =
    subst (λ (us : List Symbol). length (terminals_of us) < length (terminals_of c.loop-after.rest.now)) (sym c.onward-rest-in-Some.ensures)
    (unions_shorter c.args.room (terminals_of c.loop-after.rest.now) (terminals_of c.in-Some.after.now) (core_tree c.in_ok-next.next) (terminals_of c.in_ok-next.more.now) c.in-Some.ensures c.in_ok-next.ensures)

pub loop-after-preserved : goal.loop-after-preserved
loop-after-preserved c =
    subst (λ (us : List Symbol). UnionsLoop c.args.room (terminals_of c.args.symbols.now) (map core_tree c.push.new.self.items) (terminals_of us)) (sym c.onward-rest-in-Some.ensures)
    (unions_more c.args.room core_tree (terminals_of c.args.symbols.now) c.loop-after.others.items c.push.new.self.items c.in_ok-next.next (terminals_of c.loop-after.rest.now) (terminals_of c.in-Some.after.now) (terminals_of c.in_ok-next.more.now) c.loop-after.invariant c.in-Some.ensures c.in_ok-next.ensures c.in_ok-push.ensures.items)

pub returns : goal.returns
returns c = unions_end c.args.room (terminals_of c.args.symbols.now) (map core_tree c.loop-after.others.items) (terminals_of c.loop-after.rest.now) c.loop-after.invariant c.in_default.ensures
