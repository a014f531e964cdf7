use Rattle.std.proofs.Common.{ap, ◌∙◌, List, [], ◌∷◌, ◌++◌, Bor, map}
use Rattle.std.proofs.lemmas.Result.{err_from_is_err_and}
use Rattle.med_syntax.specs.declared.symbols.Symbol.{Symbol}
use Rattle.med_syntax.specs.Prelude.{terminals_of, set_tree, set_height}
use Rattle.med_syntax.specs.declared.write.SetClause.{SetClause}
use Rattle.write_parser.specs.WriteReading.{set_of}
use Rattle.write_parser.specs.WriteGrammar.{SpellsSet}
use Rattle.write_parser.proofs.WriteSound.{set_sound}
use Rattle.query_reader.proofs.QueryLoop.{list_start, list_end, list_failed, list_unstarted, parts_more, parts_shorter}
use Rattle.write_parser.proofs.write_lists.set_list.Goals as goal

pub returns-in_err-first : goal.returns-in_err-first
returns-in_err-first c =
    let p = err_from_is_err_and c.from_residual.result c.from_residual.ensures.1 in
    list_unstarted (λ x. (map set_tree x.0.items, terminals_of x.1.now)) (λ (x : SetClause × Bor (List Symbol)). (set_tree x.0, terminals_of x.1.now)) (set_of c.args.room) (terminals_of c.args.symbols.now) c.in_err-first.field-0.0 c.from_residual.result c.in_err-first.ensures (cc)

pub loop-after-init : goal.loop-after-init
loop-after-init c =
    list_start (set_of c.args.room) (terminals_of c.args.symbols.now) (set_tree c.in_ok-first.first) (map set_tree c.push.new.self.items) (terminals_of c.in_ok-first.behind_first.now) c.in_ok-first.ensures
    (ap (map set_tree) (c.in_ok-push.ensures.items ∙ ap (λ l. l ++ c.in_ok-first.first ∷ []) c.new-list.ensures.items))

pub returns-in_err-next : goal.returns-in_err-next
returns-in_err-next c =
    let p = err_from_is_err_and c.from_residual-in_err-next.result c.from_residual-in_err-next.ensures.1 in
    list_failed (λ x. (map set_tree x.0.items, terminals_of x.1.now)) (λ (x : SetClause × Bor (List Symbol)). (set_tree x.0, terminals_of x.1.now)) (set_of c.args.room) (terminals_of c.args.symbols.now) (map set_tree c.loop-after.list.items) (terminals_of c.loop-after.rest.now) (terminals_of c.in-Some.after.now) c.in_err-next.field-0.0 c.from_residual-in_err-next.result
    c.loop-after.invariant c.in-Some.ensures c.in_err-next.ensures (cc)

pub loop-after-smaller : goal.loop-after-smaller
loop-after-smaller c = parts_shorter SpellsSet set_height c.args.room (set_of c.args.room) (set_sound c.args.room) (terminals_of c.loop-after.rest.now) (terminals_of c.in-Some.after.now) (set_tree c.in_ok-next.next) (terminals_of c.in_ok-next.more.now) c.in-Some.ensures c.in_ok-next.ensures

pub loop-after-preserved : goal.loop-after-preserved
loop-after-preserved c =
    parts_more SpellsSet set_height c.args.room (set_of c.args.room) (set_sound c.args.room) set_tree (terminals_of c.args.symbols.now) c.loop-after.list.items c.push-in-Some.new.self.items c.in_ok-next.next (terminals_of c.loop-after.rest.now) (terminals_of c.in-Some.after.now) (terminals_of c.in_ok-next.more.now) c.loop-after.invariant c.in-Some.ensures c.in_ok-next.ensures c.in_ok-push-2.ensures.items

pub returns : goal.returns
returns c = list_end (set_of c.args.room) (terminals_of c.args.symbols.now) (map set_tree c.loop-after.list.items) (terminals_of c.loop-after.rest.now) c.loop-after.invariant c.in_default.ensures
