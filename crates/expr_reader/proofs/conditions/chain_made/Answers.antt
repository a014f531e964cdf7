use Rattle.std.proofs.Common.{rules}
use Rattle.med_syntax.specs.ExprView.{expr_tree}
use Rattle.med_syntax.specs.SymbolView.{terminals_of}
use Rattle.expr_reader.proofs.ExprLoops.{chain_made_of}
use Rattle.expr_reader.proofs.conditions.chain_made.Goals as goal

pub returns : goal.returns
returns c =
    chain_made_of c.args.joint c.args.room (expr_tree c.args.first) c.args.others.list.items (terminals_of c.args.others.rest.now) (expr_tree c.in_ok-chained.field-0) c.within.result (search rules) c.in_ok-chained.ensures c.within.ensures
