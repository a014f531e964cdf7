use Rattle.std.proofs.Common.{◌≡◌, ◌++◌, false, length}
use Rattle.med_syntax.specs.ExprTerminals.{terminals_at, AreReadable}
use Rattle.med_syntax.specs.SymbolView.{terminals_of}
use Rattle.med_syntax.specs.View.{shapes_of}
use Rattle.med_syntax.proofs.expr_symbols.symbols_of.Given as goal

abbrev pub invariant-loop-left : goal.invariant-loop-left
invariant-loop-left l = record {
  same : terminals_of l.symbols.items ++ terminals_at l.behind_is (shapes_of l.left) ≡ terminals_at false (shapes_of l.tokens);
  readable : AreReadable (shapes_of l.left);
}

abbrev pub decreases-loop-left : goal.decreases-loop-left
decreases-loop-left l = length l.left
