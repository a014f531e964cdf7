use Rattle.std.proofs.Common.{◌≡◌, ◌+◌, length, ◌≤◌}
use Rattle.med_syntax.specs.ExprWeight.{weight}
use Rattle.med_syntax.specs.SymbolView.{terminals_of}
use Rattle.med_syntax.proofs.weighing.weight.Given as goal

abbrev pub invariant-loop-left : goal.invariant-loop-left
invariant-loop-left l = record {
  same : l.heavy + weight (terminals_of l.left) ≡ weight (terminals_of l.symbols);
  few : l.heavy + length l.left ≤ length l.symbols;
}

abbrev pub decreases-loop-left : goal.decreases-loop-left
decreases-loop-left l = length l.left
