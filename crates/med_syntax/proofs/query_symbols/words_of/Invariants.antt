use Rattle.std.proofs.Common.{◌≡◌, ◌++◌, false, length}
use Rattle.med_syntax.specs.declared.query_symbols.Place.TheVariants.{Before}
use Rattle.med_syntax.specs.ExprTerminals.{AreReadable}
use Rattle.med_syntax.specs.SymbolView.{terminals_of}
use Rattle.med_syntax.specs.QueryTerminals.{words_at}
use Rattle.med_syntax.specs.View.{shapes_of}
use Rattle.med_syntax.proofs.query_symbols.words_of.Given as goal

abbrev pub invariant-loop-left : goal.invariant-loop-left
invariant-loop-left l = record {
  same : terminals_of l.symbols.items ++ words_at l.place l.behind_is (shapes_of l.left) ≡ words_at (Before false) false (shapes_of l.tokens);
  readable : AreReadable (shapes_of l.left);
}

abbrev pub decreases-loop-left : goal.decreases-loop-left
decreases-loop-left l = length l.left
