use Rattle.tri_expr.proofs.Shuffled.{from_swaps}
use Rattle.tri_expr.proofs.Tallies.{aggregated_shuffled}
use Rattle.tri_expr.proofs.law.aggregates_ignore_order.Goals as goal

pub returns : goal.returns
returns c = λ function vs ws p. aggregated_shuffled function (from_swaps vs ws p)
