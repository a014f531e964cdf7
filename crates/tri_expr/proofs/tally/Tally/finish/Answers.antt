use Rattle.std.proofs.Common.{subst}
use Rattle.tri_expr.specs.View.{Sees}
use Rattle.tri_expr.proofs.Tallies.{finished_is}
use Rattle.tri_expr.proofs.tally.Tally.finish.Goals as goal

pub returns : goal.returns
returns c = λ vs t. subst (Sees c.answer.result) (finished_is c.args.self vs t) c.answer.ensures
