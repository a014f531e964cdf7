use Rattle.std.proofs.Common.{arith}
use Rattle.tri_expr.proofs.Searching.{pieces_within}
use Rattle.tri_expr.proofs.like.fixed_length.Goals as goal

pub overflow_add-count : goal.overflow_add-count
overflow_add-count c = omega (arith, c.loop-first.invariant.counted, pieces_within c.args.pattern.now c.utf8.pattern)
