use Rattle.std.proofs.Common.{length}
use Rattle.query_answer.proofs.behind.+is_behind.Given as goal

abbrev pub decreases-is_behind : goal.decreases-is_behind
decreases-is_behind l = length l.directions.now
