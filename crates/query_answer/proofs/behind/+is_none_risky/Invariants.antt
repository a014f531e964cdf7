use Rattle.std.proofs.Common.{length}
use Rattle.query_answer.proofs.behind.+is_none_risky.Given as goal

abbrev pub decreases-is_none_risky : goal.decreases-is_none_risky
decreases-is_none_risky l = length l.parts.now
