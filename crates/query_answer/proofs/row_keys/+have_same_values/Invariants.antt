use Rattle.std.proofs.Common.{length}
use Rattle.query_answer.proofs.row_keys.+have_same_values.Given as goal

abbrev pub decreases-have_same_values : goal.decreases-have_same_values
decreases-have_same_values l = length l.a.now
