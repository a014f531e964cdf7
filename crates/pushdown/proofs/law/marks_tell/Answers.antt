use Rattle.pushdown.proofs.Splitting.{marks}
use Rattle.pushdown.proofs.law.marks_tell.Goals as goal

pub returns : goal.returns
returns c = marks
