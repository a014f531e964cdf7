use Rattle.fed_stream.proofs.Guards.{kept_then}
use Rattle.fed_stream.proofs.guarded.GuardedRead.read.Goals as goal

pub returns-in-Ok-true-clause-bytes : goal.returns-in-Ok-true-clause-bytes
returns-in-Ok-true-clause-bytes g c = kept_then _ _ _ c.pass.result c.pass.new.piece c.in-Ok-true.ensures.kept c.pass.ensures.bytes
