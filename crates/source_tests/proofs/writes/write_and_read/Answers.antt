use Rattle.std.proofs.Common.{◌∙◌, IsSome, sym, subst}
use Rattle.source_tests.proofs.writes.write_and_read.Goals as goal

pub scan-read-requires-clause-bound : goal.scan-read-requires-clause-bound
scan-read-requires-clause-bound g c = subst IsSome (sym c.write_keys-written.ensures.bound) c.requires.can.is_bound

pub scan-read-requires-clause-kinds : goal.scan-read-requires-clause-kinds
scan-read-requires-clause-kinds g c = λ bound is. c.requires.kinds bound (sym c.write_keys-written.ensures.bound ∙ is)
