use Rattle.std.proofs.Common.{length}
use Rattle.fed_stream.proofs.telling.+write_parts.Given as goal

abbrev pub decreases-write_parts : goal.decreases-write_parts
decreases-write_parts g l = length l.parts.now
