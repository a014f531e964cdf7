use Rattle.std.proofs.Common.{arith}
use Rattle.std.proofs.KnownBytes.{Keeps-trans}
use Rattle.fed_stream.proofs.Counts.{waits_known}
use Rattle.fed_stream.proofs.source.read_piece.Goals as goal

pub loop-granted-preserved : goal.loop-granted-preserved
loop-granted-preserved g c = record {
  kept = Keeps-trans _ _ _ c.loop-granted.invariant.kept c.in-Err-Interrupted.ensures.bytes;
  waits = waits_known _ _ _ c.loop-granted-test.true _ c.in-Err-Interrupted.field-0-is _ _ _ c.loop-granted.invariant.waits c.in-Err-Interrupted.ensures.met;
  fewer = omega (arith, c.loop-granted.invariant.fewer);
}
