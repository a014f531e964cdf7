use Rattle.std.proofs.KnownBytes.{Keeps-trans}
use Rattle.fed_stream.proofs.Counts.{tries_write_known}
use Rattle.fed_stream.proofs.sink.write_once.Goals as goal

pub loop-left-preserved : goal.loop-left-preserved
loop-left-preserved g c = record {
  kept = Keeps-trans _ _ _ c.loop-left.invariant.kept c.in-Err-Interrupted.ensures.bytes;
  tries = tries_write_known _ _ _ c.loop-left-test.true _ c.in-Err-Interrupted.field-0-is _ _ _ c.loop-left.invariant.tries c.in-Err-Interrupted.ensures.done;
}
