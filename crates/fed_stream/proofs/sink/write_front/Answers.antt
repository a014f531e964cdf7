use Rattle.fed_stream.proofs.Counts.{front_more, front_fault}
use Rattle.fed_stream.proofs.sink.write_front.Goals as goal

pub loop-rest-preserved : goal.loop-rest-preserved
loop-rest-preserved g c = front_more _ _ _ _ _ _ _ _ _ c.loop-rest.invariant c.in-Ok.ensures.bytes c.in-Ok.ensures.done

pub returns-in-Err : goal.returns-in-Err
returns-in-Err g c = front_fault _ _ _ _ _ _ _ _ _ c.loop-rest.invariant c.in-Err.ensures.bytes c.in-Err.ensures.done
