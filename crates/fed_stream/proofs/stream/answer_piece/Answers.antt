use Rattle.fed_stream.proofs.Calls.{known_unflushed, known_flushed}
use Rattle.fed_stream.proofs.stream.answer_piece.Goals as goal

pub returns-in-Err-flush-clause-writes : goal.returns-in-Err-flush-clause-writes
returns-in-Err-flush-clause-writes g c = known_unflushed _ _ _ _ _ _ _ _ _ _ c.in-Ok-write_front.ensures c.in-Err-flush.ensures.done

pub returns-in-Ok-flush-clause-writes : goal.returns-in-Ok-flush-clause-writes
returns-in-Ok-flush-clause-writes g c = known_flushed _ _ _ _ _ _ _ _ _ c.in-Ok-write_front.ensures c.in-Ok-flush.ensures.done
