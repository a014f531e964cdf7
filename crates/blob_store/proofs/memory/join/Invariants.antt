use Rattle.std.proofs.Common.{◌≡◌, take}
use Rattle.blob_store.specs.Shelves.{joined}
use Rattle.blob_store.proofs.memory.join.Given as goal

abbrev pub invariant-loop-piece : goal.invariant-loop-piece
invariant-loop-piece l = l.blob.items ≡ joined (take l.piece-index l.pieces)
