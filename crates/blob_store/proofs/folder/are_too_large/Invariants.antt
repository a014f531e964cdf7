use Rattle.std.proofs.Common.{◌≡◌, ◌+◌, length, drop}
use Rattle.blob_store.specs.Shelves.{joined}
use Rattle.blob_store.specs.Files.{most_bytes}
use Rattle.blob_store.proofs.folder.are_too_large.Given as goal

abbrev pub invariant-loop-piece : goal.invariant-loop-piece
invariant-loop-piece l = most_bytes + length (joined (drop l.piece-index l.pieces)) ≡ l.left + length (joined l.pieces)
