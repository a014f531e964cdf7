use Rattle.std.proofs.Common.{◌≡◌, ◌++◌, take, Ok}
use Rattle.blob_store.specs.Shelves.{joined}
use Rattle.blob_store.specs.Known.{KnownBoth, Sure}
use Rattle.blob_store.specs.Drives.{IsDraft, Writes}
use Rattle.blob_store.specs.Logs.{WritesOrNot}
use Rattle.blob_store.proofs.steps.write_pieces.Given as goal

abbrev pub invariant-loop-piece : goal.invariant-loop-piece
invariant-loop-piece g l = record {
  drafted : Sure (g.D.Disk.drive l.disk) (λ d. IsDraft d l.draft);
  written : KnownBoth (g.D.Disk.drive l.initial.disk) (g.D.Disk.drive l.disk) (λ old new. Writes {T = Unit {0}} old new l.draft (joined (take l.piece-index l.pieces)) (Ok tt));
  log : KnownBoth (g.D.Disk.log l.initial.disk) (g.D.Disk.log l.disk) (λ old new. WritesOrNot {T = Unit {0}} old new (joined (take l.piece-index l.pieces)) (Ok tt));
}
