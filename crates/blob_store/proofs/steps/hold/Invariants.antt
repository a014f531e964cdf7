use Rattle.blob_store.specs.Known.{KnownBoth}
use Rattle.blob_store.specs.Logs.{IsFree}
use Rattle.blob_store.specs.Files.{Waits}
use Rattle.blob_store.proofs.steps.hold.Given as goal

abbrev pub invariant-loop-round : goal.invariant-loop-round
invariant-loop-round g l = record {
  drive : KnownBoth (g.D.Disk.drive l.initial.disk) (g.D.Disk.drive l.disk) (λ old new. Waits old new l.folder l.round);
  log : KnownBoth (g.D.Disk.log l.initial.disk) (g.D.Disk.log l.disk) (λ old new. IsFree old new);
}
