use Rattle.std.proofs.Common.{◌≡◌, ◌+◌, ◌<◌, ◌≤◌}
use Rattle.blob_store.specs.Known.{KnownBoth}
use Rattle.blob_store.specs.Files.{IsNotRegular}
use Rattle.blob_store.specs.ReadLogs.{opens}
use Rattle.blob_store.proofs.reads.read_tries.Given as goal

abbrev pub invariant-loop-tried : goal.invariant-loop-tried
invariant-loop-tried g l = record {
  drive : KnownBoth (g.D.Disk.drive l.initial.disk) (g.D.Disk.drive l.disk) (λ old new. (new ≡ old) × (0 < l.tried → IsNotRegular (old.at l.path)));
  log : KnownBoth (g.D.Disk.log l.initial.disk) (g.D.Disk.log l.disk) (λ old new. opens new ≤ opens old + l.tried);
}
