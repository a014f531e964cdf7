use Rattle.blob_store.specs.Shelves.{joined}
use Rattle.blob_store.proofs.StepLaws.{puts_after}
use Rattle.blob_store.proofs.steps.hold_and_put.Goals as goal

pub returns-clause-log : goal.returns-clause-log
returns-clause-log g c =
    puts_after (g.D.Disk.log c.args.disk.now) (g.D.Disk.log c.hold.new.disk) (g.D.Disk.log c.put_held.new.disk) c.args.draft.now c.args.path.now (joined c.args.pieces.now) c.args.mark c.in_ok-locked.locked _ c.in_ok-locked.ensures.log c.put_held.ensures.log
