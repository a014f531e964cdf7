use Rattle.blob_store.specs.Shelves.{joined}
use Rattle.blob_store.proofs.StepLaws.{puts_held, puts_whole}
use Rattle.blob_store.proofs.steps.put_held.Goals as goal

pub returns-clause-drive : goal.returns-clause-drive
returns-clause-drive g c =
    puts_whole (g.D.Disk.drive c.args.disk.now) (g.D.Disk.drive c.look_over.new.disk) (g.D.Disk.drive c.put_seen.new.disk) c.args.draft.now c.args.path.now (joined c.args.pieces.now) c.args.mark c.in_ok-seen.seen _ c.in_ok-seen.ensures.drive c.put_seen.ensures.drive

pub returns-clause-log : goal.returns-clause-log
returns-clause-log g c =
    puts_held (g.D.Disk.log c.args.disk.now) (g.D.Disk.log c.look_over.new.disk) (g.D.Disk.log c.put_seen.new.disk) c.args.draft.now c.args.path.now (joined c.args.pieces.now) c.args.mark c.in_ok-seen.seen _ c.in_ok-seen.ensures.log c.put_seen.ensures.log
