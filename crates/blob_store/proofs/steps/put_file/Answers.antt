use Rattle.blob_store.specs.Shelves.{joined}
use Rattle.blob_store.proofs.StepLaws.{keeps_released}
use Rattle.blob_store.proofs.steps.put_file.Goals as goal

pub returns-in-Err-clause-done : goal.returns-in-Err-clause-done
returns-in-Err-clause-done g c =
    keeps_released (g.D.Disk.drive c.args.disk.now) (g.D.Disk.drive c.hold_and_put-put.new.disk) (g.D.Disk.drive c.release.new.self) c.args.draft.now c.args.path.now c.args.mark (joined c.args.pieces.now) c.in-Err.fault c.in-Err.ensures.drive c.release.ensures.drive
