use Rattle.blob_store.proofs.StepLaws.{starts_after}
use Rattle.blob_store.proofs.steps.start_draft.Goals as goal

pub returns-clause-drive : goal.returns-clause-drive
returns-clause-drive g c =
    starts_after (g.D.Disk.drive c.args.disk.now) (g.D.Disk.drive c.clear_place.new.disk) (g.D.Disk.drive c.make_draft.new.disk) c.args.draft.now c.args.like _ c.in_ok-clear_place.ensures.drive c.make_draft.ensures.drive
