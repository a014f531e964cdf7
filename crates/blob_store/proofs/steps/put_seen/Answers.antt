use Rattle.blob_store.specs.Shelves.{joined}
use Rattle.std.proofs.lemmas.Result.{err_from_is_err_and}
use Rattle.blob_store.proofs.StepLaws.{puts_seen, puts_seen_by, keeps_unstarted}
use Rattle.blob_store.proofs.steps.put_seen.Goals as goal

pub returns-clause-drive : goal.returns-clause-drive
returns-clause-drive g c =
    puts_seen (g.D.Disk.drive c.args.disk.now) (g.D.Disk.drive c.start_draft.new.disk) (g.D.Disk.drive c.land.new.disk) c.args.draft.now c.args.path.now (joined c.args.pieces.now) c.args.seen _ c.in_ok-start_draft.ensures.drive c.land.ensures.drive

pub returns-clause-log : goal.returns-clause-log
returns-clause-log g c =
    puts_seen_by (g.D.Disk.log c.args.disk.now) (g.D.Disk.log c.start_draft.new.disk) (g.D.Disk.log c.land.new.disk) c.args.draft.now c.args.path.now (joined c.args.pieces.now) c.args.seen _ c.in_ok-start_draft.ensures.log c.land.ensures.log

pub returns-in_err-start_draft-clause-drive : goal.returns-in_err-start_draft-clause-drive
returns-in_err-start_draft-clause-drive g c =
    let p = err_from_is_err_and c.from_residual.result c.from_residual.ensures.1 in
    rw (p.1, p.2) (keeps_unstarted (g.D.Disk.drive c.args.disk.now) (g.D.Disk.drive c.start_draft.new.disk) c.args.draft.now _ c.in_err-start_draft.ensures.drive)
