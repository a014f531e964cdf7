use Rattle.std.proofs.Common.{rules, string_bytes}
use Rattle.blob_store.proofs.FileLaws.{puts_shelf, keeps_device, keeps_other}
use Rattle.blob_store.specs.Shelves.{joined}
use Rattle.blob_store.specs.Files.{mark_of}
use Rattle.blob_store.proofs.folder.FolderBlobs.replace.Goals as goal

pub returns-in-Ok-clause-ok : goal.returns-in-Ok-clause-ok
returns-in-Ok-clause-ok g c =
    puts_shelf (g.D.Disk.drive c.args.self.now.disk) (g.D.Disk.drive c.put.new.self.disk) (string_bytes c.args.self.now.path) (string_bytes c.put.new.self.path) c.args.name.now c.put.new.self.failures c.args.self.now.failures (mark_of c.args.self.now c.args.name.now) (mark_of c.put.new.self c.args.name.now) (joined c.args.pieces.now) c.requires c.in-Ok.ensures.done c.in-Ok.ensures.path c.in-Ok.ensures.failures (search rules)

pub returns-in-Err-Device-clause-err : goal.returns-in-Err-Device-clause-err
returns-in-Err-Device-clause-err g c =
    keeps_device (g.D.Disk.drive c.args.self.now.disk) (g.D.Disk.drive c.put.new.self.disk) (string_bytes c.args.self.now.path) (string_bytes c.put.new.self.path) c.args.name.now c.put.new.self.failures c.args.self.now.failures (mark_of c.args.self.now c.args.name.now) (joined c.args.pieces.now) c.in-Err-Device.field-0 c.in-Err-Device.ensures.done c.in-Err-Device.ensures.path c.in-Err-Device.ensures.failures (search rules)

pub returns-in-Err : goal.returns-in-Err
returns-in-Err g c = record {
  ok = tt;
  err = keeps_other (g.D.Disk.drive c.args.self.now.disk) (g.D.Disk.drive c.put.new.self.disk) (string_bytes c.args.self.now.path) (string_bytes c.put.new.self.path) c.args.name.now c.put.new.self.failures c.args.self.now.failures (mark_of c.args.self.now c.args.name.now) (joined c.args.pieces.now) c.in-Err.fault c.in-Err.ensures.done c.in-Err.ensures.worn (search rules) c.in-Err.ensures.path c.in-Err.ensures.failures (search rules);
}
