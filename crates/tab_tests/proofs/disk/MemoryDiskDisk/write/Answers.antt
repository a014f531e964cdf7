use Rattle.std.proofs.Common.{rules, refl}
use Rattle.tab_tests.proofs.DriveLaws.{refused_write}
use Rattle.tab_tests.specs.Drives.{drive_of}
use Rattle.tab_tests.proofs.disk.MemoryDiskDisk.write.Goals as goal

pub returns-in-Err-clause-drive : goal.returns-in-Err-clause-drive
returns-in-Err-clause-drive c = refused_write (drive_of c.args.self.now) _ _ _ c.in-Err.ensures.refused.1 refl refl refl (search rules) c.requires.making.file
