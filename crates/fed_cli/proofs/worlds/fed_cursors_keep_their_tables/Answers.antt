use Rattle.session_wire.specs.Lines.{lines_of}
use Rattle.fed_cli.proofs.worlds.fed_cursors_keep_their_tables.Goals as goal

pub returns : goal.returns
returns c = λ old new bytes text left h. c.cursors_keep_their_tables.ensures.run old new (lines_of bytes) text h.run
