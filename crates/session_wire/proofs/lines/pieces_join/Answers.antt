use Rattle.med_value.specs.Limits.{line_limit}
use Rattle.session_wire.proofs.Pieces.{lines-append}
use Rattle.session_wire.proofs.lines.pieces_join.Goals as goal

pub returns : goal.returns
returns c = lines-append line_limit
