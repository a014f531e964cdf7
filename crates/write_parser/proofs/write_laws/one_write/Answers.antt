use Rattle.write_parser.proofs.WriteRead.{one_write}
use Rattle.write_parser.proofs.write_laws.one_write.Goals as goal

pub returns : goal.returns
returns c = one_write
