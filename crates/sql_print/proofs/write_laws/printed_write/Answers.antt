use Rattle.sql_print.proofs.WritePrints.{printed_has}
use Rattle.sql_print.proofs.write_laws.printed_write.Goals as goal

pub returns : goal.returns
returns c = printed_has c.printed_again.ensures c.tokens_can_be_printed.ensures
