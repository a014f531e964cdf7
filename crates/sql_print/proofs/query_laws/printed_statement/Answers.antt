use Rattle.sql_print.proofs.QueryPrints.{printed_has}
use Rattle.sql_print.proofs.query_laws.printed_statement.Goals as goal

pub returns : goal.returns
returns c = printed_has c.printed_again.ensures c.tokens_can_be_printed.ensures
