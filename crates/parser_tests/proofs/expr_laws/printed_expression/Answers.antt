use Rattle.expr_writer.proofs.ExprPrints.{printed_has}
use Rattle.parser_tests.proofs.expr_laws.printed_expression.Goals as goal

pub returns : goal.returns
returns c = printed_has c.printed_again.ensures c.tokens_can_be_printed.ensures
