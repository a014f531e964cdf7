use Rattle.parser_tests.proofs.ExprParsed.{one_text}
use Rattle.parser_tests.proofs.expr_laws.one_expression.Goals as goal

pub returns : goal.returns
returns c = one_text c.one_list.ensures
