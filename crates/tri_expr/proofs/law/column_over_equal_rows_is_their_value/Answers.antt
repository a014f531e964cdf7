use Rattle.tri_expr.proofs.Steady.{all_have}
use Rattle.tri_expr.proofs.law.column_over_equal_rows_is_their_value.Goals as goal

pub returns : goal.returns
returns c = λ at v row rows h. all_have at v row rows h
