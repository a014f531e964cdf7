use Rattle.std.proofs.Common.{sym, ◌∙◌}
use Rattle.query_answer.proofs.Passing.{safe_parts}
use Rattle.query_answer.proofs.behind.are_safe.Goals as goal

pub returns : goal.returns
returns c = λ e class. safe_parts c.safe_expression_has_value.ensures c.args.parts.now class (sym c.is_none_risky.ensures ∙ e)
