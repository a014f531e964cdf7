use Rattle.std.specs.Prelude.{option_map}
use Rattle.std.specs.String.{string_bytes}
use Rattle.med_syntax.specs.Prelude.{spelling, expr_tree}
use Rattle.sql_print.specs.QueryPrinting.{alias_written}
use Rattle.sql_print.proofs.Writing.{then_if}
use Rattle.sql_print.proofs.query_items.write_value.Goals as goal

pub returns : goal.returns
returns c = then_if c.write_alias.result _ _ _ (spelling (expr_tree c.args.expr.now)) (alias_written (option_map string_bytes c.args.alias.now)) c.in_ok-write.ensures c.write_alias.ensures
