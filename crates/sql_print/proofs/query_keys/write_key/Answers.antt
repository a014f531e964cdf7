use Rattle.std.proofs.Common.{◌++◌, codes}
use Rattle.med_syntax.specs.Prelude.{spelling, expr_tree}
use Rattle.sql_print.proofs.Writing.{then_if}
use Rattle.sql_print.specs.QueryPrinting.{flag_written, nulls_written}
use Rattle.sql_print.proofs.query_keys.write_key.Goals as goal

pub returns : goal.returns
returns c =
    then_if c.write_direction.result _ _ _ (spelling (expr_tree c.args.key.now.key)) (flag_written (codes "desc") (codes "asc") c.args.key.now.descending ++ nulls_written c.args.key.now.nulls_first) c.in_ok-write.ensures c.write_direction.ensures
