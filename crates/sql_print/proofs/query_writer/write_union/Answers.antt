use Rattle.std.proofs.Common.{◌∷◌, codes}
use Rattle.med_syntax.specs.Terminal as t
use Rattle.sql_print.proofs.Writing.{more_if}
use Rattle.sql_print.specs.QueryPrinting.{core_written}
use Rattle.med_syntax.specs.QueryView.{core_tree}
use Rattle.sql_print.proofs.query_writer.write_union.Goals as goal

pub returns : goal.returns
returns c =
    more_if c.write_core.result _ _ _ (t.Reserved (codes "union")) (t.Reserved (codes "all") ∷ core_written (core_tree c.args.core.now)) c.in_ok-write_keyword.ensures
    (more_if c.write_core.result _ _ _ (t.Reserved (codes "all")) (core_written (core_tree c.args.core.now)) c.in_ok-write_keyword-2.ensures c.write_core.ensures)
