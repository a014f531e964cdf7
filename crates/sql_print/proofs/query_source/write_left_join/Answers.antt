use Rattle.std.proofs.Common.{◌∷◌, codes}
use Rattle.med_syntax.specs.Terminal as t
use Rattle.med_syntax.specs.Prelude.{expr_tree, entry_tree}
use Rattle.sql_print.proofs.Writing.{more_if}
use Rattle.sql_print.specs.QueryPrinting.{on_written}
use Rattle.sql_print.proofs.query_source.write_left_join.Goals as goal

pub returns : goal.returns
returns c =
    more_if c.write_entry_on.result _ _ _ (t.Reserved (codes "left")) (t.Reserved (codes "join") ∷ on_written (entry_tree c.args.entry.now) (expr_tree c.args.on.now)) c.in_ok-write_keyword.ensures c.write_entry_on.ensures
