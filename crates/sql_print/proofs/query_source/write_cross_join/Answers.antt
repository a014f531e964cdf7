use Rattle.std.proofs.Common.{◌∷◌, codes}
use Rattle.med_syntax.specs.Terminal as t
use Rattle.sql_print.proofs.Writing.{more_if}
use Rattle.sql_print.specs.QueryPrinting.{entry_written}
use Rattle.med_syntax.specs.QueryView.{entry_tree}
use Rattle.sql_print.proofs.query_source.write_cross_join.Goals as goal

pub returns : goal.returns
returns c =
    more_if c.write_entry.result _ _ _ (t.Reserved (codes "cross")) (t.Reserved (codes "join") ∷ entry_written (entry_tree c.args.entry.now)) c.in_ok-write_keyword.ensures
    (more_if c.write_entry.result _ _ _ (t.Reserved (codes "join")) (entry_written (entry_tree c.args.entry.now)) c.in_ok-write_keyword-2.ensures c.write_entry.ensures)
