use Rattle.std.proofs.Common.{◌∷◌, codes}
use Rattle.std.specs.Prelude.{option_map}
use Rattle.std.specs.String.{string_bytes}
use Rattle.med_syntax.specs.Terminal as t
use Rattle.sql_print.proofs.Writing.{more_if}
use Rattle.med_syntax.specs.WriteView.{names_tree}
use Rattle.sql_print.specs.WritePrinting.{columns_written}
use Rattle.sql_print.proofs.write_writer.write_target.Goals as goal

pub returns : goal.returns
returns c =
    more_if c.write_columns.result _ _ _ (t.Reserved (codes "insert")) (t.Reserved (codes "into") ∷ t.Name (string_bytes c.args.table.now) ∷ columns_written (option_map names_tree c.args.columns.now)) c.in_ok-write_keyword.ensures
    (more_if c.write_columns.result _ _ _ (t.Reserved (codes "into")) (t.Name (string_bytes c.args.table.now) ∷ columns_written (option_map names_tree c.args.columns.now)) c.in_ok-write_keyword-2.ensures
    (more_if c.write_columns.result _ _ _ (t.Name (string_bytes c.args.table.now)) (columns_written (option_map names_tree c.args.columns.now)) c.in_ok-write_name.ensures c.write_columns.ensures))
