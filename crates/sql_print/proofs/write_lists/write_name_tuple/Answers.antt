use Rattle.std.proofs.Common.{◌∷◌, ◌++◌, [], map}
use Rattle.std.specs.String.{string_bytes}
use Rattle.med_syntax.specs.Terminal as t
use Rattle.sql_print.specs.QueryPrinting.{list_written}
use Rattle.sql_print.proofs.Writing.{then_if, more_if}
use Rattle.sql_print.specs.WritePrinting.{name_written}
use Rattle.sql_print.proofs.write_lists.write_name_tuple.Goals as goal

pub returns : goal.returns
returns c =
    more_if c.write_fixed-2.result _ _ _ t.LeftParen (list_written name_written (map string_bytes c.args.names.now) ++ t.RightParen ∷ []) c.in_ok-write_fixed.ensures
    (then_if c.write_fixed-2.result _ _ _ (list_written name_written (map string_bytes c.args.names.now)) (t.RightParen ∷ []) c.in_ok-write_names.ensures c.write_fixed-2.ensures)
