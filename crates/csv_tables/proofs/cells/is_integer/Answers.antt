use Rattle.std.proofs.Common.{◌∙◌, sym}
use Rattle.csv_tables.proofs.ShortNumbers.{short_integer}
use Rattle.csv_tables.proofs.cells.is_integer.Goals as goal

pub returns-then-is_short_number : goal.returns-then-is_short_number
returns-then-is_short_number c = c.if-is_short_number.true ∙ sym (short_integer c.args.text.now (sym c.is_short_number.ensures ∙ c.if-is_short_number.true))
