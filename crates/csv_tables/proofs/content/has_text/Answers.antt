use Rattle.std.proofs.Common.{sym, subst, ◌∙◌, IsAscii}
use Rattle.csv_tables.proofs.FieldSteps.{ascii_fields}
use Rattle.csv_tables.proofs.content.has_text.Goals as goal

pub returns-then-is_ascii : goal.returns-then-is_ascii
returns-then-is_ascii c =
    c.if-is_ascii.true ∙ sym (ascii_fields c.args.row.now (subst IsAscii c.as_slice.ensures c.if-is_ascii.ensures.cases))
