use Rattle.std.proofs.Common.{sym, ◌∙◌}
use Rattle.csv_tables.proofs.Moving.{held_size}
use Rattle.csv_tables.proofs.flat_fields.Fields.len.Goals as goal

pub returns : goal.returns
returns c = rw (← c.self.view_is) (c.len.ensures ∙ c.self.inside.ends.ok.0 ∙ sym (held_size (record { bytes = c.self.inside.bytes.items; ends = c.self.inside.ends.items })))
