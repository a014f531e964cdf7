use Rattle.csv_tables.proofs.Exchanging.{whole_text}
use Rattle.csv_tables.proofs.flat_fields.Replacing.text.Goals as goal

pub returns : goal.returns
returns c = rw (← c.self.view_is, c.front.ensures, c.middle.ensures, c.back.ensures) (whole_text _ _ c.self.invariant.after c.self.invariant.whole)
