use Rattle.med_binder.proofs.LawEntries.{entries_stand}
use Rattle.med_binder.proofs.law.entries_are_tables.Goals as goal

pub returns : goal.returns
returns c = λ tables statement n. entries_stand tables statement n
