use Rattle.std.proofs.Common.{arith}
use Rattle.std.proofs.lemmas.Map.Text.{text_keys}
use Rattle.blob_store.proofs.marks.Marks.change.Goals as goal

pub returns-in-Some-clause-others : goal.returns-in-Some-clause-others
returns-in-Some-clause-others c = grind (arith, text_keys)
