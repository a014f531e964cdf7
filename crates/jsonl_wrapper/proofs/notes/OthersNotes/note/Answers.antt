use Rattle.std.proofs.Common.{refl}
use Rattle.jsonl_wrapper.proofs.NoteLaws.{others_after}
use Rattle.jsonl_wrapper.proofs.notes.OthersNotes.note.Goals as goal

pub returns : goal.returns
returns c = λ begun ms d e is. others_after begun c.args.self.now _ ms d c.args.name.now is refl c.is_other-self.ensures
