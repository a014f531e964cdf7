use Rattle.std.proofs.Common.{refl}
use Rattle.std.specs.String.{string_bytes}
use Rattle.std.proofs.lemmas.Map.Text.{hash_map_updates_text}
use Rattle.wrapper_parts.proofs.Indexing.{text_put}
use Rattle.wrapper_parts.proofs.index.Firsts.put.Goals as goal

pub returns-in_ok-old-in-Text-clause-new : goal.returns-in_ok-old-in-Text-clause-new
returns-in_ok-old-in-Text-clause-new c = λ v.
    rw c.in-Text.is
    (text_put c.args.self.now (record { whole = c.args.self.now.whole; texts = c.insert-in-Text.new.self; falses = c.args.self.now.falses; trues = c.args.self.now.trues }) (string_bytes c.in-Text.text) c.args.at refl refl refl (λ cs. hash_map_updates_text (string_bytes c.in-Text.text) c.args.self.now.texts c.insert-in-Text.new.self _ c.in_ok-old-in-Text.ensures.updates cs) v)
