use Rattle.std.proofs.Common.{◌∙◌, sym}
use Rattle.probe_wrapper.proofs.ShuffledLemmas.{seen_len}
use Rattle.probe_wrapper.proofs.shuffled.ShuffledWrapper.ledger.Goals as goal

pub returns-clause-live : goal.returns-clause-live
returns-clause-live g c = c.ledger.ensures.live ∙ sym (seen_len _ (g.W.Wrapper.meaning c.args.self.now.inner).ledger.live)
