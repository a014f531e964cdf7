use Rattle.std.proofs.Common.{◌∙◌, sym, false}
use Rattle.probe_wrapper.specs.Shy.{asked_of}
use Rattle.probe_wrapper.proofs.ShyLemmas.{seen_len}
use Rattle.probe_wrapper.proofs.shy.ShyWrapper.ledger.Goals as goal

pub returns-clause-live : goal.returns-clause-live
returns-clause-live g c = c.ledger.ensures.live ∙ sym (seen_len false (asked_of c.args.self.now.scans) (g.W.Wrapper.meaning c.args.self.now.inner).ledger)
