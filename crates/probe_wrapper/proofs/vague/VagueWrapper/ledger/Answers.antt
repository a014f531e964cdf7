use Rattle.std.proofs.Common.{◌∙◌, sym, true}
use Rattle.probe_wrapper.specs.Shy.{asked_of}
use Rattle.probe_wrapper.proofs.ShyLemmas.{seen_len}
use Rattle.probe_wrapper.proofs.vague.VagueWrapper.ledger.Goals as goal

pub returns-clause-live : goal.returns-clause-live
returns-clause-live g c = c.ledger.ensures.live ∙ sym (seen_len true (asked_of c.args.self.now.scans) (g.W.Wrapper.meaning c.args.self.now.inner).ledger)
