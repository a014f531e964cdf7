use Rattle.std.proofs.Common.{◌∙◌, sym}
use Rattle.list_wrapper.proofs.Maps.{mapped_len}
use Rattle.list_wrapper.proofs.list.ListWrapperWrapper.ledger.Goals as goal

pub returns-clause-live : goal.returns-clause-live
returns-clause-live c = c.len.ensures.len ∙ sym (mapped_len _ c.args.self.now.scans.entries c.len.ensures.ordered)
