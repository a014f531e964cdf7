use Rattle.std.proofs.Common.{◌≡◌, ◌∙◌, length, sym, rules}
use Rattle.place_wrapper.proofs.Maps.{mapped_len}
use Rattle.place_wrapper.proofs.wrapper.PlaceWrapperWrapper.ledger.Goals as goal

pub returns-clause-live : goal.returns-clause-live
returns-clause-live g c =
    let s = c.args.self.now in
    let many : c.len.result ≡ length s.scans.items = search rules in
    many ∙ sym (mapped_len _ 0 s.next s.scans.items s.rising)
