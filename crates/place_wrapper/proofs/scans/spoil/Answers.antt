use Rattle.std.proofs.Common.{true}
use Rattle.place_wrapper.proofs.Entries.{lends}
use Rattle.place_wrapper.proofs.Options.{some_if}
use Rattle.place_wrapper.proofs.scans.spoil.Goals as goal

pub returns-clause-breaks : goal.returns-clause-breaks
returns-clause-breaks c =
    let now = c.index_mut.result.now in
    let lent = lends c.args.scans.now.items c.place_of-at.result c.args.number now _ c.place_of-at.ensures c.requires.rising c.index_mut.ensures.value in
    some_if _ _ now.1 lent.live (lent.updates (record now.1 { broken = true }))

pub returns-clause-same : goal.returns-clause-same
returns-clause-same c =
    let now = c.index_mut.result.now in
    (lends c.args.scans.now.items c.place_of-at.result c.args.number now _ c.place_of-at.ensures c.requires.rising c.index_mut.ensures.value).same (record now.1 { broken = true })
