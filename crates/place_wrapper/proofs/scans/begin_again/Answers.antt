use Rattle.place_wrapper.proofs.Entries.{lends}
use Rattle.place_wrapper.proofs.Options.{some_if}
use Rattle.place_wrapper.proofs.scans.begin_again.Goals as goal

pub returns-clause-begins : goal.returns-clause-begins
returns-clause-begins g c =
    let lent = lends c.args.scans.now.items c.place_of-at.result c.args.number c.index_mut.result.now _ c.place_of-at.ensures c.requires.rising c.index_mut.ensures.value in
    some_if _ _ c.index_mut.result.now.1 lent.live (c.restart.new.scan, c.restart.ensures, lent.updates c.restart.new.scan)

pub returns-clause-same : goal.returns-clause-same
returns-clause-same g c =
    (lends c.args.scans.now.items c.place_of-at.result c.args.number c.index_mut.result.now _ c.place_of-at.ensures c.requires.rising c.index_mut.ensures.value).same c.restart.new.scan
