use Rattle.place_wrapper.proofs.Entries.{lends}
use Rattle.place_wrapper.proofs.Options.{if_some, some_if}
use Rattle.place_wrapper.proofs.scans.pull.Goals as goal

pub returns-clause-pulls : goal.returns-clause-pulls
returns-clause-pulls g c =
    let es = c.args.scans.now.items in
    let lent = lends es c.place_of-at.result c.args.number c.index_mut.result.now _ c.place_of-at.ensures c.requires.rising c.index_mut.ensures.value in
    some_if _ _ c.index_mut.result.now.1 lent.live (c.pull_row.new.scan, c.pull_row.ensures.pulls, lent.updates c.pull_row.new.scan)

pub returns-clause-same : goal.returns-clause-same
returns-clause-same g c =
    (lends c.args.scans.now.items c.place_of-at.result c.args.number c.index_mut.result.now _ c.place_of-at.ensures c.requires.rising c.index_mut.ensures.value).same c.pull_row.new.scan

pub pull_row-requires : goal.pull_row-requires
pull_row-requires g c =
    let lent = lends c.args.scans.now.items c.place_of-at.result c.args.number c.index_mut.result.now _ c.place_of-at.ensures c.requires.rising c.index_mut.ensures.value in
    if_some _ _ c.index_mut.result.now.1 lent.live c.requires.fits
