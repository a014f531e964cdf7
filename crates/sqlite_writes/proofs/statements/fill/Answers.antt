use Rattle.std.proofs.Common.{◌≡◌, ◌<◌, ◌+◌, ◌∙◌, suc, map, take, set, length, sym, subst, arith}
use Rattle.std.proofs.lemmas.List.{length-map}
use Rattle.sqlite_value.specs.Value.{owned}
use Rattle.med_value.specs.Datum.{datum}
use Rattle.sqlite_writes.specs.Stored.{stored}
use Rattle.sqlite_writes.proofs.Filling.{filled_more}
use Rattle.sqlite_writes.proofs.statements.fill.Goals as goal

pub loop-at-preserved : goal.loop-at-preserved
loop-at-preserved c =
    let vs = c.args.row.now.cells.items in
    let at = c.loop-at.at in
    let on : at + 1 ≡ suc at = omega arith in
    let all = length-map vs datum in
    let count = c.len-at-end.ensures in
    let there : at < length vs = omega (arith, c.loop-at-test.true, count) in
    let room : at < length c.loop-at.cells = omega (arith, there, all, c.requires.room, c.loop-at.auto.cells) in
    subst (λ n. map owned (take n (set c.loop-at.cells at c.cell_of.result)) ≡ map stored (take n (map datum vs))) (sym on)
    (filled_more c.loop-at.cells vs at c.cell_of.result c.index.result.now room there c.index.ensures c.cell_of.ensures c.loop-at.invariant)
