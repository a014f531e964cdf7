use Rattle.std.proofs.Common.{arith}
use Rattle.csv_tables.proofs.Heads.{sizes}
use Rattle.csv_tables.proofs.image.text_size.Goals as goal

pub returns : goal.returns
returns c =
    let r = c.args.rows.now in
    let m = c.args.middle.now in
    let n = sizes r m c.len-all.result c.len-new.result c.text-front.result.now c.text-more.result.now c.text-back.result.now c.requires.within c.len-all.ensures c.len-new.ensures
    c.text-front.ensures c.text-more.ensures c.text-back.ensures in
    let two = c.saturating_add.ensures in
    let three = c.saturating_add-2.ensures in
    omega arith
