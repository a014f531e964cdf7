use Rattle.std.proofs.Common.{◌+◌, ◌-◌, length, refl, arith}
use Rattle.wrapper_parts.proofs.Splicing.{closed_up}
use Rattle.wrapper_parts.proofs.splice.close_up.Goals as goal

pub returns : goal.returns
returns g c =
    let old = c.args.items.now.items in
    let middle = c.args.middle.now in
    let end = c.args.from + length middle in
    closed_up old middle c.overwrite.new.items.items c.turn.new.items.items c.truncate.new.self.items c.args.from c.args.to end (c.args.to - end) c.len.result
    refl (omega arith) (omega arith) (omega arith) c.overwrite.ensures.items c.turn.ensures.items c.truncate.ensures.items
