use Rattle.std.proofs.Common.{◌-◌, ◌<◌, ◌∙◌, length, arith, rules}
use Rattle.med_value.specs.Datum.{datum}
use Rattle.wrapper_parts.proofs.Indexing.{follows}
use Rattle.wrapper_parts.proofs.index.PlaceIndex.next_place.Goals as goal

pub returns-then-at-len : goal.returns-then-at-len
returns-then-at-len c = λ cells h f.
    let at = c.args.at in
    let past : length c.args.self.now.next.items < at = search rules in
    let w = f (at - 1) (omega arith) in
    let less = w.0 in
    let size = h.size in
    absurd (omega arith)

pub returns : goal.returns
returns c = λ cells h f. c.index.ensures ∙ follows (datum c.args.value.now) cells c.args.at _ c.args.self.now c.if-at-eq0.false h f
