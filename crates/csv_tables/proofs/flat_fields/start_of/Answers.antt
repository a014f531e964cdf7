use Rattle.std.proofs.Common.{◌≡◌, ◌<◌, ◌+◌, ◌-◌, ◌∙◌, sym, rules, length, arith}
use Rattle.csv.proofs.RecordFacts.{prev-first}
use Rattle.csv_tables.proofs.Moving.{prev_next}
use Rattle.csv_tables.proofs.flat_fields.start_of.Goals as goal

pub returns-then-at-eq0 : goal.returns-then-at-eq0
returns-then-at-eq0 c = rw c.if-at-eq0.true (sym (prev-first _))

pub returns-else-at-eq0 : goal.returns-else-at-eq0
returns-else-at-eq0 c =
    let one : (c.args.at - 1) + 1 ≡ c.args.at = search rules in
    let lt : c.args.at - 1 < length c.args.ends.now.items = omega (arith, one, c.requires) in
    let e = rw one at (prev_next 0 c.args.ends.now.items (c.args.at - 1) c.index.result.now lt) in
    c.index.ensures ∙ sym e
