use Rattle.std.proofs.Common.{◌≡◌, ◌+◌, ℕ, List, ◌∷◌, map, length, rules, subst}
use Rattle.med_value.specs.Datum.{Datum, datum}
use Rattle.wrapper_parts.specs.Indexes.{IsIndexFrom}
use Rattle.sqlite_tables.proofs.ColumnReads.{taken_more}
use Rattle.sqlite_tables.proofs.reading.index_of.Goals as goal

pub loop-value-preserved : goal.loop-value-preserved
loop-value-preserved c =
    let left = c.pop.new.self.items in
    let v = c.in-Some.value in
    let at : c.len-in-Some.result ≡ length left = search rules in
    let add = subst (λ (n : ℕ). (ds : List Datum) → IsIndexFrom (n + 1) ds c.loop-value.index
    → IsIndexFrom n (datum v ∷ ds) c.add.new.self) at c.in_ok-add.ensures in
    taken_more (map datum c.args.values.items) c.loop-value.left.items left v c.loop-value.index c.add.new.self c.in-Some.ensures.items
    add c.loop-value.invariant
