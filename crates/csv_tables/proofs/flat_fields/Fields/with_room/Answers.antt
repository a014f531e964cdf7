use Rattle.std.proofs.Common.{refl, arith}
use Rattle.csv.specs.Records.{Rising, cut_from}
use Rattle.csv_tables.proofs.flat_fields.Fields.with_room.Goals as goal

pub returns-clause-fields : goal.returns-clause-fields
unfolding cut_from
returns-clause-fields c = rw c.in_ok-with_capacity-2.ensures.items refl

pub invariant_of-result : goal.invariant_of-result
unfolding Rising
invariant_of-result c = rw c.in_ok-with_capacity-2.ensures.items (omega arith)
