use Rattle.std.proofs.Common.{◌≡◌, map, take}
use Rattle.med_value.specs.Datum.{datum, tuple}
use Rattle.med_query.specs.Query.{key_of}
use Rattle.query_answer.proofs.row_keys.key_row.Given as goal

abbrev pub invariant-loop-at : goal.invariant-loop-at
invariant-loop-at l = map datum l.cells.items ≡ key_of (take l.at-index l.columns) (tuple l.row)
