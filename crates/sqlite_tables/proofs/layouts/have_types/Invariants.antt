use Rattle.std.proofs.Common.{◌≡◌, map, length}
use Rattle.fdw_api.specs.Kinds.{column_of, kinds_of}
use Rattle.sqlite_tables.specs.Layouts.{kinds_at, types_match}
use Rattle.sqlite_tables.proofs.layouts.have_types.Given as goal

abbrev pub invariant-loop-one : goal.invariant-loop-one
invariant-loop-one l =
    types_match (kinds_at l.initial.own) (kinds_of (map column_of l.initial.columns)) ≡ types_match (kinds_at l.own)
    (kinds_of (map column_of l.columns))

abbrev pub decreases-loop-one : goal.decreases-loop-one
decreases-loop-one l = length l.own
