use Rattle.std.proofs.Common.{◌≡◌, map, length}
use Rattle.fdw_api.specs.Kinds.{column_of, kinds_of}
use Rattle.list_wrapper.specs.Lists.{types_match}
use Rattle.list_wrapper.proofs.list.has_types.Given as goal

abbrev pub invariant-loop-kind : goal.invariant-loop-kind
invariant-loop-kind l = types_match l.initial.types (kinds_of (map column_of l.initial.columns)) ≡ types_match l.types (kinds_of (map column_of l.columns))

abbrev pub decreases-loop-kind : goal.decreases-loop-kind
decreases-loop-kind l = length l.types
