use Rattle.std.proofs.Common.{◌≡◌, map, take}
use Rattle.fdw_api.specs.Kinds.{column_of}
use Rattle.wrapper_tests.proofs.orders.columns.Given as goal

abbrev pub invariant-loop-kind : goal.invariant-loop-kind
invariant-loop-kind l = map (λ c. c.kind) (map column_of l.columns.items) ≡ take l.kind-index l.kinds
