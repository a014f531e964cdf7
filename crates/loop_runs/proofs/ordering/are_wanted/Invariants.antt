use Rattle.std.proofs.Common.{Contains}
use Rattle.std.specs.List.{AllWithin}
use Rattle.fdw_api.specs.declared.wishes.OrderKey.{OrderKey}
use Rattle.loop_runs.proofs.ordering.are_wanted.Given as goal

abbrev pub invariant-loop-key : goal.invariant-loop-key
invariant-loop-key l = AllWithin (λ (k : OrderKey). Contains l.wanted k.column) l.order 0 l.key-index
