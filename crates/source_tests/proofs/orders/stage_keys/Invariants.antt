use Rattle.std.proofs.Common.{◌≡◌, ◌∷◌, []}
use Rattle.med_value.specs.declared.value.ColType.TheVariants.{Int}
use Rattle.fdw_api.specs.State.{table_of}
use Rattle.source_tests.specs.Writing.{IsWriting}
use Rattle.source_tests.proofs.orders.stage_keys.Given as goal

abbrev pub invariant-loop-key : goal.invariant-loop-key
invariant-loop-key g l = record {
  writing : IsWriting (g.W.Wrapper.meaning l.source) l.fn.table.number (Int ∷ Int ∷ Int ∷ []);
  bound : table_of (g.W.Wrapper.meaning l.source) l.fn.table.number ≡ table_of (g.W.Wrapper.meaning l.fn.source) l.fn.table.number;
}
