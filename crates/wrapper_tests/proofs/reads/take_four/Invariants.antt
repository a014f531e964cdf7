use Rattle.std.proofs.Common.{◌≡◌, ℕ}
use Rattle.fdw_api.specs.Prelude.{table_of, IsOpen}
use Rattle.wrapper_tests.proofs.reads.take_four.Given as goal

abbrev pub invariant-loop : goal.invariant-loop
invariant-loop g l = record {
  scan : IsOpen (g.W.Wrapper.meaning l.source) l.ticket.number;
  tables : (t : ℕ) → table_of (g.W.Wrapper.meaning l.source) t ≡ table_of (g.W.Wrapper.meaning l.fn.source) t;
}
