use Rattle.std.proofs.Common.{◌≡◌, ℕ, ◌-◌, ◌≤◌, ◌<◌, length, get_or}
use Rattle.std.specs.Prelude.{true}
use Rattle.med_lexer.specs.Cutting.{in_class}
use Rattle.med_lexer.proofs.bytes.run_len.Given as goal

abbrev pub invariant-loop-n : goal.invariant-loop-n
invariant-loop-n l = record { in_range : l.n ≤ length l.bytes; all : (i : ℕ) → i < l.n → in_class l.class (get_or l.bytes i 0) ≡ true }

abbrev pub decreases-loop-n : goal.decreases-loop-n
decreases-loop-n l = length l.bytes - l.n
