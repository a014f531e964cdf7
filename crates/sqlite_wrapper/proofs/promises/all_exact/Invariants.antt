use Rattle.std.proofs.Common.{◌≡◌, length}
use Rattle.fdw_api.specs.Wishes.{all_exact}
use Rattle.sqlite_wrapper.proofs.promises.all_exact.Given as goal

abbrev pub invariant-loop-answer : goal.invariant-loop-answer
invariant-loop-answer l = all_exact l.initial.answers ≡ all_exact l.answers

abbrev pub decreases-loop-answer : goal.decreases-loop-answer
decreases-loop-answer l = length l.answers
