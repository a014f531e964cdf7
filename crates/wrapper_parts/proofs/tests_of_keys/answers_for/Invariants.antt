use Rattle.std.proofs.Common.{◌≡◌, true, map, length, take}
use Rattle.fdw_api.specs.Scan.{restriction_form}
use Rattle.wrapper_parts.specs.Ranges.{only_key_tests, answer_of}
use Rattle.wrapper_parts.proofs.tests_of_keys.answers_for.Given as goal

abbrev pub invariant-loop-restriction : goal.invariant-loop-restriction
invariant-loop-restriction l = record {
  allowed : only_key_tests (map restriction_form (take l.restriction-index l.offered)) l.answers.items ≡ true;
  exact : l.answers.items ≡ map answer_of (map restriction_form (take l.restriction-index l.offered));
  each : length l.answers.items ≡ l.restriction-index;
}
