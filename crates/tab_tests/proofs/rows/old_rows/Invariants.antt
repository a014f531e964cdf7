use Rattle.std.proofs.Common.{◌≡◌, ◌++◌, map}
use Rattle.med_value.specs.Datum.{tuple}
use Rattle.tab_tests.specs.Kept.{left_by}
use Rattle.tab_tests.proofs.rows.old_rows.Given as goal

abbrev pub invariant-loop-fate : goal.invariant-loop-fate
invariant-loop-fate l = map tuple l.left.items ++ left_by l.fate-iterator.rest.items (map tuple l.rows)
    ≡ left_by l.initial.fate-iterator.rest.items (map tuple l.initial.rows)
