use Rattle.std.proofs.Common.{◌≡◌, map, take}
use Rattle.med_value.specs.Datum.{tuple}
use Rattle.tab_tests.specs.Tabs.{text_of}
use Rattle.tab_tests.proofs.tabs.text_of.Given as goal

abbrev pub invariant-loop-row : goal.invariant-loop-row
invariant-loop-row l = l.text.items ≡ text_of (map tuple (take l.row-index l.rows))
