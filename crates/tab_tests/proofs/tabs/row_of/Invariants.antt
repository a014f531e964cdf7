use Rattle.std.proofs.Common.{◌≡◌, map, take}
use Rattle.med_value.specs.Datum.{datum}
use Rattle.tab_tests.specs.Tabs.{cell_of}
use Rattle.tab_tests.proofs.tabs.row_of.Given as goal

abbrev pub invariant-loop-field : goal.invariant-loop-field
invariant-loop-field l = map datum l.cells.items ≡ map cell_of (map (λ x. x.now) (take l.field-index l.field-items))
