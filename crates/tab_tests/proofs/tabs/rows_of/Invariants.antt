use Rattle.std.proofs.Common.{◌≡◌, map, take}
use Rattle.med_value.specs.Datum.{tuple}
use Rattle.tab_tests.specs.Tabs.{line_cells}
use Rattle.tab_tests.proofs.tabs.rows_of.Given as goal

abbrev pub invariant-loop-line : goal.invariant-loop-line
invariant-loop-line l = map tuple l.rows.items ≡ map line_cells (map (λ x. x.now) (take l.line-index l.line-items))
