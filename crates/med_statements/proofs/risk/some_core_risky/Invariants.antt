use Rattle.std.proofs.Common.{◌≡◌, map, drop}
use Rattle.std.specs.List.{list_any}
use Rattle.med_query.specs.Form.{core_form, is_risky_core}
use Rattle.med_statements.proofs.risk.some_core_risky.Given as goal

abbrev pub invariant-loop-core : goal.invariant-loop-core
invariant-loop-core l = list_any is_risky_core (map core_form l.cores) ≡ list_any is_risky_core (map core_form (drop l.core-index l.cores))
