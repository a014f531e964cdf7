use Rattle.std.proofs.Common.{◌≡◌, map, drop}
use Rattle.std.specs.List.{list_any}
use Rattle.med_query.specs.Form.{core_form}
use Rattle.sql_meaning.specs.Sizes.{is_large_core}
use Rattle.med_statements.proofs.sizes.some_large.Given as goal

abbrev pub invariant-loop-core : goal.invariant-loop-core
invariant-loop-core l = list_any is_large_core (map core_form (drop l.core-index l.cores)) ≡ list_any is_large_core (map core_form l.cores)
