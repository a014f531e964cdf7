use Rattle.std.proofs.Common.{◌≡◌, ◌++◌, map, take, []}
use Rattle.med_value.specs.Datum.{datum, tuple}
use Rattle.tri_expr.specs.Prelude.{over, value_of, fault_list}
use Rattle.med_query.specs.Query.{senses}
use Rattle.query_answer.proofs.values.push_values.Given as goal

abbrev pub invariant-loop-part : goal.invariant-loop-part
invariant-loop-part l =
    record {
      values : map datum l.cells.items ≡ map datum l.fn.cells.items ++ map value_of (over (senses (map datum l.params) (take l.part-index l.parts)) (map tuple l.class));
      no_fault : fault_list (over (senses (map datum l.params) (take l.part-index l.parts)) (map tuple l.class)) ≡ [];
    }
