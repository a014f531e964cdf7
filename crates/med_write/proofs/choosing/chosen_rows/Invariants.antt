use Rattle.std.proofs.Common.{◌≡◌, ◌++◌, map, filter, flat_map, []}
use Rattle.std.specs.Vec.Iter.{into_iter_items}
use Rattle.med_query.specs.Query.{senses}
use Rattle.fdw_api.specs.Calls.{row_of}
use Rattle.med_write.specs.Making.{is_chosen, chosen_faults}
use Rattle.med_write.proofs.choosing.chosen_rows.Given as goal

abbrev pub invariant-loop-row : goal.invariant-loop-row
invariant-loop-row l =
    record {
      all : l.yielded ++ into_iter_items l.row-iterator ≡ into_iter_items l.initial.row-iterator;
      chosen : map row_of l.out.items ≡ filter (is_chosen (senses [] l.conditions)) (map row_of l.yielded);
      no_fault : flat_map (chosen_faults (senses [] l.conditions)) (map row_of l.yielded) ≡ [];
    }
