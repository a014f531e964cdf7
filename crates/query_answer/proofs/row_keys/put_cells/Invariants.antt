use Rattle.std.proofs.Common.{◌≡◌, length, map, take}
use Rattle.med_value.specs.Datum.{datum, tuple}
use Rattle.med_query.specs.Query.{key_of}
use Rattle.query_answer.proofs.row_keys.put_cells.Given as goal

abbrev pub invariant-loop-number : goal.invariant-loop-number
invariant-loop-number l =
    record {
      long : length l.cells.items ≡ length l.columns;
      done : map datum (take l.number l.cells.items) ≡ key_of (take l.number l.columns) (tuple l.row);
    }
