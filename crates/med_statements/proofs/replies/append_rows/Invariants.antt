use Rattle.std.proofs.Common.{◌≡◌, ◌≤◌, ◌++◌, map, take, flat_map, vec_capacity}
use Rattle.med_value.specs.Datum.{tuple}
use Rattle.sql_meaning.specs.Replies.{line, row_line}
use Rattle.med_statements.proofs.replies.append_rows.Given as goal

abbrev pub invariant-loop-row : goal.invariant-loop-row
invariant-loop-row l = record {
  lines : l.out.items ≡ l.fn.out.items ++ flat_map (λ row. line l.sid (row_line row)) (map tuple (take l.row-index l.rows));
  capacity : vec_capacity l.fn.out ≤ vec_capacity l.out;
}
