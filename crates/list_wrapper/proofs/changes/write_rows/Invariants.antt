use Rattle.std.proofs.Common.{◌≡◌, ◌<◌, ◌≤◌, ◌++◌, ℕ, drop, length, get_or}
use Rattle.med_value.specs.declared.value.Row.{Row}
use Rattle.list_wrapper.specs.Changes.{row_changed, fresh_rows}
use Rattle.list_wrapper.proofs.changes.write_rows.Given as goal

abbrev pub invariant-loop-change : goal.invariant-loop-change
invariant-loop-change l = record {
  room : length (fresh_rows l.change-iterator.rest.items) ≤ l.rows.room;
  longer : length l.initial.rows.items ≤ length l.rows.items;
  fresh : drop (length l.initial.rows.items) l.rows.items ++ fresh_rows l.change-iterator.rest.items ≡ fresh_rows l.initial.change-iterator.rest.items;
  changed : (i : ℕ) (d : Row) → i < length l.initial.rows.items → row_changed i l.change-iterator.rest.items (get_or l.rows.items i d) ≡ row_changed i l.initial.change-iterator.rest.items (get_or l.initial.rows.items i d);
}
