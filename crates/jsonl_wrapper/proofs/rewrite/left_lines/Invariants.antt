use Rattle.std.proofs.Common.{◌≡◌, ◌≤◌, ◌++◌, ℕ, List, length, drop}
use Rattle.std.specs.List.Sorted.{IsStrictlySortedBy}
use Rattle.std.specs.Ordering.{nat_cmp}
use Rattle.std.specs.Map.{keys_of}
use Rattle.jsonl_wrapper.specs.Tables.{lines_in}
use Rattle.jsonl_wrapper.specs.Changes.{Leads}
use Rattle.jsonl_wrapper.proofs.ChangeLaws.{Behind, left_from}
use Rattle.jsonl_wrapper.proofs.rewrite.left_lines.Given as goal

abbrev pub invariant-loop-id : goal.invariant-loop-id
invariant-loop-id l = record {
  within : l.middle.to ≤ length l.table.lines.items;
  behind : Behind l.middle.to l.id-iterator;
  sorted : IsStrictlySortedBy nat_cmp (keys_of l.id-iterator);
  leads : (lines : List (List ℕ)) × Leads l.table l.middle lines
      × (lines ++ left_from l.id-iterator l.middle.to (drop l.middle.to (lines_in l.table)) ≡ left_from l.initial.id-iterator 0 (lines_in l.table));
}
