use Rattle.std.proofs.Common.{◌≡◌, ◌≤◌, ◌+◌, ◌-◌, ◌++◌, true, not, map, length}
use Rattle.std.specs.List.{filter, list_all}
use Rattle.jsonl_wrapper.specs.Lines.{content_lines, lines_at, is_blank, pieces_from}
use Rattle.jsonl_wrapper.specs.Fields.{reader_of}
use Rattle.jsonl_wrapper.specs.Objects.{is_object, is_typed}
use Rattle.jsonl_wrapper.specs.Wholes.{whole_is, wholes_of}
use Rattle.jsonl_wrapper.proofs.contents.read_lines.Given as goal

abbrev pub invariant-loop-start : goal.invariant-loop-start
invariant-loop-start l = record {
  within : l.start ≤ length l.content + 1;
  found : lines_at l.content l.spans.items ++ filter (λ line. not (is_blank line)) (pieces_from l.content l.start) ≡ content_lines l.content;
  wholes : map whole_is l.wholes.items ≡ wholes_of (map reader_of l.fields) (lines_at l.content l.spans.items);
  objects : list_all is_object (lines_at l.content l.spans.items) ≡ true;
  typed : list_all (is_typed (map reader_of l.fields)) (lines_at l.content l.spans.items) ≡ true;
  few : length l.spans.items ≤ 1000000;
}

abbrev pub decreases-loop-start : goal.decreases-loop-start
decreases-loop-start l = length l.content + 1 - l.start
