use Rattle.std.proofs.Common.{◌≡◌, ◌+◌, ◌≤◌, drop, map, length}
use Rattle.jsonl_wrapper.specs.Fields.{reader_of}
use Rattle.jsonl_wrapper.specs.Wholes.{whole_readers}
use Rattle.jsonl_wrapper.proofs.wholes.count_wholes.Given as goal

abbrev pub invariant-loop-field : goal.invariant-loop-field
invariant-loop-field l = record {
  count : l.count + length (whole_readers (map reader_of (drop l.field-index l.fields))) ≡ length (whole_readers (map reader_of l.fields));
  within : l.count ≤ l.field-index;
}
