use Rattle.std.proofs.Common.{◌≡◌, ◌++◌, true, map, drop}
use Rattle.std.specs.List.{list_all}
use Rattle.jsonl_wrapper.specs.Lines.{moved, is_movable}
use Rattle.jsonl_wrapper.proofs.ranges.push_moved.Given as goal

abbrev pub invariant-loop-span : goal.invariant-loop-span
invariant-loop-span l = record {
  movable : list_all (is_movable l.from l.to) (drop l.span-index l.spans) ≡ true;
  lines : l.lines.items ++ map (moved l.from l.to) (drop l.span-index l.spans) ≡ l.initial.lines.items ++ map (moved l.from l.to) l.spans;
}
