use Rattle.std.proofs.Common.{◌≡◌, ◌++◌, true, map, take, drop}
use Rattle.std.specs.List.{list_all}
use Rattle.jsonl_wrapper.specs.Lines.{moved, is_movable}
use Rattle.jsonl_wrapper.proofs.exchange.move_each.Given as goal

abbrev pub invariant-loop-span : goal.invariant-loop-span
invariant-loop-span l = record {
  movable : list_all (is_movable l.from l.to) (drop l.span-index l.initial.spans) ≡ true;
  spans : l.spans ≡ map (moved l.from l.to) (take l.span-index l.initial.spans) ++ drop l.span-index l.initial.spans;
}
