use Rattle.std.proofs.Common.{◌≡◌, ◌≤◌, ◌++◌, length, take, drop}
use Rattle.jsonl_wrapper.specs.Lines.{lines_at, text_of, spans_from}
use Rattle.jsonl_wrapper.proofs.lines.is_image.Given as goal

abbrev pub invariant-loop-span : goal.invariant-loop-span
invariant-loop-span l = record {
  within : l.place ≤ length l.content;
  text : text_of (lines_at l.content (take l.span-index l.lines)) ++ drop l.place l.content ≡ l.content;
  size : length (text_of (lines_at l.content (take l.span-index l.lines))) ≡ l.place;
  places : take l.span-index l.lines ≡ spans_from 0 (lines_at l.content (take l.span-index l.lines));
}
