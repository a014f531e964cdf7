use Rattle.std.proofs.Common.{◌≡◌, drop, nat_eq}
use Rattle.std.specs.List.{list_any}
use Rattle.jsonl_wrapper.proofs.notes.is_clean.Given as goal

abbrev pub invariant-loop-byte : goal.invariant-loop-byte
invariant-loop-byte l = list_any (nat_eq 0) l.fn.text ≡ list_any (nat_eq 0) (drop l.byte-index l.byte-items)
