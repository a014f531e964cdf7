use Rattle.std.proofs.Common.{◌≡◌, ◌≤◌, ◌++◌, drop, length}
use Rattle.fed_hub.specs.Bare.{bare, bare_from}
use Rattle.fed_hub.proofs.bare.put_bare.Given as goal

abbrev pub invariant-loop-byte : goal.invariant-loop-byte
invariant-loop-byte l = record {
  told : l.out.items ++ bare_from l.is_number (drop l.byte-index l.reply) ≡ l.fn.out.items ++ bare l.reply;
  longer : length l.fn.out.items ≤ length l.out.items;
}
