use Rattle.std.proofs.Common.{◌≡◌, ◌≤◌, take}
use Rattle.csv_tables.specs.Held.{special_in}
use Rattle.csv_tables.proofs.plain.special_in.Given as goal

abbrev pub invariant-loop-byte : goal.invariant-loop-byte
invariant-loop-byte l = record {
  counted : l.count ≡ special_in (take l.byte-index l.text);
  few : l.count ≤ l.byte-index;
}
