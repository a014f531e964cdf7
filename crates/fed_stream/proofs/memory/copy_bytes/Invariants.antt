use Rattle.std.proofs.Common.{◌≡◌, ◌<◌, ◌≤◌, ◌-◌, length, take, map}
use Rattle.fed_stream.specs.declared.source.Arrival.TheVariants.{Byte}
use Rattle.fed_stream.proofs.memory.copy_bytes.Given as goal

abbrev pub invariant-loop-count : goal.invariant-loop-count
invariant-loop-count l = record {
  some : 0 < l.count;
  within : l.count ≤ length l.comes;
  fits : l.count ≤ length l.piece;
  copied : take l.count l.comes ≡ map Byte (take l.count l.piece);
}

abbrev pub decreases-loop-count : goal.decreases-loop-count
decreases-loop-count l = length l.comes - l.count
