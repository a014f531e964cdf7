use Rattle.std.proofs.Common.{◌≡◌, drop}
use Rattle.bind_types.specs.Typing.{ends_in_escape}
use Rattle.bind_types.proofs.Escapes.{escaping}
use Rattle.bind_types.proofs.typing.check_pattern.Given as goal

abbrev pub invariant-loop-byte : goal.invariant-loop-byte
invariant-loop-byte l = ends_in_escape (escaping l.escapes (drop l.byte-index l.pattern)) ≡ ends_in_escape l.pattern
