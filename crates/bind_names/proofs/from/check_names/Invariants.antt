use Rattle.std.proofs.Common.{◌≡◌, map, drop}
use Rattle.bind_names.specs.Naming.{alias_causes}
use Rattle.bind_names.specs.Seen.{name_of}
use Rattle.bind_names.proofs.from.check_names.Given as goal

abbrev pub invariant-loop-place : goal.invariant-loop-place
invariant-loop-place l = alias_causes (map name_of l.scope) ≡ alias_causes (map name_of (drop l.place l.scope))
