use Rattle.std.proofs.Common.{◌≡◌, map, drop, bytes_eq}
use Rattle.std.specs.List.{list_any}
use Rattle.bind_names.specs.Seen.{name_of}
use Rattle.bind_names.proofs.from.is_among.Given as goal

abbrev pub invariant-loop-entry : goal.invariant-loop-entry
invariant-loop-entry l = list_any (bytes_eq l.name) (map name_of l.scope) ≡ list_any (bytes_eq l.name) (map name_of (drop l.entry-index l.scope))
