use Rattle.std.proofs.Common.{◌≡◌, map, filter, drop}
use Rattle.bind_names.specs.Meaning.{is_named}
use Rattle.bind_query.specs.Shown.{output_of}
use Rattle.bind_query.proofs.keys.first_named.Given as goal

abbrev pub invariant-loop-output : goal.invariant-loop-output
invariant-loop-output l = filter (is_named l.name) (map output_of l.outputs) ≡ filter (is_named l.name) (map output_of (drop l.output-index l.outputs))
