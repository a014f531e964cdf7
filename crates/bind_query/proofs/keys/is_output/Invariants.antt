use Rattle.std.proofs.Common.{◌≡◌, map, drop}
use Rattle.std.specs.List.{list_any}
use Rattle.bind_names.specs.Meaning.{is_named}
use Rattle.bind_query.specs.Shown.{output_of}
use Rattle.bind_query.proofs.keys.is_output.Given as goal

abbrev pub invariant-loop-output : goal.invariant-loop-output
invariant-loop-output l = list_any (is_named l.name) (map output_of l.outputs) ≡ list_any (is_named l.name) (map output_of (drop l.output-index l.outputs))
