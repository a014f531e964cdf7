-- What a query answers, without where it lies in memory.
use Rattle.std.specs.Prelude.{string_bytes}
use Rattle.tri_expr.specs.Tree.{tree}
use Rattle.bind_names.specs.Meaning.{Output}
use Rattle.bind_query.specs.declared.outputs.Shown.{Shown}

abbrev pub output_of : Shown → Output
output_of s = record { name = string_bytes s.name; value = tree s.value }
