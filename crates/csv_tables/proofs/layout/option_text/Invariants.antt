use Rattle.std.proofs.Common.{◌≡◌, length, map}
use Rattle.fdw_api.specs.Kinds.{option_form}
use Rattle.csv_tables.specs.Shapes.{option_text}
use Rattle.csv_tables.proofs.layout.option_text.Given as goal

abbrev pub invariant-loop-option : goal.invariant-loop-option
invariant-loop-option l = option_text l.key (map option_form l.initial.options) ≡ option_text l.key (map option_form l.options)

abbrev pub decreases-loop-option : goal.decreases-loop-option
decreases-loop-option l = length l.options
