-- The rows that stay of a list, where others are taken out.
use Rattle.std.specs.Prelude.{Bool, if◌then◌else◌, List, [], ◌∷◌}
use Rattle.med_value.specs.declared.value.Row.{Row}

-- the rows that are not marked as gone; those behind the last mark stay
abbrev pub stay : List Row → List Bool → List Row
stay [] gone = []
stay (r ∷ rows) [] = r ∷ stay rows []
stay (r ∷ rows) (g ∷ gone) = if g then stay rows gone else r ∷ stay rows gone
