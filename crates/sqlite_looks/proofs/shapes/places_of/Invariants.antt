use Rattle.std.proofs.Common.{◌≡◌, ◌∷◌, ◌++◌, map, length}
use Rattle.std.specs.List.{list_all}
use Rattle.sqlite_schema.specs.Names.{place_of}
use Rattle.sqlite_looks.specs.Shapes.{is_there}
use Rattle.sqlite_looks.proofs.shapes.places_of.Given as goal

-- the places so far, and those of what is left, are all; and what is left decides whether all are there
abbrev pub invariant-loop-at : goal.invariant-loop-at
invariant-loop-at l = record {
  places : l.places.items ++ map (place_of l.table) l.left ≡ 0 ∷ map (place_of l.table) l.initial.left;
  there : list_all (is_there l.table) l.initial.left ≡ list_all (is_there l.table) l.left;
}

abbrev pub decreases-loop-at : goal.decreases-loop-at
decreases-loop-at l = length l.left
