use Rattle.std.proofs.Common.{◌≡◌, map, drop}
use Rattle.bind_names.specs.Prelude.{places_named, with_places}
use Rattle.bind_names.specs.declared.scope.FoundPlaces.TheVariants.{Nothing}
use Rattle.bind_query.specs.Shown.{output_of}
use Rattle.bind_query.proofs.keys.places_named.Given as goal

abbrev pub invariant-loop-place : goal.invariant-loop-place
invariant-loop-place l =
    with_places Nothing (places_named 0 l.name (map output_of l.outputs)) ≡ with_places l.found (places_named l.place l.name (map output_of (drop l.place l.outputs)))
