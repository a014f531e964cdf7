use Rattle.std.proofs.Common.{◌≡◌, ◌++◌, map, drop}
use Rattle.fed_words.specs.Places.{AreGood, AreRefused, place_in, place_of}
use Rattle.fed_words.specs.declared.places.PlaceFault.{PlaceFault}
use Rattle.fed_words.proofs.places.read_places.Given as goal

-- what is read of the values left is what is read of all
abbrev pub invariant-loop-value : goal.invariant-loop-value
invariant-loop-value l = record {
  read : map place_of l.places.items ++ map (place_in l.kind) (map (λ s. s.now) (drop l.value-index l.values))
      ≡ map place_of l.fn.places.items ++ map (place_in l.kind) (map (λ s. s.now) l.values);
  good : AreGood (map (λ s. s.now) (drop l.value-index l.values)) → AreGood (map (λ s. s.now) l.values);
  bad : (fault : PlaceFault) → AreRefused (map (λ s. s.now) (drop l.value-index l.values)) fault → AreRefused (map (λ s. s.now) l.values) fault;
}
