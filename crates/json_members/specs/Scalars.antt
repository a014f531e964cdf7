-- What a `Scalar` says of a value.
use Rattle.json_members.specs.Seen.{Seen, nothing, logic, whole, real, chars, nested}
use Rattle.json_members.specs.declared.scalar.Scalar.{Scalar}
use Rattle.json_members.specs.declared.scalar.Scalar.TheVariants.{Null, Bool, Whole, Real, Text, Nested}

abbrev pub seen_of : Scalar → Seen
seen_of Null = nothing
seen_of (Bool b) = logic b
seen_of (Whole n) = whole n
seen_of Real = real
seen_of (Text s) = chars s.now
seen_of Nested = nested
