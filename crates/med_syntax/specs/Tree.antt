-- Names, without where they lie in memory.
use Rattle.std.specs.Prelude.{ℕ, List}

-- the bytes of a name: folded to lower case where it was not quoted
abbrev pub Name : Type 0
Name = List ℕ
