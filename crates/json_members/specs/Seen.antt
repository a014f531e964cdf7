-- What is seen of a value that is not held whole.
use Rattle.std.specs.Prelude.{ℕ, ℤ, Bool, true, false, List, Option, Some, None, is_some, option_and_then}
use Rattle.json.specs.Token.{Token}
use Rattle.serde_json.specs.Data.{Data, null, boolean, number, string, array, object}
use Rattle.serde_json.specs.Find.{as_i64, as_object}

pub data Seen : Type 0 where
  nothing : Seen
  logic : Bool → Seen
  whole : ℤ → Seen
  real : Seen
  chars : List ℕ → Seen
  nested : Seen

-- a number by its `as_i64`
abbrev pub of_number : Option ℤ → Seen
of_number None = real
of_number (Some z) = whole z

abbrev pub seen : Data → Seen
seen null = nothing
seen (boolean b) = logic b
seen (number n) = of_number (as_i64 n)
seen (string s) = chars s
seen (array ds) = nested
seen (object ms) = nested

-- what was read is an object
abbrev pub is_object : Option Data → Bool
is_object o = is_some (option_and_then as_object o)

-- an object begins
abbrev pub is_brace : Token → Bool
is_brace Token.begin_object = true
is_brace Token.end_object = false
is_brace Token.begin_array = false
is_brace Token.end_array = false
is_brace (Token.key s) = false
is_brace (Token.string s) = false
is_brace (Token.number s) = false
is_brace (Token.boolean b) = false
is_brace Token.null = false
is_brace Token.bad = false
