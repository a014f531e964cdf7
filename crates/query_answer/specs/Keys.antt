-- Keys by number, and elements gathered by the number of their key.
use Rattle.std.specs.Prelude.{ℕ, zero, suc, Bool, if◌then◌else◌, List, [], ◌∷◌, ◌++◌, flat_map}
use Rattle.std.specs.Hash as fed
use Rattle.indexmap.specs.IndexSet.{insert_key}
use Rattle.med_value.specs.Datum.{Datum, NoValue, Whole, Chars, Logic, Tuple, tuple}
use Rattle.med_query.specs.Query.{Output}
use Rattle.query_answer.specs.declared.row_keys.RowKey.{RowKey}
use Rattle.query_answer.specs.declared.row_keys.OutputKey.{OutputKey}
use Rattle.query_answer.specs.Staging.{output_of}

-- the values of a row in the columns that group
abbrev pub key_in : RowKey → Tuple
key_in k = tuple k.values

abbrev pub output_in : OutputKey → Output
output_in k = output_of k.output

-- what is fed to a hash of a value, and of values
abbrev pub fed_datum : Datum → List (List ℕ)
fed_datum NoValue = fed.u8 2
fed_datum (Whole n) = fed.i64 n
fed_datum (Chars t) = t ∷ []
fed_datum (Logic b) = fed.bool b

abbrev pub fed_tuple : Tuple → List (List ℕ)
fed_tuple vs = flat_map fed_datum vs

abbrev pub fed_output : Output → List (List ℕ)
fed_output o = fed_tuple o.0 ++ fed_tuple o.1

-- the number of a key: how many known ones stand before the first that is equal
abbrev pub number_in : {K : Type 0} → (K → K → Bool) → List K → K → ℕ
number_in eq [] k = 0
number_in eq (s ∷ ss) k = if eq k s then 0 else suc (number_in eq ss k)

-- the known keys after some more, each once
abbrev pub keys_after : {K : Type 0} → (K → K → Bool) → List K → List K → List K
keys_after eq known [] = known
keys_after eq known (k ∷ ks) = keys_after eq (insert_key eq known k) ks

-- the numbers of some more keys: a new one has the next number
abbrev pub numbers_after : {K : Type 0} → (K → K → Bool) → List K → List K → List ℕ
numbers_after eq known [] = []
numbers_after eq known (k ∷ ks) = number_in eq known k ∷ numbers_after eq (insert_key eq known k) ks

-- an element behind those of its number, or alone behind all
abbrev pub put_at : {X : Type 0} → List (List X) → ℕ → X → List (List X)
put_at [] i x = (x ∷ []) ∷ []
put_at (xs ∷ xss) zero x = (xs ++ x ∷ []) ∷ xss
put_at (xs ∷ xss) (suc i) x = xs ∷ put_at xss i x

-- elements gathered by their numbers
abbrev pub gathered : {X : Type 0} → List (List X) → List ℕ → List X → List (List X)
gathered groups [] xs = groups
gathered groups (i ∷ is) [] = groups
gathered groups (i ∷ is) (x ∷ xs) = gathered (put_at groups i x) is xs
