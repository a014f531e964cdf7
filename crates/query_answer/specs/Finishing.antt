-- What DISTINCT makes of the outputs of a core, and ORDER BY, OFFSET and LIMIT of those of a query.
use Rattle.std.specs.Prelude.{◌≡◌, ℕ, Bool, if◌then◌else◌, List, map, drop, Option, IsPermutation, IsSorted}
use Rattle.std.specs.Ordering.{on}
use Rattle.med_value.specs.Datum.{Tuple}
use Rattle.med_query.specs.Prelude.{distinct, Direction, Output, output_eq, keys_cmp, limited}

abbrev pub made_unique : Bool → List Output → List Output
made_unique unique outs = if unique then distinct output_eq outs else outs

-- the rows are what OFFSET and LIMIT leave of the outputs in an order that ORDER BY allows
pub record Finishes (directions : List Direction) (offset : ℕ) (limit : Option ℕ)
    (outs : List Output) (rows : List Tuple) : Type 0 where
  pub ordered : List Output
  pub same : IsPermutation outs ordered
  pub sorted : IsSorted (on (λ o. o.0) (keys_cmp directions)) ordered
  pub shown : rows ≡ limited limit (drop offset (map (λ o. o.1) ordered))
