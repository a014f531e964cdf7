-- What a step picks where the world leaves it open: of unknown bytes some, or that there is no blob; of the query of an INSERT one answer,
-- if there is one; and of the table that is written under which ids its source has the rows, and in which order it gives them.
use Rattle.std.specs.Prelude.{◌≡◌, List, [], map, Option, None, IsPermutation, nat_eq}
use Rattle.std.specs.List.{IsDistinct}
use Rattle.med_value.specs.Datum.{Tuple}
use Rattle.med_value.specs.declared.cause.Cause.{Cause}
use Rattle.med_query.specs.Prelude.{Query, Tables, IsAnswer, IsShownCause}
use Rattle.fdw_api.specs.Prelude.{Entry, Held, held, TableRow, GivenRow, plain_spec, given_row}

pub record Pick : Type 0 where
  -- what a table's source holds under its remote name
  pub entry : Option Entry
  -- the rows that an INSERT's query gives
  pub answer : List Tuple
  -- the rows of the table that is written, as its source has them
  pub rows : List TableRow
  -- the same as a scan gives them
  pub read : List GivenRow

-- where nothing is open
abbrev pub no_pick : Pick
no_pick = record { entry = None; answer = []; rows = []; read = [] }

-- one answer; or no row, where a cause stands against the query's run
pub data PicksAnswer (q : Query) (db : Tables) (rows : List Tuple) : Type 0 where
  answers : IsAnswer q db rows → PicksAnswer q db rows
  has_none : (c : Cause) → IsShownCause q db c → rows ≡ [] → PicksAnswer q db rows

-- these rows, each under an id of its own
pub record IsNumbering (rows : List Held) (numbered : List TableRow) : Type 0 where
  pub same : IsPermutation rows (map held numbered)
  pub once : IsDistinct nat_eq (map (λ r. r.id) numbered)

-- a row as a scan of whole rows gives it
abbrev pub as_given : TableRow → GivenRow
as_given r = given_row (plain_spec [] []) r
