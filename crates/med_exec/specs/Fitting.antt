-- When the rows of an answer may be inserted: the rows that are made of them are of the columns' types.
use Rattle.std.specs.Prelude.{ℕ, Bool, List, map, Option}
use Rattle.std.specs.List.{list_all}
use Rattle.med_value.specs.Datum.{Datum, Tuple}
use Rattle.med_value.specs.declared.value.ColType.{ColType}
use Rattle.tri_expr.specs.Outcome.{value_of}
use Rattle.fdw_api.specs.Scan.{row_fits}
use Rattle.med_write.specs.declared.write.WrittenColumn.{WrittenColumn}
use Rattle.med_write.specs.Writing.{outcomes_of, value_for, new_cells}

-- the types of the columns that are written
abbrev pub kinds_written : List WrittenColumn → List ColType
kinds_written columns = map (λ (c : WrittenColumn). c.kind) columns

-- what an answered row has for a column
abbrev pub value_placed : Tuple → Option ℕ → Datum
value_placed r place = value_of (value_for (outcomes_of r) place)

-- the row that an INSERT makes of an answered one
abbrev pub row_placed : List (Option ℕ) → Tuple → Tuple
row_placed places r = map value_of (new_cells places (outcomes_of r))

-- each of them is of the columns' types
abbrev pub answer_fits : List ColType → List (Option ℕ) → List Tuple → Bool
answer_fits kinds places answer = list_all (λ r. row_fits kinds (row_placed places r)) answer
