-- What a class is sorted by and what it shows, where conditions keep it.
use Rattle.std.specs.Prelude.{◌≡◌, if◌then◌else◌, List, [], ◌∷◌, ◌++◌, map, take, drop, Option, Some, None}
use Rattle.med_value.specs.Datum.{Tuple, datum}
use Rattle.query_answer.specs.declared.staged.Staged.{Staged}
use Rattle.tri_expr.specs.declared.expr.Fault.{Fault}
use Rattle.tri_expr.specs.Prelude.{over, value_of, OnClass, is_in, faults_told, fault_list}
use Rattle.med_query.specs.declared.select.SelectCore.{SelectCore}
use Rattle.med_query.specs.Query.{Output, keeps, on_row, senses, output_faults}

-- what an output shows, and what it is sorted by
abbrev pub shown_by : Staged → Tuple
shown_by s = take s.width (map datum s.cells.items)

abbrev pub sorted_by : Staged → Tuple
sorted_by s = drop s.width (map datum s.cells.items)

abbrev pub output_of : Staged → Output
output_of s = (sorted_by s, shown_by s)

-- an output or none, as a list of outputs
abbrev pub outputs_in : Option Staged → List Output
outputs_in None = []
outputs_in (Some s) = output_of s ∷ []

abbrev pub class_output : List OnClass → List OnClass → List Tuple → Output
class_output keys items class = (map value_of (over keys class), map value_of (over items class))

-- the output of a class where the conditions keep it, else nothing
abbrev pub class_staged : List OnClass → List OnClass → List OnClass → List Tuple → List Output
class_staged conditions keys items class = if is_in (over conditions class) then class_output keys items class ∷ [] else []

-- the faults of the conditions, and where they keep the class those of its order keys and items
abbrev pub class_told : List OnClass → List OnClass → List OnClass → List Tuple → List Fault
class_told conditions keys items class =
    faults_told (over conditions class) ++ (if is_in (over conditions class) then output_faults keys items class else [])

-- the same of the class of one row
abbrev pub row_staged : List OnClass → List OnClass → List OnClass → Tuple → List Output
row_staged conditions keys items r = class_staged conditions keys items (r ∷ [])

abbrev pub row_told_all : List OnClass → List OnClass → List OnClass → Tuple → List Fault
row_told_all conditions keys items r = class_told conditions keys items (r ∷ [])

-- the same by the conditions, keys and items of a core
abbrev pub outputs_by : SelectCore → Tuple → List Output
outputs_by s r = row_staged (senses [] s.conditions.items) (senses [] s.keys.items) (senses [] s.items.items) r

abbrev pub faults_by : SelectCore → Tuple → List Fault
faults_by s r = row_told_all (senses [] s.conditions.items) (senses [] s.keys.items) (senses [] s.items.items) r

-- no order key and no item of a core has a fault, over whatever class
abbrev pub HasNoFault : SelectCore → Type 0
HasNoFault s = (class : List Tuple) → output_faults (senses [] s.keys.items) (senses [] s.items.items) class ≡ []

-- a row that WHERE keeps, and the faults of WHERE on it
abbrev pub row_kept : List OnClass → Tuple → List Tuple
row_kept conditions r = if keeps conditions r then r ∷ [] else []

abbrev pub where_told : List OnClass → Tuple → List Fault
where_told conditions r = faults_told (on_row conditions r)

-- the faults of aggregates' arguments on a row
abbrev pub arguments_told : List OnClass → Tuple → List Fault
arguments_told arguments r = fault_list (on_row arguments r)
