-- What staged changes make of the rows of a list.
use Rattle.std.specs.Prelude.{◌≡◌, ◌<◌, ℕ, Bool, true, false, if◌then◌else◌, List, [], ◌∷◌, ◌++◌, map, length, nat_eq}
use Rattle.med_value.specs.Prelude.{tuple, row_limit}
use Rattle.med_value.specs.declared.value.Row.{Row}
use Rattle.med_value.specs.declared.cause.Cause.TheVariants.{TooLarge}
use Rattle.fdw_api.specs.Prelude.{Held, Change, Inserts, Updates, Deletes, Staging}
use Rattle.fdw_api.specs.declared.interface.Fault.{Fault}
use Rattle.fdw_api.specs.declared.interface.Fault.TheVariants.{NoMemory, Source, Refused}
use Rattle.list_wrapper.specs.declared.changes.ListChange.{ListChange}
use Rattle.list_wrapper.specs.declared.changes.ListChange.TheVariants.{Insert, Update, Delete}
use Rattle.list_wrapper.specs.declared.changes.ListWrite.{ListWrite}

abbrev pub change_is : ListChange → Change
change_is (Insert r) = Inserts (tuple r)
change_is (Update id r) = Updates id (tuple r)
change_is (Delete id) = Deletes id

abbrev pub write_is : ListWrite → Staging
write_is w = record { table = w.table; changes = map change_is w.changes.items; broken = w.broken }

-- a write with one change more, and one that is broken
abbrev pub with_change : ListWrite → Change → Staging
with_change w c = record { table = w.table; changes = map change_is w.changes.items ++ c ∷ []; broken = w.broken }

abbrev pub broken_write : ListWrite → Staging
broken_write w = record { table = w.table; changes = map change_is w.changes.items; broken = true }

-- a row of a list has no line
abbrev pub as_held : Row → Held
as_held r = record { cells = tuple r; origin = [] }

abbrev pub is_insert : ListChange → Bool
is_insert (Insert r) = true
is_insert (Update id r) = false
is_insert (Delete id) = false

abbrev pub is_delete : ListChange → Bool
is_delete (Insert r) = false
is_delete (Update id r) = false
is_delete (Delete id) = true

abbrev pub is_yes : Bool → Bool
is_yes b = b

-- whether the row of an id is gone after these changes, where it was so before them or not: the last change that names it counts
abbrev pub gone_after : ℕ → List ListChange → Bool → Bool
gone_after id [] gone = gone
gone_after id (Insert r ∷ cs) gone = gone_after id cs gone
gone_after id (Update j r ∷ cs) gone = gone_after id cs (if nat_eq j id then false else gone)
gone_after id (Delete j ∷ cs) gone = gone_after id cs (if nat_eq j id then true else gone)

-- the row of an id after these changes, where it is not gone
abbrev pub row_changed : ℕ → List ListChange → Row → Row
row_changed id [] now = now
row_changed id (Insert r ∷ cs) now = row_changed id cs now
row_changed id (Update j r ∷ cs) now = row_changed id cs (if nat_eq j id then r else now)
row_changed id (Delete j ∷ cs) now = row_changed id cs now

-- the new rows, in the changes' order
abbrev pub fresh_rows : List ListChange → List Row
fresh_rows [] = []
fresh_rows (Insert r ∷ cs) = r ∷ fresh_rows cs
fresh_rows (Update j r ∷ cs) = fresh_rows cs
fresh_rows (Delete j ∷ cs) = fresh_rows cs

-- why a write that would leave these rows is refused: memory, or that they are too many
abbrev pub StandsFor : Fault → List Held → Type 0
StandsFor NoMemory after = Unit {0}
StandsFor Source after = ⊥
StandsFor (Refused cause) after = (cause ≡ TooLarge) × (row_limit < length after)
