-- A range of a list that is about to be replaced.
use Rattle.std.specs.Prelude.{List, ◌++◌, take, drop}
use Rattle.wrapper_parts.specs.declared.splice.Splice.{Splice}

-- the list as it is
abbrev pub before_of : {T : Type 0} → Splice T → List T
before_of s = s.items.items

-- its items in front of the range
abbrev pub front_of : {T : Type 0} → Splice T → List T
front_of s = take s.from s.items.items

-- the items that are to stand in the range's place
abbrev pub middle_of : {T : Type 0} → Splice T → List T
middle_of s = s.middle.items

-- the list's items behind the range
abbrev pub back_of : {T : Type 0} → Splice T → List T
back_of s = drop s.to s.items.items

-- the list with the middle in the range's place
abbrev pub after_of : {T : Type 0} → Splice T → List T
after_of s = front_of s ++ middle_of s ++ back_of s
