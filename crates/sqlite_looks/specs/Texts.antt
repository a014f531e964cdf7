-- The texts that read a page of a table, take a row out of it and put one in, as bytes.
use Rattle.std.specs.Prelude.{ℕ, nat_eq, if◌then◌else◌, List, [], ◌∷◌, ◌++◌, codes}

-- each double quote twice
abbrev pub doubled : List ℕ → List ℕ
doubled [] = []
doubled (b ∷ bs) = if nat_eq b 34 then 34 ∷ 34 ∷ doubled bs else b ∷ doubled bs

-- a name in double quotes
abbrev pub quoted : List ℕ → List ℕ
quoted name = 34 ∷ doubled name ++ 34 ∷ []

-- names of columns, each after a comma
abbrev pub listed : List (List ℕ) → List ℕ
listed [] = []
listed (name ∷ names) = codes ", " ++ quoted name ++ listed names

-- what is read of a table: the rowid and these columns
abbrev pub selected : List ℕ → List (List ℕ) → List ℕ
selected rowid_name columns = codes "SELECT " ++ rowid_name ++ listed columns

-- which rows: those whose rowids are from ?1 to ?2
abbrev pub in_range : List ℕ → List ℕ
in_range rowid_name = codes " WHERE " ++ rowid_name ++ codes " >= ?1 AND " ++ rowid_name ++ codes " <= ?2"

-- in which order, and how many: the first 64 in the order of their rowids
abbrev pub first_rows : List ℕ → List ℕ
first_rows rowid_name = codes " ORDER BY " ++ rowid_name ++ codes " LIMIT 64"

-- the text that reads a page of a table: the rowid and these columns
abbrev pub page_text : List ℕ → List ℕ → List (List ℕ) → List ℕ
page_text rowid_name table columns =
    selected rowid_name columns ++ codes " FROM " ++ quoted table ++ in_range rowid_name ++ first_rows rowid_name

-- the text that takes the row of the rowid ?1 out of a table
abbrev pub delete_text : List ℕ → List ℕ → List ℕ
delete_text rowid_name table = codes "DELETE FROM " ++ quoted table ++ codes " WHERE " ++ rowid_name ++ codes " = ?1"

-- where a new row goes: its table, its rowid and these columns
abbrev pub target : List ℕ → List ℕ → List (List ℕ) → List ℕ
target rowid_name table columns = codes "INSERT INTO " ++ quoted table ++ codes " (" ++ rowid_name ++ listed columns ++ codes ")"

-- a parameter for each of these columns, each after a comma
abbrev pub parameters : List (List ℕ) → List ℕ
parameters [] = []
parameters (name ∷ names) = codes ", ?" ++ parameters names

-- the text that puts a row into a table: its rowid and these columns are the parameters, in their order
abbrev pub insert_text : List ℕ → List ℕ → List (List ℕ) → List ℕ
insert_text rowid_name table columns = target rowid_name table columns ++ codes " VALUES (?" ++ parameters columns ++ codes ")"
