-- What is known of a write whose rows are of their columns' types: its texts have no U+0000, and the tables that it reads are typed.
use Rattle.std.specs.Prelude.{◌≡◌, ℕ, true, List, [], ◌∷◌, ◌++◌, flat_map, All, Some, slice_get}
use Rattle.med_value.specs.Datum.{Chars, Tuple}
use Rattle.med_syntax.specs.Prelude.{ExprTree, ExprTrees, text, call, paren, none, more, GivenTree, values, rows_of, WriteTree, insert, update, delete}
use Rattle.med_syntax.specs.QueryTree.{ItemTree, all, all_of, value, EntryTree, CoreTree, SelectTree, cores_of}
use Rattle.med_query.specs.Prelude.{query_by, Tables, IsAnswer}
use Rattle.fdw_api.specs.Scan.{is_clean, row_fits}
use Rattle.bind_names.specs.Prelude.{TableShape, query_entries, entry_columns, meant_in}
use Rattle.bind_write.specs.Naming.{set_values}
use Rattle.bind_types.specs.TreeTypes.{column_kinds}

-- the texts that an expression may have as its value: its own, and those of the arguments of a call
abbrev mutual
  pub texts_in : ExprTree → List (List ℕ)
  texts_in (text x) = x ∷ []
  texts_in (call f es) = texts_in_all es
  texts_in (paren e) = texts_in e
  texts_in _ = []

  pub texts_in_all : ExprTrees → List (List ℕ)
  texts_in_all none = []
  texts_in_all (more e es) = texts_in e ++ texts_in_all es

abbrev pub item_texts : ItemTree → List (List ℕ)
item_texts all = []
item_texts (all_of q) = []
item_texts (value e alias) = texts_in e

-- of the items of each core
abbrev pub core_texts : CoreTree → List (List ℕ)
core_texts c = flat_map item_texts c.items

abbrev pub query_texts : SelectTree → List (List ℕ)
query_texts q = flat_map core_texts (cores_of q)

-- the texts that a write may write: of VALUES, of the items of a query, and of SET
abbrev pub given_texts : GivenTree → List (List ℕ)
given_texts (values rows) = flat_map (flat_map texts_in) rows
given_texts (rows_of q) = query_texts q

abbrev pub write_texts : WriteTree → List (List ℕ)
write_texts (insert i) = given_texts i.given
write_texts (update u) = flat_map texts_in (set_values u.sets)
write_texts (delete d) = []

-- none of them has U+0000: no text of a statement that was read has
abbrev pub IsClean : WriteTree → Type 0
IsClean t = All (λ x. is_clean (Chars x) ≡ true) (write_texts t)

-- the rows of each of these entries, by its number, are of the types of its table
abbrev pub AreTyped : List TableShape → List EntryTree → Tables → Type 0
AreTyped tables es db =
    (number : ℕ) (e : EntryTree) → slice_get es number ≡ Some e
    → All (λ r. row_fits (column_kinds (entry_columns tables e)) r ≡ true) (db number)

-- the rows that an INSERT's query gives are an answer of it over typed tables; VALUES, UPDATE and DELETE are given none
abbrev pub IsAnswered : List TableShape → GivenTree → Tables → List Tuple → Type 0
IsAnswered tables (values rows) db answer = Unit {0}
IsAnswered tables (rows_of q) db answer = AreTyped tables (query_entries q) db × IsAnswer (query_by (meant_in tables q).form) db answer

abbrev pub AreGivenRows : List TableShape → WriteTree → Tables → List Tuple → Type 0
AreGivenRows tables (insert i) db answer = IsAnswered tables i.given db answer
AreGivenRows tables (update u) db answer = Unit {0}
AreGivenRows tables (delete d) db answer = Unit {0}
