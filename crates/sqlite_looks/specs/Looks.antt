-- What a text means under a schema, as a truth value: whether it reads a page, takes a row out, or puts one in.
use Rattle.std.specs.Prelude.{ℕ, pos, negsuc, Bool, true, false, not, ◌&&◌, nat_eq, List, [], ◌∷◌, is_none, Option, Result, Ok, Err}
use Rattle.sqlite.specs.Schema.{Schema}
use Rattle.sqlite.specs.Query.{Query}
use Rattle.sqlite.specs.Command.{Command}
use Rattle.sqlite.specs.Command.TheVariants.{Select, Insert, Delete}
use Rattle.sqlite.specs.Source.{Source}
use Rattle.sqlite.specs.Source.TheVariants.{Values, Query as Queried}
use Rattle.sqlite_schema.specs.declared.program.Program.{Program}
use Rattle.sqlite_resolve.specs.Compile.{compiled}
use Rattle.sqlite_resolve.specs.declared.compiled.Compiled.{Compiled}
use Rattle.sqlite_resolve.specs.declared.error.CompileError.{CompileError}
use Rattle.sqlite_looks.specs.Terms.{is_number, is_page_filter, is_delete_filter, shows, are_cells, is_by_key, is_from}

abbrev pub is_empty : {A : Type 0} → List A → Bool
is_empty [] = true
is_empty (x ∷ xs) = false

-- the query shows the columns at these places of the first `size` rows of a key range of one tree, in key order
abbrev pub is_page_query : ℕ → List ℕ → ℕ → Query → Bool
is_page_query tree places size q =
    is_from tree q.from && (is_page_filter q.filter && (is_none q.group && (shows places q.project && (not q.distinct
    && (is_empty q.collations && (is_by_key q.order && (is_number (pos size) q.limit && is_number (pos 0) q.offset)))))))

-- the query shows the rowid of the row of the rowid ?1 of one tree
abbrev pub is_delete_query : ℕ → Query → Bool
is_delete_query tree q =
    is_from tree q.from && (is_delete_filter q.filter && (is_none q.group && (shows (0 ∷ []) q.project && (not q.distinct
    && (is_empty q.collations && (is_empty q.order && (is_number (negsuc 0) q.limit && is_number (pos 0) q.offset)))))))

-- the program is the query alone, with no table of a WITH
abbrev pub is_program : (Query → Bool) → Program → Bool
is_program test p = is_empty p.lets && test p.body

abbrev pub is_page_command : ℕ → List ℕ → ℕ → Command → Bool
is_page_command tree places size (Select p names) = is_program (is_page_query tree places size) p
is_page_command tree places size _ = false

abbrev pub is_delete_command : ℕ → ℕ → Command → Bool
is_delete_command place tree (Delete at p) = nat_eq at place && is_program (is_delete_query tree) p
is_delete_command place tree _ = false

abbrev pub are_values : List (Option ℕ) → ℕ → Source → Bool
are_values cells width (Values terms wide) = nat_eq wide width && are_cells cells terms
are_values cells width (Queried p) = false

abbrev pub is_insert_command : ℕ → List (Option ℕ) → ℕ → Command → Bool
is_insert_command place cells width (Insert at source) = nat_eq at place && are_values cells width source
is_insert_command place cells width _ = false

-- the statement has no RETURNING, and reads no time
abbrev pub is_plain : Compiled → Bool
is_plain c = is_none c.returning && is_empty c.formats

-- the text is compiled as a statement that is plain and passes a test
abbrev pub passes : (Command → Bool) → Result Compiled CompileError → Bool
passes test (Ok c) = is_plain c && test c.command
passes test (Err e) = false

-- under this schema the text reads a page of `size` rows of the table in this tree: of each row the columns at these places
abbrev pub means_page : Schema → List ℕ → ℕ → List ℕ → ℕ → Bool
means_page schema text tree places size = passes (is_page_command tree places size) (compiled schema text)

-- under this schema the text takes the row of the rowid ?1 out of the table at this place, which has its rows in this tree
abbrev pub means_delete : Schema → List ℕ → ℕ → ℕ → Bool
means_delete schema text place tree = passes (is_delete_command place tree) (compiled schema text)

-- under this schema the text puts one row of these cells, the rowid first, into the table at this place
abbrev pub means_insert : Schema → List ℕ → ℕ → List (Option ℕ) → ℕ → Bool
means_insert schema text place cells width = passes (is_insert_command place cells width) (compiled schema text)
