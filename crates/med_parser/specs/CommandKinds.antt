-- The kinds of commands, and the words that each of them begins with.
use Rattle.std.specs.Prelude.{ℕ, cond, List, [], ◌∷◌, codes}
use Rattle.med_lexer.specs.Lexemes.{Shape, word}
use Rattle.med_syntax.specs.QueryTerminals.{is_one_of}
use Rattle.med_parser.specs.declared.command_kind.CommandKind.{CommandKind}
use Rattle.med_parser.specs.declared.command_kind.CommandKind.TheVariants as kinds
use Rattle.med_parser.specs.CommandTree.{CommandTree, on_data, on_rows, on_cursors, on_objects}

abbrev pub kind_of_tree : CommandTree → CommandKind
kind_of_tree (on_data s) = kinds.Data
kind_of_tree (on_rows w) = kinds.Rows
kind_of_tree (on_cursors x) = kinds.Cursor
kind_of_tree (on_objects d) = kinds.Objects

-- the kind of the commands that begin with the word; statements on data where no other does
abbrev pub kind_of_word : List ℕ → CommandKind
kind_of_word w =
    cond (is_one_of (codes "create" ∷ codes "drop" ∷ []) w) kinds.Objects
    (cond (is_one_of (codes "insert" ∷ codes "update" ∷ codes "delete" ∷ []) w) kinds.Rows
    (cond (is_one_of (codes "declare" ∷ codes "fetch" ∷ codes "close" ∷ []) w) kinds.Cursor kinds.Data))

-- the kind of the commands that begin with the token
abbrev pub kind_of_shape : Shape → CommandKind
kind_of_shape (word w) = kind_of_word w
kind_of_shape _ = kinds.Data
