-- What lines and their replies say of one session's cursor of one name.
use Rattle.std.specs.Prelude.{◌≡◌, ◌⊎◌, ℕ, false, List, [], ◌∷◌, ◌++◌, codes, Contains}
use Rattle.med_value.specs.Datum.{Tuple}
use Rattle.med_value.specs.declared.cause.Cause.{Cause}
use Rattle.med_syntax.specs.Prelude.{Name, SelectTree, select, CountTree, declare, fetch, close}
use Rattle.med_query.specs.Query.{IsAnswer}
use Rattle.med_parser.specs.CommandTree.{CommandTree, on_cursors}
use Rattle.med_parser.specs.CommandGrammar.{HasCommand}
use Rattle.sql_meaning.specs.Prelude.{sql, bye, Cursor, rows_leased, Fetched, IsLast, rows_fetched, done, answered, refused, reply_text}
use Rattle.session_wire.specs.Frames.{IsFrame}
use Rattle.session_wire.specs.Exchanges.{Exchange}

-- the line is this statement of this session
abbrev pub Commands : Exchange → ℕ → CommandTree → Type 0
Commands e sid tree = (query : List ℕ) × IsFrame e.text sid (sql query) × HasCommand query tree

-- DECLARE of a cursor of this name for this query was done
pub record Declares (sid : ℕ) (name : Name) (q : SelectTree) (e : Exchange) : Type 0 where
  pub asks : Commands e sid (on_cursors (declare name (select q)))
  pub told : e.reply ≡ reply_text sid (done (codes "DECLARE CURSOR"))

-- The cursor of this name, if it is there still, ends: CLOSE or BYE was done, or DECLARE of another cursor of its name.
pub data EndsCursor (sid : ℕ) (name : Name) (e : Exchange) : Type 0 where
  by_close : Commands e sid (on_cursors (close name)) → e.reply ≡ reply_text sid (done (codes "CLOSE CURSOR")) → EndsCursor sid name e
  by_bye : IsFrame e.text sid bye → e.reply ≡ reply_text sid (done (codes "BYE")) → EndsCursor sid name e
  by_declare : (q : SelectTree) → Declares sid name q e → EndsCursor sid name e

-- FETCH from the cursor of this name was answered by rows, under these output names
pub record GivesRows (sid : ℕ) (name : Name) (names : List Name) (e : Exchange) (f : Fetched) : Type 0 where
  pub asks : Commands e sid (on_cursors (fetch f.asked name))
  pub told : e.reply ≡ reply_text sid (answered (codes "FETCH") names f.rows)

-- neither: the line is no FETCH from it, or was refused, and it does not end
pub record PassesBy (sid : ℕ) (name : Name) (e : Exchange) : Type 0 where
  pub no_rows : ((asked : CountTree) → Commands e sid (on_cursors (fetch asked name)) → ⊥)
      ⊎ ((c : Cause) × (e.reply ≡ reply_text sid (refused c)))
  pub no_end : EndsCursor sid name e → ⊥

-- The FETCHes from the cursor that were answered by rows, in order, up to its end, or to that of the lines.
abbrev pub AreFetchesOf : ℕ → Name → List Name → List Exchange → List Fetched → Type 0
AreFetchesOf sid name names [] fs = fs ≡ []
AreFetchesOf sid name names (e ∷ es) fs =
    (EndsCursor sid name e × (fs ≡ []))
    ⊎ ((PassesBy sid name e × AreFetchesOf sid name names es fs)
    ⊎ ((f : Fetched) × (others : List Fetched) × GivesRows sid name names e f × AreFetchesOf sid name names es others
    × (fs ≡ f ∷ others)))

-- All rows that FETCHes from the session's cursor gave in these lines, joined, begin one answer to its query over its tables as they stood
-- at DECLARE; and are all of it once one FETCH gave fewer rows than it was asked for, or was asked for ALL. Of a cursor that reads a shared
-- source no row is known.
pub record GivesOneAnswer (sid : ℕ) (c : Cursor) (es : List Exchange) : Type 0 where
  pub fetched : List Fetched
  pub are : AreFetchesOf sid c.name c.names es fetched
  pub begins : c.shared ≡ false
      → (fetched ≡ []) ⊎ ((left : List Tuple) × IsAnswer c.query (rows_leased c.reads) (rows_fetched fetched ++ left))
  pub all : c.shared ≡ false → (f : Fetched) → Contains fetched f → IsLast f.asked f.rows
      → IsAnswer c.query (rows_leased c.reads) (rows_fetched fetched)
