-- Statements on cursors as trees, without where they lie in memory (SQL:2016, part 2, 14 "Data manipulation").
use Rattle.std.specs.Prelude.{ℕ}
use Rattle.med_syntax.specs.Tree.{Name}
use Rattle.med_syntax.specs.QueryTree.{StatementTree, statement_height}

-- How many rows FETCH asks for: so many, or all that are left.
pub data CountTree : Type 0 where
  some_rows : ℕ → CountTree
  all_rows : CountTree

-- A statement. INSENSITIVE, NO SCROLL, WITH HOLD, FROM and IN are no part of the tree.
pub data CursorTree : Type 0 where
  -- DECLARE name CURSOR FOR query (SQL:2016, <declare cursor>)
  declare : Name → StatementTree → CursorTree
  -- FETCH count FROM name (SQL:2016, <fetch statement>)
  fetch : CountTree → Name → CursorTree
  -- CLOSE name (SQL:2016, <close statement>)
  close : Name → CursorTree

-- how high the highest expression is; 0 where there is none
abbrev pub cursor_height : CursorTree → ℕ
cursor_height (declare n q) = statement_height q
cursor_height (fetch c n) = 0
cursor_height (close n) = 0
