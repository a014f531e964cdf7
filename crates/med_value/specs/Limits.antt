-- How many there may be of each thing, and how long texts may be.
use Rattle.std.specs.Prelude.{ℕ, ◌^◌}

-- ---- what is asked

-- the sessions: their numbers go from 1 to this one
abbrev pub session_count : ℕ
session_count = 256

-- the most bytes that a request line has before its LF, the CR counted
abbrev pub line_limit : ℕ
line_limit = 1048576

-- the most bytes of a name
abbrev pub name_limit : ℕ
name_limit = 63

-- the greatest height of an expression, and the most tokens that can deepen one of a text that is no statement
abbrev pub height_limit : ℕ
height_limit = 64

-- the most entries that FROM may have
abbrev pub entry_limit : ℕ
entry_limit = 8

-- the most cores that UNION ALL may join
abbrev pub core_limit : ℕ
core_limit = 8

-- the most rows that a query groups
abbrev pub group_limit : ℕ
group_limit = 2 ^ 62

-- the most cursors that a session may have open
abbrev pub cursor_limit : ℕ
cursor_limit = 16

-- ---- objects

abbrev pub wrapper_limit : ℕ
wrapper_limit = 16

abbrev pub server_limit : ℕ
server_limit = 64

-- of foreign tables
abbrev pub table_limit : ℕ
table_limit = 256

-- of user mappings
abbrev pub mapping_limit : ℕ
mapping_limit = 1024

-- of the columns of one foreign table
abbrev pub column_limit : ℕ
column_limit = 64

-- ---- sources

-- the most sources that are ever added to an engine, dropped ones counted
abbrev pub source_limit : ℕ
source_limit = 64

-- the most rows of a table of a list, a file or a database
abbrev pub row_limit : ℕ
row_limit = 1000000

-- the most bytes of a file
abbrev pub byte_limit : ℕ
byte_limit = 67108864
