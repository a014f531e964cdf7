-- How a script is cut into lines, and which of them are run.
use Rattle.std.specs.Prelude.{ℕ, Bool, ◌||◌, ◌==◌, not, List, map}
use Rattle.std.specs.List.{list_all, slice_split, enumerate_from, filter}
use Rattle.std.specs.Str.Lines.{strip_carriage_return}

-- the text of a line: one CR at its end is dropped
abbrev pub line_text : List ℕ → List ℕ
line_text bytes = strip_carriage_return bytes

-- the lines of a script: what stands before each LF, and after the last
abbrev pub lines_parted : List ℕ → List (List ℕ)
lines_parted script = map line_text (slice_split (λ b. b == 10) script)

-- a line with its number; all lines are counted from 1, blank ones too
abbrev pub Numbered : Type 0
Numbered = ℕ × List ℕ

abbrev pub script_lines : List ℕ → List Numbered
script_lines script = enumerate_from 1 (lines_parted script)

-- a line of spaces and TABs alone, or of nothing
abbrev pub is_blank : List ℕ → Bool
is_blank text = list_all (λ b. b == 32 || b == 9) text

abbrev pub has_statement : Numbered → Bool
has_statement l = not (is_blank l.1)

-- the lines that are run: those that are not blank
abbrev pub statement_lines : List ℕ → List Numbered
statement_lines script = filter has_statement (script_lines script)
