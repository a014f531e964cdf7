-- Tables of which a write is under way.
use Rattle.std.specs.Prelude.{ℕ, List, ◌++◌, map}
use Rattle.wrapper_parts.specs.declared.splice.Splice.{Splice}
use Rattle.wrapper_parts.specs.Splices.{before_of, after_of, front_of, middle_of, back_of}
use Rattle.jsonl_wrapper.specs.declared.lines.Span.{Span}
use Rattle.jsonl_wrapper.specs.Lines.{lines_at, moved}

-- the places of the lines with the middle in the range's place: those behind `end` are moved as far behind `base`
abbrev pub places_after : Splice Span → ℕ → ℕ → List Span
places_after s end base = front_of s ++ middle_of s ++ map (moved end base) (back_of s)

-- the lines before the write, and after it
abbrev pub lines_before : Splice ℕ → Splice Span → List (List ℕ)
lines_before content places = lines_at (before_of content) (before_of places)

abbrev pub lines_after : Splice ℕ → Splice Span → ℕ → ℕ → List (List ℕ)
lines_after content places end base = lines_at (after_of content) (places_after places end base)
