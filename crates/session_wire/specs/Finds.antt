-- What is found at the front of some bytes.
use Rattle.std.specs.Prelude.{◌≡◌, ℕ, List, string_bytes}
use Rattle.tokio_util.specs.declared.codec.lines_codec.LinesCodec.{LinesCodec}
use Rattle.tokio_util.specs.Codec.Lines.{gives_lines, at_line_start}
use Rattle.tokio_util.specs.Codec.Next.{Resumes}
use Rattle.session_wire.specs.declared.lines.FoundLine.{FoundLine}
use Rattle.session_wire.specs.declared.lines.FoundLine.TheVariants as found
use Rattle.med_value.specs.Limits.{line_limit}
use Rattle.session_wire.specs.Lines.{Lines, line, rest, closed, lines_of}

-- the codec finds what a new one would find, whatever bytes follow
abbrev pub IsReady : ℕ → LinesCodec → List ℕ → Type 0
IsReady limit codec bytes = Resumes gives_lines (at_line_start limit) bytes codec bytes

-- what was found at the front of the old bytes, with the codec and the bytes that are left
abbrev pub Finds : FoundLine → List ℕ → LinesCodec → List ℕ → Type 0
Finds (found.Line text) old codec new =
    (lines_of old ≡ line (string_bytes text) (lines_of new)) × IsReady line_limit codec new
Finds found.Nothing old codec new = (lines_of old ≡ rest old) × (new ≡ old) × IsReady line_limit codec new
Finds found.Closing old codec new = lines_of old ≡ closed

-- a whole line stands at the front, short enough and UTF-8
abbrev pub HasLine : Lines → Type 0
HasLine lines = (text : List ℕ) × (more : Lines) × (lines ≡ line text more)
