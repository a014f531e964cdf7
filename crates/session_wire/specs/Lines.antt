-- How a stream of bytes is cut into request lines.
use Rattle.std.specs.Prelude.{◌≡◌, ℕ, ◌≤◌, ◌==◌, nat_lt, nat_le, ◌&&◌, Bool, false, Option, Some, None, if◌then◌else◌, List, [], ◌∷◌, length}
use Rattle.std.specs.List.{list_any}
use Rattle.std.specs.Str.{is_utf8}
use Rattle.tokio_util.specs.Codec.Lines.{without_carriage_return}
use Rattle.med_value.specs.Limits.{line_limit}

-- the texts of the lines in order, and how they end
pub data Lines : Type 0 where
  -- the text of a whole line, and the lines after it
  line : List ℕ → Lines → Lines
  -- bytes with no LF, which may yet become a line
  rest : List ℕ → Lines
  -- a line that closes the stream; nothing after it is read
  closed : Lines

-- a byte at the front of the first line, or of the rest
abbrev pub on_first : ℕ → List (List ℕ) × List ℕ → List (List ℕ) × List ℕ
on_first b ([], after) = ([], b ∷ after)
on_first b (l ∷ ls, after) = ((b ∷ l) ∷ ls, after)

-- what stands before each LF, and what stands after the last
abbrev pub split : List ℕ → List (List ℕ) × List ℕ
split [] = ([], [])
split (b ∷ bs) = if b == 10 then ([] ∷ (split bs).0, (split bs).1) else on_first b (split bs)

-- what stands before an LF is a line: it is not too long, and its text is UTF-8
abbrev pub is_line : ℕ → List ℕ → Bool
is_line limit l = nat_le (length l) limit && is_utf8 (without_carriage_return l)

-- the texts, up to the first line that closes the stream
abbrev pub up_to_closing : ℕ → List (List ℕ) → List ℕ → Lines
up_to_closing limit [] after = if nat_lt limit (length after) then closed else rest after
up_to_closing limit (l ∷ ls) after =
    if is_line limit l then line (without_carriage_return l) (up_to_closing limit ls after) else closed

unfoldable pub lines_within : ℕ → List ℕ → Lines
lines_within limit bytes = up_to_closing limit (split bytes).0 (split bytes).1

-- The lines of a stream: the texts before each LF, one CR at their end dropped, up to the first that
-- closes the stream, and the rest after the last LF.
abbrev pub lines_of : List ℕ → Lines
lines_of bytes = lines_within line_limit bytes

-- the lines, and behind an open end what follows the rest
abbrev pub go_on : Lines → (List ℕ → Lines) → Lines
go_on (line text more) f = line text (go_on more f)
go_on (rest after) f = f after
go_on closed f = closed

-- what is left unread, where the stream goes on
abbrev pub unread_after : Lines → Option (List ℕ)
unread_after (line text more) = unread_after more
unread_after (rest after) = Some after
unread_after closed = None

-- the front of a line, of which no more is known
pub record IsFrontOfLine (bytes : List ℕ) : Type 0 where
  pub has_no_lf : list_any (λ b. b == 10) bytes ≡ false
  pub is_short : length bytes ≤ line_limit
