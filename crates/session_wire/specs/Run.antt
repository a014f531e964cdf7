-- What is answered to the lines of a stream.
use Rattle.std.specs.Prelude.{◌≡◌, ⊤, ℕ, suc, ◌⊎◌, Option, List, [], ◌++◌}
use Rattle.med_session.specs.Requests.{AskedLine}
use Rattle.session_wire.specs.Lines.{Lines, line, rest, closed, lines_of, unread_after}
use Rattle.session_wire.specs.Frames.{IsFrame, IsReplySid}
use Rattle.session_wire.specs.Replies.{refusal, closing_replies}

-- From old, a request in this session may be answered by this text, and new is what it leaves.
abbrev pub Steps : Type 0 → Type 1
Steps W = W → ℕ → AskedLine → List ℕ → W → Type 0

-- A line that is in the grammar is answered by a step. Any other is refused by the number that it begins
-- with, and changes nothing.
abbrev pub IsAnswered : {W : Type 0} → Steps W → W → List ℕ → List ℕ → W → Type 0
IsAnswered step old text reply new =
    ((sid : ℕ) × (request : AskedLine) × IsFrame text sid request × step old sid request reply new)
    ⊎ (((sid : ℕ) (request : AskedLine) → IsFrame text sid request → ⊥)
    × ((sid : ℕ) × IsReplySid text sid × (reply ≡ refusal sid)) × (new ≡ old))

-- The lines lead, one after another, from old to these replies and to new. A line that closes the stream
-- is answered by the closing replies, and ends every session.
abbrev pub Run : {W : Type 0} → Steps W → (W → W → Type 0) → W → Lines → List ℕ → W → Type 0
Run {W} step ended old (line text more) replies new =
    (reply : List ℕ) × (others : List ℕ) × (mid : W) × IsAnswered step old text reply mid
    × Run step ended mid more others new × (replies ≡ reply ++ others)
Run step ended old (rest after) replies new = (replies ≡ []) × (new ≡ old)
Run step ended old closed replies new = (replies ≡ closing_replies) × ended old new

-- some of the lines, from the first on, do, none of them a closing one
abbrev pub RunFront : {W : Type 0} → Steps W → W → Lines → List ℕ → W → Type 0
RunFront {W} step old (line text more) replies new =
    ((replies ≡ []) × (new ≡ old))
    ⊎ ((reply : List ℕ) × (others : List ℕ) × (mid : W) × IsAnswered step old text reply mid
    × RunFront step mid more others new × (replies ≡ reply ++ others))
RunFront step old (rest after) replies new = (replies ≡ []) × (new ≡ old)
RunFront step old closed replies new = (replies ≡ []) × (new ≡ old)

-- some of the lines, from the first on, do, none of them a closing one, and these lines are left
abbrev pub RunUpTo : {W : Type 0} → Steps W → W → Lines → List ℕ → W → Lines → Type 0
RunUpTo {W} step old (line text more) replies new left =
    ((replies ≡ []) × (new ≡ old) × (left ≡ line text more))
    ⊎ ((reply : List ℕ) × (others : List ℕ) × (mid : W) × IsAnswered step old text reply mid
    × RunUpTo step mid more others new left × (replies ≡ reply ++ others))
RunUpTo step old (rest after) replies new left = (replies ≡ []) × (new ≡ old) × (left ≡ rest after)
RunUpTo step old closed replies new left = (replies ≡ []) × (new ≡ old) × (left ≡ closed)

-- a line is next: a whole one, for whose text the codec takes memory, and for whose reply the output has to have room; or one that closes
-- the stream, whose replies need room in the output
abbrev pub IsNext : Lines → Type 0
IsNext (line text more) = ⊤
IsNext (rest after) = ⊥
IsNext closed = ⊤

-- These bytes are answered by the text of a run of their lines, which leads from old to new, and these
-- bytes are left unread, or the stream is closed.
pub record Fed {W : Type 0} (step : Steps W) (ended : W → W → Type 0) (old : W) (bytes text : List ℕ) (new : W)
    (left : Option (List ℕ)) : Type 0 where
  pub run : Run step ended old (lines_of bytes) text new
  pub unread : unread_after (lines_of bytes) ≡ left

-- Some lines at the front of these bytes are answered by this text, and then every session was ended.
pub record BrokenOff {W : Type 0} (step : Steps W) (ended : W → W → Type 0) (old : W) (bytes text : List ℕ) (new : W) : Type 0 where
  pub last : W
  pub front : RunFront step old (lines_of bytes) text last
  pub sessions : ended last new

-- Room was refused for the next line: those before it were answered by this text, and then every session was ended.
pub record RefusesNext {W : Type 0} (step : Steps W) (ended : W → W → Type 0) (old : W) (bytes text : List ℕ) (new : W) : Type 0 where
  pub last : W
  pub left : Lines
  pub answered : RunUpTo step old (lines_of bytes) text last left
  pub next : IsNext left
  pub sessions : ended last new

-- how many lines there are
abbrev pub line_count : Lines → ℕ
line_count (line text more) = suc (line_count more)
line_count (rest after) = 0
line_count closed = 0
