-- What the replay of a script is: a run of its statements in a session of its own.
use Rattle.std.specs.Prelude.{◌≡◌, ◌≢◌, ℕ, List, [], ◌∷◌, ◌++◌, length, map, true, false, Result, Ok, Err}
use Rattle.std.specs.Str.{is_utf8}
use Rattle.med_value.specs.declared.cause.Cause.{Cause}
use Rattle.med_value.specs.declared.cause.Cause.TheVariants.{OutOfMemory}
use Rattle.med_session.specs.Prelude.{AskedLine, opening, sql, Reply, refused}
use Rattle.fed_setup.specs.Scripts.{Numbered, statement_lines}
use Rattle.fed_setup.specs.declared.script.ScriptFault.{ScriptFault}
use Rattle.fed_setup.specs.declared.script.ScriptFault.TheVariants as fault

-- the session in which a script is replayed
abbrev pub session : ℕ
session = 64

-- from old, a request in this session may be answered by this reply, and new is what it leaves
abbrev pub Answers : Type 0 → Type 1
Answers W = W → ℕ → AskedLine → Reply → W → Type 0

-- The requests of a replay, each with the number of its line: the owner's session is opened, as request 0, and then each statement
-- is a query.
abbrev pub requests_of : List ℕ → List Numbered → List (ℕ × AskedLine)
requests_of owner lines = (0, opening owner) ∷ map (λ (l : Numbered). (l.0, sql l.1)) lines

-- from old the request may be answered, by no refusal, and new is what it leaves
abbrev pub IsDone : {W : Type 0} → Answers W → W → AskedLine → W → Type 0
IsDone step old request new = (reply : Reply) × step old session request reply new × ((c : Cause) → reply ≢ refused c)

-- from old the request may be refused with this cause
abbrev pub IsRefused : {W : Type 0} → Answers W → W → AskedLine → Cause → W → Type 0
IsRefused step old request c new = step old session request (refused c) new

-- the requests are done one after another, and none of them is refused
abbrev pub AreDone : {W : Type 0} → Answers W → W → List (ℕ × AskedLine) → W → Type 0
AreDone step old [] new = new ≡ old
AreDone {W} step old (r ∷ rs) new = (mid : W) × IsDone step old r.1 mid × AreDone step mid rs new

-- How a request ends a replay: it is refused, which is told by its number and the cause, or by want of memory alone.
abbrev pub Ends : {W : Type 0} → Answers W → W → ℕ × AskedLine → ScriptFault → W → Type 0
Ends step old r (fault.Line number c) new = (number ≡ r.0) × (c ≢ OutOfMemory) × IsRefused step old r.1 c new
Ends step old r fault.NoMemory new = IsRefused step old r.1 OutOfMemory new
Ends step old r fault.NotText new = ⊥

-- The requests before one are done, and that one ends the replay. Those after it are not begun.
pub record Stops {W : Type 0} (step : Answers W) (old : W) (requests : List (ℕ × AskedLine)) (why : ScriptFault) (new : W) : Type 0 where
  pub before : List (ℕ × AskedLine)
  pub request : ℕ × AskedLine
  pub after : List (ℕ × AskedLine)
  pub are : requests ≡ before ++ request ∷ after
  pub mid : W
  pub done : AreDone step old before mid
  pub ends : Ends step mid request why new

-- What the session comes to: all its requests are done, and the statements are counted; or one of them ends the replay.
abbrev pub Runs : {W : Type 0} → Answers W → W → List ℕ → List Numbered → Result ℕ ScriptFault → W → Type 0
Runs step old owner lines (Ok count) new = AreDone step old (requests_of owner lines) new × (count ≡ length lines)
Runs step old owner lines (Err why) new = Stops step old (requests_of owner lines) why new

-- A script that is not UTF-8 is refused whole, and nothing is done. Any other is run, and then its session is closed.
pub data Replays {W : Type 0} (step : Answers W) (closes : W → W → Type 0) (old : W) (owner script : List ℕ)
    (result : Result ℕ ScriptFault) (new : W) : Type 0 where
  not_text : is_utf8 script ≡ false → result ≡ Err fault.NotText → new ≡ old → Replays step closes old owner script result new
  runs : is_utf8 script ≡ true → (last : W) → Runs step old owner (statement_lines script) result last → closes last new
      → Replays step closes old owner script result new
