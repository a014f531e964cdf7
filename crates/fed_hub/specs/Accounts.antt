-- What passed between a hub and its connections.
use Rattle.std.specs.Prelude.{◌≡◌, ◌⊎◌, ℕ, Option, List, [], ◌∷◌, ◌++◌, flat_map, map, codes}
use Rattle.std.specs.Io.KnownBytes.{Consumes, Appends, IsAtEnd}
use Rattle.sql_meaning.specs.Requests.{IsSid}
use Rattle.session_wire.specs.Lines.{Lines, line, rest, closed, lines_of}
use Rattle.session_wire.specs.Run.{Steps}
use Rattle.session_wire.specs.Exchanges.{Exchanged}
use Rattle.fed_hub.specs.Said.{Said, exchanges_of, lines_in, told_in, part_of, bye_of, Opens, BeginsByOpening, before}

-- the two lines that are sent to a connection before it is closed for what it sent
abbrev pub closing_lines : List ℕ
closing_lines = codes "E 08P01 protocol_violation\nT CLOSED\n"

-- The bytes that were read from a connection; its lines that were answered, with their replies; what is sent to it at its end besides; the
-- bytes that were written to it, and those that are still to be written, or never are.
pub record Account : Type 0 where
  pub bytes : List ℕ
  pub lines : List Said
  pub parting : List ℕ
  pub written : List ℕ
  pub unsent : List ℕ

-- the answered lines are the first of its bytes, and these are left
abbrev pub LeavesLines : Account → Lines → Type 0
LeavesLines a more = lines_of a.bytes ≡ before (lines_in a.lines) more

-- From when a connection was taken up to now these bytes were read from it and written to it. What is sent to it is the replies to its own
-- lines, in order, and what is sent at its end: a prefix of that was written.
pub record Passed {P : Type 0} (remaining contents : P → Option (List ℕ)) (taken now : P) (a : Account) : Type 0 where
  pub read : Consumes (remaining taken) (remaining now) a.bytes
  pub wrote : Appends (contents taken) (contents now) a.written
  pub told : told_in a.lines ++ a.parting ≡ a.written ++ a.unsent
  pub begins : BeginsByOpening a.lines

-- How it came that no more of its lines are answered: it ended, and each of its lines was answered; a line closes it; its first line opens
-- no session; or it was broken off, by a fault of the connection, where memory was refused or with the hub.
pub data Parts (rest_known : Option (List ℕ)) (a : Account) : Type 0 where
  at_its_end : (left : List ℕ) → LeavesLines a (rest left) → IsAtEnd rest_known → a.parting ≡ [] → Parts rest_known a
  by_closing : LeavesLines a closed → a.parting ≡ closing_lines → Parts rest_known a
  by_first_line : a.lines ≡ [] → (text : List ℕ) (more : Lines) → lines_of a.bytes ≡ line text more → (Opens text → ⊥)
      → a.parting ≡ closing_lines → Parts rest_known a
  broken_off : (more : Lines) → LeavesLines a more → a.parting ≡ [] → Parts rest_known a

-- A connection from when it was taken to when it was let go, what passed, and the reply to the closing of its session.
pub record Visit (P : Type 0) : Type 0 where
  pub taken : P
  pub left : P
  pub account : Account
  pub farewell : List ℕ

pub record IsVisit {P : Type 0} (remaining contents : P → Option (List ℕ)) (v : Visit P) : Type 0 where
  pub passed : Passed remaining contents v.taken v.left v.account
  pub parts : Parts (remaining v.left) v.account

-- what was said of it in its session: its lines, and last that the session is closed
abbrev pub said_in : {P : Type 0} → ℕ → Visit P → List Said
said_in sid v = v.account.lines ++ bye_of sid v.farewell ∷ []

abbrev pub said_of : {P : Type 0} → ℕ → List (Visit P) → List Said
said_of {P} sid visits = flat_map (λ (v : Visit P). said_in sid v) visits

abbrev pub AreVisits : {P : Type 0} → (P → Option (List ℕ)) → (P → Option (List ℕ)) → List (Visit P) → Type 0
AreVisits remaining contents [] = Unit {0}
AreVisits remaining contents (v ∷ visits) = IsVisit remaining contents v × AreVisits remaining contents visits

-- What was said in a session was said by connections that were this session one after the other.
abbrev pub IsOfVisits : {P : Type 0} → (P → Option (List ℕ)) → (P → Option (List ℕ)) → ℕ → List Said → Type 0
IsOfVisits {P} remaining contents sid part =
    (visits : List (Visit P)) × AreVisits remaining contents visits × (part ≡ said_of sid visits)

-- One list of request lines with their replies leads by steps from old to new, and what was said in each session was said by the
-- connections that were this session, one after the other.
pub record ServesHub {P W : Type 0} (step : Steps W) (remaining contents : P → Option (List ℕ)) (old new : W) : Type 0 where
  pub said : List Said
  pub leads : Exchanged step old (exchanges_of said) new
  pub each : (sid : ℕ) → IsSid sid → IsOfVisits remaining contents sid (part_of sid said)
