-- What the connections of a hub requested, and the replies, in the one order in which they were answered.
use Rattle.std.specs.Prelude.{◌≡◌, ℕ, ◌==◌, if◌then◌else◌, List, [], ◌∷◌, ◌++◌, map, flat_map, codes, decimal}
use Rattle.sql_meaning.specs.Requests.{opening}
use Rattle.session_wire.specs.Lines.{Lines, line}
use Rattle.session_wire.specs.Frames.{IsRequest}
use Rattle.session_wire.specs.Exchanges.{Exchange}
use Rattle.fed_hub.specs.Bare.{bare}

-- A line of the connection that is this session, and the reply to it, with its session's number.
pub record Said : Type 0 where
  pub sid : ℕ
  pub text : List ℕ
  pub reply : List ℕ

-- the request line of a session for a connection's line
abbrev pub numbered : ℕ → List ℕ → List ℕ
numbered sid text = decimal sid ++ 32 ∷ text

-- that request line with its reply
abbrev pub exchange_of : Said → Exchange
exchange_of s = record { text = numbered s.sid s.text; reply = s.reply }

abbrev pub exchanges_of : List Said → List Exchange
exchanges_of said = map (λ (s : Said). exchange_of s) said

-- the lines of a connection, and the replies as it gets them
abbrev pub lines_in : List Said → List (List ℕ)
lines_in said = map (λ (s : Said). s.text) said

abbrev pub told_in : List Said → List ℕ
told_in said = flat_map (λ (s : Said). bare s.reply) said

-- what was said in one session
abbrev pub part_of : ℕ → List Said → List Said
part_of sid [] = []
part_of sid (s ∷ said) = if s.sid == sid then s ∷ part_of sid said else part_of sid said

-- all was said in this session
abbrev pub AreOf : ℕ → List Said → Type 0
AreOf sid [] = Unit {0}
AreOf sid (s ∷ said) = (s.sid ≡ sid) × AreOf sid said

-- the closing of a session, with this reply, which is sent to no connection
abbrev pub bye_of : ℕ → List ℕ → Said
bye_of sid reply = record { sid = sid; text = codes "BYE"; reply = reply }

-- a line opens a session
abbrev pub Opens : List ℕ → Type 0
Opens text = (user : List ℕ) × IsRequest text (opening user)

-- the first of some lines, where there is one, opens a session
abbrev pub BeginsByOpening : List Said → Type 0
BeginsByOpening [] = Unit {0}
BeginsByOpening (s ∷ said) = Opens s.text

-- these lines, and then those
abbrev pub before : List (List ℕ) → Lines → Lines
before [] more = more
before (text ∷ texts) more = line text (before texts more)
