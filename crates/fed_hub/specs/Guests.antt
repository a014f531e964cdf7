-- What holds of a connection while a hub serves it.
use Rattle.std.specs.Prelude.{◌≡◌, ℕ, true, false, Option, Some, None, List, [], ◌∷◌, ◌++◌}
use Rattle.std.specs.Io.KnownBytes.{IsAtEnd}
use Rattle.session_wire.specs.Lines.{Lines, lines_of}
use Rattle.fed_hub.specs.Said.{Said, bye_of}
use Rattle.fed_hub.specs.Accounts.{Account, LeavesLines, Passed, Parts, Visit, IsVisit, said_in}
use Rattle.fed_hub.specs.Boxes.{unread_in, unsent_in}
use Rattle.fed_hub.specs.declared.link.Link.{Link}
use Rattle.fed_hub.specs.declared.link.Turn.{Turn}
use Rattle.fed_hub.specs.declared.link.Turn.TheVariants.{GoesOn, PartsNow, Breaks}
use Rattle.fed_hub.specs.declared.guest.Guest.{Guest}
use Rattle.fed_hub.specs.declared.guest.Fate.{Fate}
use Rattle.fed_hub.specs.declared.guest.Fate.TheVariants.{Stays, Goes}

-- some lines were answered
abbrev pub IsBegun : List Said → Type 0
IsBegun [] = ⊥
IsBegun (s ∷ said) = Unit {0}

-- A connection whose lines are answered. This was said of it since it was taken, and these lines are left.
pub record IsOpenAt {P : Type 0} (remaining contents : P → Option (List ℕ)) (taken : P) (k : Link P) (more : Lines)
    (part : List Said) : Type 0 where
  pub account : Account
  pub passed : Passed remaining contents taken k.peer account
  pub said : part ≡ account.lines
  pub goes_on : LeavesLines account more
  pub untold : account.parting ≡ []
  pub unsent : account.unsent ≡ unsent_in k.outbox
  pub fresh : k.is_opened ≡ false → account.lines ≡ []
  pub begun : k.is_opened ≡ true → IsBegun account.lines
  pub ended : k.has_ended ≡ true → IsAtEnd (remaining k.peer)

abbrev pub IsOpen : {P : Type 0} → (P → Option (List ℕ)) → (P → Option (List ℕ)) → P → Link P → List Said → Type 0
IsOpen remaining contents taken k part = IsOpenAt remaining contents taken k (lines_of (unread_in k.inbox)) part

-- None of its lines is answered any more.
pub record HasParted {P : Type 0} (remaining contents : P → Option (List ℕ)) (taken : P) (k : Link P) (part : List Said) : Type 0 where
  pub account : Account
  pub passed : Passed remaining contents taken k.peer account
  pub said : part ≡ account.lines
  pub parts : Parts (remaining k.peer) account

-- None is, and what is to be sent still has to be written to it.
pub record IsParting {P : Type 0} (remaining contents : P → Option (List ℕ)) (taken : P) (k : Link P) (part : List Said) : Type 0 where
  pub parted : HasParted remaining contents taken k part
  pub unsent : parted.account.unsent ≡ unsent_in k.outbox

-- by what a turn came to
abbrev pub Turns : {P : Type 0} → (P → Option (List ℕ)) → (P → Option (List ℕ)) → Turn → P → Link P → List Said → Type 0
Turns remaining contents GoesOn taken k part = IsOpen remaining contents taken k part
Turns remaining contents PartsNow taken k part = IsParting remaining contents taken k part
Turns remaining contents Breaks taken k part = HasParted remaining contents taken k part

-- Its session was closed, and what is to be sent still has to be written to it.
pub record IsLeaving {P : Type 0} (remaining contents : P → Option (List ℕ)) (sid : ℕ) (taken : P) (k : Link P)
    (part : List Said) : Type 0 where
  pub farewell : List ℕ
  pub lines : List Said
  pub parting : IsParting remaining contents taken k lines
  pub said : part ≡ lines ++ bye_of sid farewell ∷ []

-- It was let go.
abbrev pub IsGone : {P : Type 0} → (P → Option (List ℕ)) → (P → Option (List ℕ)) → ℕ → P → List Said → Type 0
IsGone {P} remaining contents sid taken part =
    (v : Visit P) × (v.taken ≡ taken) × IsVisit remaining contents v × (part ≡ said_in sid v)

-- It is there: its session is open to it as long as it has the room for its farewell.
abbrev pub IsAt : {P F : Type 0} → (P → Option (List ℕ)) → (P → Option (List ℕ)) → ℕ → P → Link P → Option F → List Said → Type 0
IsAt remaining contents sid taken k (Some room) part = IsOpen remaining contents taken k part
IsAt remaining contents sid taken k None part = IsLeaving remaining contents sid taken k part

abbrev pub IsHere : {P : Type 0} → (P → Option (List ℕ)) → (P → Option (List ℕ)) → ℕ → P → Guest P → List Said → Type 0
IsHere remaining contents sid taken g part = IsAt remaining contents sid taken g.link g.farewell part

-- by what became of it
abbrev pub Fares : {P : Type 0} → (P → Option (List ℕ)) → (P → Option (List ℕ)) → ℕ → Fate → P → Guest P → List Said → Type 0
Fares remaining contents sid Stays taken g part = IsHere remaining contents sid taken g part
Fares remaining contents sid Goes taken g part = IsGone remaining contents sid taken part
