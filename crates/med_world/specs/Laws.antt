-- What the laws of an engine's statements are stated by.
use Rattle.std.specs.Prelude.{◌≡◌, ℕ, List, [], Option, Some}
use Rattle.med_value.specs.declared.cause.Cause.{Cause}
use Rattle.med_syntax.specs.Tree.{Name}
use Rattle.med_parser.specs.CommandTree.{CommandTree}
use Rattle.med_parser.specs.CommandGrammar.{HasCommand}
use Rattle.med_parser.specs.CommandCauses.{SyntaxCauses}
use Rattle.fdw_api.specs.State.{BoxState}
use Rattle.med_catalog.specs.Objects.{no_objects}
use Rattle.sql_meaning.specs.Requests.{IsSid}
use Rattle.med_world.specs.Open.{Seated}
use Rattle.med_world.specs.Seats.{user_of}
use Rattle.med_world.specs.Engine.{Shown}

-- the engine with these sessions
abbrev pub with_seats : Shown → List (Option Seated) → Shown
with_seats e seats = record e { seats = seats }

-- the engine with its boxes as they are now
abbrev pub with_boxes : Shown → List (Option BoxState) → Shown
with_boxes e boxes = record e { boxes = boxes }

-- A statement was read: its session is open, and its text has this one tree, against which no cause of syntax stands.
pub record IsRead (e : Shown) (sid : ℕ) (text : List ℕ) (user : Name) (tree : CommandTree) : Type 0 where
  pub is_sid : IsSid sid
  pub is_user : user_of e.seats sid ≡ Some user
  pub clear : (c : Cause) → SyntaxCauses text c → ⊥
  pub has : HasCommand text tree
  pub one : (a b : CommandTree) → HasCommand text a → HasCommand text b → a ≡ b

-- what an engine shows that has no object and no source
abbrev pub empty_shown : Name → List (Option Seated) → Shown
empty_shown owner seats = record { catalog = no_objects owner; labels = []; boxes = []; bound = []; seats = seats }
