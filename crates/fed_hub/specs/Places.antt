-- The places of a hub: one for each session.
use Rattle.std.specs.Prelude.{◌≡◌, ◌<◌, ℕ, suc, Option, Some, None, List, ◌++◌, length, slice_get}
use Rattle.session_wire.specs.Run.{Steps}
use Rattle.session_wire.specs.Exchanges.{Exchanged}
use Rattle.fed_hub.specs.Said.{Said, exchanges_of, part_of}
use Rattle.fed_hub.specs.Accounts.{IsOfVisits}
use Rattle.fed_hub.specs.Guests.{IsHere}
use Rattle.fed_hub.specs.declared.guest.Guest.{Guest}

-- What was said in a session was said by the connections that had it before, and then by the one that has it, if one does.
abbrev pub Stands : {P : Type 0} → (P → Option (List ℕ)) → (P → Option (List ℕ)) → ℕ → Option (Guest P) → List Said → Type 0
Stands remaining contents sid None part = IsOfVisits remaining contents sid part
Stands {P} remaining contents sid (Some g) part =
    (taken : P) × (past : List Said) × (now : List Said) × IsOfVisits remaining contents sid past
    × IsHere remaining contents sid taken g now × (part ≡ past ++ now)

-- so it is in each place: the first is that of session 1
abbrev pub AllStand : {P : Type 0} → (P → Option (List ℕ)) → (P → Option (List ℕ)) → List (Option (Guest P)) → List Said → Type 0
AllStand {P} remaining contents places said =
    (k : ℕ) → k < length places → (place : Option (Guest P)) × (slice_get places k ≡ Some place)
    × Stands remaining contents (suc k) place (part_of (suc k) said)

-- What was said between two states leads from one to the other, and the places stand for it.
pub record Advances {P W : Type 0} (step : Steps W) (remaining contents : P → Option (List ℕ)) (old : W)
    (places : List (Option (Guest P))) (new : W) (after : List (Option (Guest P))) : Type 0 where
  pub more : List Said
  pub leads : Exchanged step old (exchanges_of more) new
  pub stand : (said : List Said) → AllStand remaining contents places said → AllStand remaining contents after (said ++ more)
