-- Why a source is not added, and the counts of sources.
use Rattle.std.specs.Prelude.{◌≡◌, ◌<◌, ℕ, List, length, Option, None}
use Rattle.fdw_api.specs.declared.interface.Counts.{Counts}
use Rattle.med_exec.specs.Slots.{counts_at}
use Rattle.med_value.specs.Limits.{source_limit}
use Rattle.med_world.specs.Prelude.{Label, Shown, IsNamedAt, HasSource}
use Rattle.med_session.specs.declared.adding.AddFault.{AddFault}
use Rattle.med_session.specs.declared.adding.AddFault.TheVariants.{NoMemory, Taken, TooMany}

-- Why a source is not added: its name is taken, or else there are as many sources as there may be, dropped ones counted. Want of memory may
-- come where it could be added.
abbrev pub AddCause : List Label → List ℕ → AddFault → Type 0
AddCause labels name Taken = HasSource labels name
AddCause labels name TooMany = (HasSource labels name → ⊥) × (length labels ≡ source_limit)
AddCause labels name NoMemory = (HasSource labels name → ⊥) × (length labels < source_limit)

-- the counts of the source of this name are those of its box: None where the source was dropped, or there is none
pub data AreCounts (e : Shown) (name : List ℕ) (counts : Option Counts) : Type 0 where
  of_source : (place : ℕ) → IsNamedAt e.labels place name → counts ≡ counts_at e.boxes place → AreCounts e name counts
  of_none : (HasSource e.labels name → ⊥) → counts ≡ None → AreCounts e name counts
