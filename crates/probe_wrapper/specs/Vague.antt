-- What a vague wrapper shows: what a shy one shows, but that it allows Hint beside Ignored.
use Rattle.std.specs.Prelude.{ℕ, true, Option}
use Rattle.fdw_api.specs.State.{BoxState}
use Rattle.probe_wrapper.specs.Shy.{AskedForm, asked_of, hidden}
use Rattle.probe_wrapper.specs.declared.vague.Vague.{Vague}

abbrev pub vague : BoxState → (ℕ → Option AskedForm) → BoxState
vague = hidden true

-- what it shows as a wrapper
abbrev pub box_of : {W : Type 0} → (W → BoxState) → Vague W → BoxState
box_of meaning b = vague (meaning b.inner) (asked_of b.scans)
