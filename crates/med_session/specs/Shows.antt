-- What an engine shows.
use Rattle.std.specs.Prelude.{map, string_bytes}
use Rattle.fdw_api.specs.State.{BoxState}
use Rattle.med_exec.specs.Slots.{states}
use Rattle.med_catalog.specs.View.{objects}
use Rattle.med_binder.specs.Places.{attached}
use Rattle.med_world.specs.Prelude.{seats_shown, Label, Shown}
use Rattle.med_session.specs.declared.sources.NamedSource.{NamedSource}
use Rattle.med_session.specs.declared.engine.Engine.{Engine}

abbrev pub label : NamedSource → Label
label s = record { name = string_bytes s.name; kind = s.kind }

abbrev pub shown : {W : Type 0} → (W → BoxState) → Engine W → Shown
shown meaning e = record {
  catalog = objects e.catalog;
  labels = map label e.sources.items;
  boxes = states meaning e.slots.items;
  bound = map attached e.bound.items;
  seats = seats_shown e.seats.items;
}
