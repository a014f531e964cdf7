-- What the run of a query counts in the boxes: one scan for each entry of FROM of its cores.
use Rattle.std.specs.Prelude.{List, Option}
use Rattle.fdw_api.specs.State.{BoxState}
use Rattle.med_binder.specs.Place.{Place}
use Rattle.med_exec.specs.Prelude.{BeginsScans, tables_in}

-- Each of these tables was read in one scan of its own, and no other scan was begun. How often a scan gives a row is not said: its box may
-- leave rows out that it was offered a restriction of, a LIMIT ends it early, and one that stands inside of another is read again.
pub record ReadsTables (places : List Place) (old new : List (Option BoxState)) : Type 0 where
  pub begins : BeginsScans (λ slot. tables_in slot places) old new
