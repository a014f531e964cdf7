-- What DECLARE does to the boxes, and why it is refused (SQL:2016, <declare cursor>; PostgreSQL: Writing a Foreign Data Wrapper,
-- BeginForeignScan).
use Rattle.std.specs.Prelude.{◌≡◌, ◌<◌, Bool, true, false, List, length, map, Option}
use Rattle.med_value.specs.Prelude.{Tuple, phase_of}
use Rattle.med_value.specs.declared.cause.Cause.{Cause}
use Rattle.med_value.specs.declared.cause.Cause.TheVariants.{FeatureNotSupported, LimitExceeded, OutOfMemory, SourceFault}
use Rattle.med_syntax.specs.Prelude.{Name, EntryTree, SelectTree}
use Rattle.bind_names.specs.Scope.{query_entries, query_scope}
use Rattle.med_query.specs.Prelude.{Query, Tables, SameRows, IsAnswer, form_of, query_by, is_risky_form, IsShownCause}
use Rattle.med_planner.specs.Plain.{IsPlainForm, IsBareForm}
use Rattle.fdw_api.specs.Prelude.{is_of_run, BoxState}
use Rattle.med_binder.specs.Prelude.{Place, entry_place, bound_widths, widths, meant_by, IsBindable, NotBound, Attached, ArePlaces, shapes}
use Rattle.med_binder.specs.declared.bound.BoundQuery.{BoundQuery}
use Rattle.med_planner.specs.Offered.{core_offers}
use Rattle.med_exec.specs.Prelude.{HoldsOpen, HonestOver, AllServed, ServesRun, SlotShows, HasFailed, IsUsedUp, none_held, PullsNone, GivesAsTheyCome}
use Rattle.med_exec.specs.Rests.{Rests, held, IsRunning}
use Rattle.med_planner.specs.Planned.{entry_rows}
use Rattle.med_exec.specs.declared.running.Run.{Run}
use Rattle.med_catalog.specs.Objects.{Objects}
use Rattle.sql_meaning.specs.Sizes.{is_large_form}
use Rattle.med_world.specs.Counted.{ReadsTables}
-- of which tables the scans are that a run holds
pub use Rattle.med_exec.specs.Holding.{ScansOne, HoldsOf}

-- ---- the tables that a cursor leases

-- one for each entry of FROM of each core, in their order
abbrev pub leases_of : SelectTree → List Name
leases_of q = map (λ (e : EntryTree). e.table) (query_entries q)

-- ---- a run that is begun

-- Where the boxes of its entries are honest: in whatever order the rows of these come, what the run may still give are answers over them,
-- and no cause of the query stands.
pub record RestsOver (q : Query) (places : List Place) (boxes : List (Option BoxState)) (rests : List Tuple → Type 0) : Type 0 where
  pub some : HonestOver places boxes → (rows : List Tuple) × rests rows
  pub answers : HonestOver places boxes → (db : Tables) → SameRows (entry_rows boxes places) db → (rows : List Tuple) → rests rows
      → IsAnswer q db rows
  pub clear : HonestOver places boxes → (db : Tables) → SameRows (entry_rows boxes places) db → (c : Cause) → IsShownCause q db c → ⊥

-- The run is of a query bound to tables in these places, as wide as those of the catalogue. Where it has FROM and its rows can be shown as
-- they are joined, the run holds one open scan for each entry, and no other: of the entry's table, under just the restrictions that the
-- entry is offered (`core_offers`).
pub record OpensEach (o : Objects) (q : SelectTree) (places : List Place) (run : Run) (boxes : List (Option BoxState)) : Type 0 where
  pub bound : BoundQuery
  pub form : form_of bound.select ≡ (meant_by o q).form
  pub at : map entry_place bound.entries.items ≡ places
  pub wide : bound_widths bound ≡ widths (query_scope (shapes o) q)
  pub opens : (plain : IsPlainForm (form_of bound.select)) → 0 < length bound.entries.items
      → HoldsOpen (core_offers bound.entries.items plain.core) run boxes

-- The query of a cursor was begun over the boxes, which read each of its tables once, and runs. Where the query has FROM and its rows can
-- be shown as they are joined, its run asks for none of them before FETCH, and holds one scan for each entry.
pub record Starts (o : Objects) (user : Name) (bound : List Attached) (q : SelectTree) (full : Bool) (old : List (Option BoxState))
    (names : List Name) (run : Run) (new : List (Option BoxState)) : Type 0 where
  pub bindable : IsBindable o user q
  pub safe : is_risky_form (meant_by o q).form ≡ false
  pub room : full ≡ false
  pub few : is_large_form (meant_by o q).form ≡ false
  pub named : names ≡ (meant_by o q).names
  pub served : ServesRun none_held (held run) old new
  pub running : IsRunning run new
  pub places : List Place
  pub are : ArePlaces bound (meant_by o q).entries places
  pub holds : HoldsOf places run new
  pub rests : RestsOver (query_by (meant_by o q).form) places old (Rests run new)
  pub reads : ReadsTables places old new
  pub plain : IsPlainForm (meant_by o q).form → 0 < length (meant_by o q).entries → PullsNone old new
  pub bare : IsBareForm (meant_by o q).form → GivesAsTheyCome run
  pub opens : OpensEach o q places run new

-- Why the run of a query was not begun. Where it shows the cause that is one of the run, of boxes that are honest at least.
pub data RunFails (q : Query) (places : List Place) (c : Cause) (old new : List (Option BoxState)) : Type 0 where
  no_memory : c ≡ OutOfMemory → RunFails q places c old new
  box_fails : c ≡ SourceFault → SlotShows old new HasFailed → RunFails q places c old new
  numbers_out : c ≡ LimitExceeded → SlotShows old new IsUsedUp → RunFails q places c old new
  shows_cause : is_of_run (phase_of c) ≡ true
      → (HonestOver places old → (db : Tables) → SameRows (entry_rows old places) db → IsShownCause q db c) → RunFails q places c old new

-- Why it was not begun. `full` says that the session has as many cursors as it may have.
pub data StartFails (o : Objects) (user : Name) (bound : List Attached) (q : SelectTree) (full : Bool) (old : List (Option BoxState))
    (c : Cause) (new : List (Option BoxState)) : Type 0 where
  not_bound : NotBound o user q c → new ≡ old → StartFails o user bound q full old c new
  is_risky : IsBindable o user q → is_risky_form (meant_by o q).form ≡ true → c ≡ FeatureNotSupported → new ≡ old
      → StartFails o user bound q full old c new
  no_room : IsBindable o user q → is_risky_form (meant_by o q).form ≡ false → full ≡ true → c ≡ LimitExceeded → new ≡ old
      → StartFails o user bound q full old c new
  too_many : IsBindable o user q → is_risky_form (meant_by o q).form ≡ false → is_large_form (meant_by o q).form ≡ true
      → c ≡ LimitExceeded → new ≡ old → StartFails o user bound q full old c new
  run_fails : IsBindable o user q → is_risky_form (meant_by o q).form ≡ false → full ≡ false → is_large_form (meant_by o q).form ≡ false
      → AllServed old new → (places : List Place) → ArePlaces bound (meant_by o q).entries places
      → RunFails (query_by (meant_by o q).form) places c old new → StartFails o user bound q full old c new
