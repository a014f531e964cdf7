-- What a query does to the boxes, and why it is refused.
use Rattle.std.specs.Prelude.{◌≡◌, true, false, List, map, Option}
use Rattle.med_value.specs.Datum.{Tuple}
use Rattle.med_value.specs.declared.cause.Cause.{Cause}
use Rattle.med_value.specs.declared.cause.Cause.TheVariants.{LimitExceeded}
use Rattle.med_syntax.specs.Prelude.{Name, SelectTree}
use Rattle.med_query.specs.Prelude.{Query, Tables, SameRows, IsAnswer, Form, form_of, IsShownCause}
use Rattle.fdw_api.specs.State.{BoxState}
use Rattle.med_binder.specs.Prelude.{Place, entry_place, meant_by, IsBindable, NotBound, Attached, ArePlaces}
use Rattle.med_binder.specs.declared.bound.BoundQuery.{BoundQuery}
use Rattle.bound_order.specs.Ordered.{IsOrdered}
use Rattle.med_exec.specs.Prelude.{PullsRows, AllServed, HonestOver}
use Rattle.med_planner.specs.Planned.{entry_rows}
use Rattle.med_world.specs.Counted.{ReadsTables}
use Rattle.med_world.specs.Starting.{RunFails}
use Rattle.med_catalog.specs.Objects.{Objects}
use Rattle.sql_meaning.specs.Prelude.{query_of, is_large_form}

-- the same in whatever order the rows come, where the boxes of its tables are honest
pub record AnswersOver (q : Query) (places : List Place) (boxes : List (Option BoxState)) (rows : List Tuple) : Type 0 where
  pub answers : HonestOver places boxes → (db : Tables) → SameRows (entry_rows boxes places) db → IsAnswer q db rows
  pub clear : HonestOver places boxes → (db : Tables) → SameRows (entry_rows boxes places) db → (c : Cause) → IsShownCause q db c → ⊥

-- How many rows the wrappers returned for a query of this form over tables in these places, in the order in which its entries are joined:
-- the run requested none, or went by what the wrappers agreed to. One table's wrapper that agreed to return the rows in the order of
-- ORDER BY, or where there is none, and answered Exact to each conjunct, returned no more under LIMIT than OFFSET and LIMIT take.
pub record PullsAgreed (f : Form) (places : List Place) (old new : List (Option BoxState)) : Type 0 where
  pub bound : BoundQuery
  pub form : form_of bound.select ≡ f
  pub at : map entry_place bound.entries.items ≡ places
  pub planned : BoundQuery
  pub order : IsOrdered bound planned
  pub rows : PullsRows planned old new

-- The query was answered from the boxes, which read each of its tables once.
pub record Selects (o : Objects) (user : Name) (bound : List Attached) (q : SelectTree) (old : List (Option BoxState))
    (names : List Name) (given : List Tuple) (new : List (Option BoxState)) : Type 0 where
  pub bindable : IsBindable o user q
  pub few : is_large_form (meant_by o q).form ≡ false
  pub named : names ≡ (meant_by o q).names
  pub served : AllServed old new
  pub places : List Place
  pub are : ArePlaces bound (meant_by o q).entries places
  pub answers : AnswersOver (query_of (meant_by o q)) places old given
  pub reads : ReadsTables places old new
  pub pulls : PullsAgreed (meant_by o q).form places old new

-- why it is not answered
pub data SelectFails (o : Objects) (user : Name) (bound : List Attached) (q : SelectTree) (old : List (Option BoxState)) (c : Cause)
    (new : List (Option BoxState)) : Type 0 where
  not_bound : NotBound o user q c → new ≡ old → SelectFails o user bound q old c new
  too_many : IsBindable o user q → is_large_form (meant_by o q).form ≡ true → c ≡ LimitExceeded → new ≡ old
      → SelectFails o user bound q old c new
  run_fails : IsBindable o user q → is_large_form (meant_by o q).form ≡ false → AllServed old new → (places : List Place)
      → ArePlaces bound (meant_by o q).entries places → RunFails (query_of (meant_by o q)) places c old new
      → SelectFails o user bound q old c new
