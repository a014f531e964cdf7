-- What a write does to the boxes, and why it is refused.
use Rattle.std.specs.Prelude.{◌≡◌, ℕ, Bool, true, false, List, [], map, Option, Some, slice_get}
use Rattle.med_value.specs.Datum.{Tuple}
use Rattle.med_value.specs.declared.cause.Cause.{Cause}
use Rattle.med_value.specs.declared.cause.Cause.TheVariants.{LimitExceeded, InUse, SourceFault}
use Rattle.med_syntax.specs.Prelude.{Name, SelectTree, GivenTree, values, rows_of, WriteTree, insert, update, delete}
use Rattle.fdw_api.specs.State.{BoxState}
use Rattle.fdw_api.specs.declared.interface.Fault.{Fault}
use Rattle.med_binder.specs.Prelude.{Place, Attached, ArePlaces, meant_by, shapes}
use Rattle.med_exec.specs.Prelude.{ChangesAt, AllServed, HonestOver, CanWrite, Writes, RefusesWrite}
use Rattle.med_catalog.specs.Objects.{Objects}
use Rattle.bind_names.specs.Scope.{place_named}
use Rattle.med_write.specs.declared.write.WrittenColumn.{WrittenColumn}
use Rattle.med_write.specs.Form.{WriteForm}
use Rattle.bind_write.specs.Meaning.{target_of, columns_in, written_column, write_meant}
use Rattle.bind_write.specs.Binding.{IsBindable, NotBound}
use Rattle.sql_meaning.specs.Prelude.{query_of, OfQuery, is_large_form}
use Rattle.med_world.specs.Fetching.{cause_of}
use Rattle.med_world.specs.Counted.{ReadsTables}
use Rattle.med_world.specs.Starting.{RunFails}
use Rattle.med_world.specs.Selecting.{AnswersOver}

-- ---- the query of an INSERT

-- it was answered from the boxes, which read each of its tables once
pub record GivesAnswer (o : Objects) (bound : List Attached) (q : SelectTree) (old : List (Option BoxState)) (answer : List Tuple)
    (new : List (Option BoxState)) : Type 0 where
  pub few : is_large_form (meant_by o q).form ≡ false
  pub served : AllServed old new
  pub places : List Place
  pub are : ArePlaces bound (meant_by o q).entries places
  pub answers : AnswersOver (query_of (meant_by o q)) places old answer
  pub reads : ReadsTables places old new

-- it was not
pub record FailsQuery (o : Objects) (bound : List Attached) (q : SelectTree) (old : List (Option BoxState)) (c : Cause)
    (new : List (Option BoxState)) : Type 0 where
  pub few : is_large_form (meant_by o q).form ≡ false
  pub served : AllServed old new
  pub places : List Place
  pub are : ArePlaces bound (meant_by o q).entries places
  pub fails : RunFails (query_of (meant_by o q)) places c old new

-- a box of one of its tables is not honest, and it is no larger than it may be
pub record IsUntyped (o : Objects) (bound : List Attached) (q : SelectTree) (old : List (Option BoxState)) : Type 0 where
  pub few : is_large_form (meant_by o q).form ≡ false
  pub places : List Place
  pub are : ArePlaces bound (meant_by o q).entries places
  pub lies : HonestOver places old → ⊥

-- the rows that a write is given by a query: those of its answer; none where there is no query, and then no box is asked
abbrev pub GivesRows : Objects → List Attached → GivenTree → List (Option BoxState) → List Tuple → List (Option BoxState) → Type 0
GivesRows o bound (values rows) old answer new = (answer ≡ []) × (new ≡ old)
GivesRows o bound (rows_of q) old answer new = GivesAnswer o bound q old answer new

abbrev pub IsGiven : Objects → List Attached → WriteTree → List (Option BoxState) → List Tuple → List (Option BoxState) → Type 0
IsGiven o bound (insert i) old answer new = GivesRows o bound i.given old answer new
IsGiven o bound (update u) old answer new = (answer ≡ []) × (new ≡ old)
IsGiven o bound (delete d) old answer new = (answer ≡ []) × (new ≡ old)

-- ---- the table

-- the table that is written is there
pub record IsTargetAt (o : Objects) (bound : List Attached) (t : WriteTree) (at : Attached) : Type 0 where
  pub place : ℕ
  pub named : place_named (shapes o) (target_of t) ≡ Some place
  pub there : slice_get bound place ≡ Some at

-- what a write knows of the columns of its table
abbrev pub columns_for : Objects → WriteTree → List WrittenColumn
columns_for o t = map written_column (columns_in (shapes o) (target_of t))

-- what it means
abbrev pub form_for : Objects → WriteTree → WriteForm
form_for o t = write_meant (shapes o) t

-- a write that may begin is done to the table of this number, and was one of so many rows
pub record DoesWrite (o : Objects) (t : WriteTree) (answer : List Tuple) (number count : ℕ) (old new : BoxState) : Type 0 where
  pub can : CanWrite old number (form_for o t) answer
  pub writes : Writes (columns_for o t) (form_for o t) answer old number count new

-- ---- the whole

-- The write is done, after the query of an INSERT was answered: so that reads the tables as they were. The box of its table has changed, no
-- other has but for what it counts. `leased` says that a cursor reads the table.
pub record WritesRows (o : Objects) (user : Name) (bound : List Attached) (t : WriteTree) (leased : Bool) (old : List (Option BoxState))
    (count : ℕ) (new : List (Option BoxState)) : Type 0 where
  pub bindable : IsBindable o user t
  pub free : leased ≡ false
  pub answer : List Tuple
  pub now : List (Option BoxState)
  pub given : IsGiven o bound t old answer now
  pub at : Attached
  pub target : IsTargetAt o bound t at
  pub writes : ChangesAt now at.source (λ a b. DoesWrite o t answer at.number count a b) new

-- the box of the table refuses it
pub record RefusesRows (o : Objects) (bound : List Attached) (t : WriteTree) (old : List (Option BoxState)) (c : Cause)
    (new : List (Option BoxState)) : Type 0 where
  pub answer : List Tuple
  pub now : List (Option BoxState)
  pub given : IsGiven o bound t old answer now
  pub at : Attached
  pub target : IsTargetAt o bound t at
  pub fault : Fault
  pub told : c ≡ cause_of fault
  pub refuses : ChangesAt now at.source (λ a b. RefusesWrite (columns_for o t) (form_for o t) answer a at.number fault b) new

-- Why it is not done, and what that changes: nothing but what the boxes count.
pub data WriteFails (o : Objects) (user : Name) (bound : List Attached) (t : WriteTree) (leased : Bool) (old : List (Option BoxState))
    (c : Cause) (new : List (Option BoxState)) : Type 0 where
  not_bound : NotBound o user t c → new ≡ old → WriteFails o user bound t leased old c new
  in_use : IsBindable o user t → leased ≡ true → c ≡ InUse → new ≡ old → WriteFails o user bound t leased old c new
  too_many : IsBindable o user t → OfQuery (λ q. is_large_form (meant_by o q).form ≡ true) t → c ≡ LimitExceeded → new ≡ old
      → WriteFails o user bound t leased old c new
  query_fails : IsBindable o user t → leased ≡ false → (at : Attached) → IsTargetAt o bound t at
      → OfQuery (λ q. FailsQuery o bound q old c new) t → WriteFails o user bound t leased old c new
  box_refuses : IsBindable o user t → leased ≡ false → RefusesRows o bound t old c new → WriteFails o user bound t leased old c new
  -- the rows of an INSERT's query are of other types than its sources say, which no honest box gives
  rows_untyped : IsBindable o user t → leased ≡ false → OfQuery (λ q. IsUntyped o bound q old) t → c ≡ SourceFault → AllServed old new
      → WriteFails o user bound t leased old c new
