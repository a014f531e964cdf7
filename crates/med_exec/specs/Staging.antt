-- Changes that are staged together, and made or given up.
use Rattle.std.specs.Prelude.{◌≡◌, ◌≤◌, ◌-◌, ◌^◌, ℕ, Bool, true, false, ◌&&◌, List, [], ◌∷◌, ◌++◌, Option, Some, Contains}
use Rattle.std.specs.List.{list_all}
use Rattle.med_value.specs.Causes.{phase_of}
use Rattle.fdw_api.specs.Prelude.{Entry, Change, is_of_run, BoxTable, Staging, BoxState, is_honest, table_of, rows_of, LeavesAll, Picks, faults_after, Written, row_of_change_fits, id_is_there, is_first}
use Rattle.fdw_api.specs.declared.interface.Fault.{Fault}
use Rattle.fdw_api.specs.declared.interface.Fault.TheVariants.{NoMemory, Source, Refused}

-- no change names a row that one before it has named
abbrev pub all_first : List Change → List Change → Bool
all_first before [] = true
all_first before (c ∷ cs) = is_first before c && all_first (before ++ c ∷ []) cs

-- the changes may be staged for a table, one after another
pub record AreStageable (s : BoxState) (t : ℕ) (changes : List Change) : Type 0 where
  pub bound : BoxTable
  pub is : table_of s t ≡ Some bound
  pub fit : list_all (row_of_change_fits bound.kinds) changes ≡ true
  pub there : is_honest s → list_all (id_is_there (rows_of s t)) changes ≡ true
  pub once : all_first [] changes ≡ true

-- a write of these changes is under way, and nothing else has changed
pub record IsStaged (old : BoxState) (t : ℕ) (changes : List Change) (new : BoxState) : Type 0 where
  pub nature : new.nature ≡ old.nature
  pub ledger : new.ledger ≡ record old.ledger { staged = Some (record { table = t; changes = changes; broken = false }) }
  pub leaves : is_honest old → LeavesAll old new

-- why changes are not made: the kind of an honest box says the cause of all of them together
abbrev pub ChangesCause : BoxState → ℕ → List Change → Fault → Type 0
ChangesCause old t changes NoMemory = Unit {0}
ChangesCause old t changes Source = Unit {0}
ChangesCause old t changes (Refused c) =
    (is_of_run (phase_of c) ≡ true)
    × (is_honest old → (bound : BoxTable) → table_of old t ≡ Some bound
    → (entry : Option Entry) × Picks (old.content.holdings bound.remote) entry
    × Contains (bound.refuses.causes entry (rows_of old t) changes) c)

-- a change is refused, whatever follows it: the write is broken
pub record BreaksStaging (old : BoxState) (t : ℕ) (changes : List Change) (fault : Fault) (new : BoxState) : Type 0 where
  pub nature : new.nature ≡ old.nature
  pub staging : Staging
  pub of_table : staging.table ≡ t
  pub ledger : new.ledger ≡ record old.ledger { staged = Some staging; faults = faults_after fault old.ledger.faults }
  pub cause : ChangesCause old t changes fault
  pub leaves : is_honest old → LeavesAll old new

-- exactly these changes are made, and nothing is staged
pub record MakesChanges (old : BoxState) (t : ℕ) (changes : List Change) (new : BoxState) : Type 0 where
  pub nature : new.nature ≡ old.nature
  pub ledger : new.ledger ≡ old.ledger
  pub content : is_honest old → Written old (record { table = t; changes = changes; broken = false }) new

-- none is made, and nothing is staged: all rows and holdings are as before
pub record MakesNone (old : BoxState) (t : ℕ) (changes : List Change) (fault : Fault) (new : BoxState) : Type 0 where
  pub nature : new.nature ≡ old.nature
  pub next : ℕ
  pub rises : old.ledger.next ≤ next
  pub stays : old.ledger.next ≡ 2 ^ 64 - 1 → next ≡ 2 ^ 64 - 1
  pub keeps : old.nature.skips ≡ false → next ≡ old.ledger.next
  pub ledger : new.ledger ≡ record old.ledger { next = next; faults = faults_after fault old.ledger.faults }
  pub cause : ChangesCause old t changes fault
  pub leaves : is_honest old → LeavesAll old new
