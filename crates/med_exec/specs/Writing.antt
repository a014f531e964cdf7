-- A write to a table of a box: the rows are read that WHERE may keep, the changes are staged, and they are made together or not at all.
use Rattle.std.specs.Prelude.{◌≡◌, ◌+◌, ◌-◌, ◌^◌, ◌≤◌, ℕ, true, false, List, [], map, length, Option, Some, Contains, nat_eq}
use Rattle.std.specs.List.{list_all, IsDistinct}
use Rattle.med_value.specs.Prelude.{phase_of, Tuple}
use Rattle.med_value.specs.declared.cause.Cause.{Cause}
use Rattle.med_value.specs.declared.cause.Cause.TheVariants.{LimitExceeded, NotNull as NullGiven}
use Rattle.med_value.specs.declared.value.ColType.{ColType}
use Rattle.tri_expr.specs.Outcome.{value_of}
use Rattle.fdw_api.specs.Prelude.{Entry, Change, is_of_run, GivenRow, TableRow, IsComing, plain_spec, row_fits, BoxTable, BoxState, is_honest, table_of, rows_of, LeavesAll, Picks, faults_after, CanModify, Written}
use Rattle.fdw_api.specs.declared.interface.Fault.{Fault}
use Rattle.fdw_api.specs.declared.interface.Fault.TheVariants.{NoMemory, Source, Refused}
use Rattle.med_exec.specs.Reading.{pulled_after}
use Rattle.loop_runs.specs.Causes.{eval_refusal}
use Rattle.med_exec.specs.Scanning.{FailsScan}
use Rattle.med_exec.specs.WriteReading.{ReadsTable}
use Rattle.med_write.specs.declared.write.WrittenColumn.{WrittenColumn}
use Rattle.med_write.specs.declared.write.WriteFault.{WriteFault}
use Rattle.med_write.specs.declared.write.WriteFault.TheVariants.{Evaluation, NotNull}
use Rattle.med_write.specs.Form.{WriteForm, insert_form, update_form, delete_form}
use Rattle.med_write.specs.Writing.{rows_written}
use Rattle.med_write.specs.Making.{cells_of, IsWriteFault, AreChanges}

-- ---- what is asked

-- whatever rows of the columns' types are read, the rows that are written are of them too
abbrev pub IsTypedWrite : List ColType → WriteForm → List Tuple → Type 0
IsTypedWrite kinds w answer =
    (rows : List Tuple) → list_all (row_fits kinds) rows ≡ true
    → list_all (λ os. row_fits kinds (map value_of os)) (rows_written w rows answer) ≡ true

-- a write may begin: its table is bound and has no live scan, nothing is staged, its rows are of the columns' types, and no two rows of
-- the table have one id
pub record CanWrite (s : BoxState) (t : ℕ) (w : WriteForm) (answer : List Tuple) : Type 0 where
  pub can : CanModify s t
  pub typed : (b : BoxTable) → table_of s t ≡ Some b → IsTypedWrite b.kinds w answer
  pub once : is_honest s → IsDistinct nat_eq (map (λ r. r.id) (rows_of s t))

-- ---- what is read

-- how many scans a write begins: an INSERT none, since it reads no row of its table
abbrev pub scans_of : WriteForm → ℕ
scans_of (insert_form places given) = 0
scans_of (update_form conditions cells) = 1
scans_of (delete_form conditions) = 1

-- the rows over which a write is defined: all rows of the table, in an order of the box's choice; of an INSERT none
abbrev pub AreRead : WriteForm → List TableRow → List GivenRow → Type 0
AreRead (insert_form places given) rows read = read ≡ []
AreRead (update_form conditions cells) rows read = IsComing rows (plain_spec [] []) [] read
AreRead (delete_form conditions) rows read = IsComing rows (plain_spec [] []) [] read

-- the rows that come by a scan that is offered WHERE were read, and nothing but the box's counts has changed
abbrev pub ReadsFor : WriteForm → BoxState → ℕ → List GivenRow → BoxState → Type 0
ReadsFor (insert_form places given) old t read new = (read ≡ []) × (new ≡ old)
ReadsFor (update_form conditions cells) old t read new = ReadsTable conditions old t read new
ReadsFor (delete_form conditions) old t read new = ReadsTable conditions old t read new

-- they were not: an INSERT reads none, which never fails
abbrev pub FailsRead : WriteForm → Fault → BoxState → BoxState → Type 0
FailsRead (insert_form places given) fault old new = ⊥
FailsRead (update_form conditions cells) fault old new = FailsScan fault old new
FailsRead (delete_form conditions) fault old new = FailsScan fault old new

-- ---- a write that is done

-- Exactly the changes of the write are made, and it is told how many rows they are of. Nothing is staged, and no scan of its own is live.
-- No more rows were given than the table has: those that do not come by WHERE are out
pub record Writes (columns : List WrittenColumn) (w : WriteForm) (answer : List Tuple) (old : BoxState) (t count : ℕ) (new : BoxState)
    : Type 0 where
  pub read : List GivenRow
  pub are_read : is_honest old → AreRead w (rows_of old t) read
  pub changes : List Change
  pub are_changes : AreChanges columns w read answer changes
  pub many : count ≡ length changes
  pub nature : new.nature ≡ old.nature
  pub given : ℕ
  pub few : given ≤ length read
  pub ledger : new.ledger
      ≡ record old.ledger { next = old.ledger.next + scans_of w; pulled = pulled_after given old.ledger.pulled }
  pub stays : old.ledger.next ≡ 2 ^ 64 - 1 → new.ledger.next ≡ 2 ^ 64 - 1
  pub content : is_honest old → Written old (record { table = t; changes = changes; broken = false }) new

-- ---- a write that is refused

-- how a fault of a write is told: 22003, 22012 and 23502
abbrev pub write_refusal : WriteFault → Fault
write_refusal (Evaluation f) = eval_refusal f
write_refusal NotNull = Refused NullGiven

-- the kind of the box says this cause of all changes of the write together
pub record KindRefuses (columns : List WrittenColumn) (w : WriteForm) (answer : List Tuple) (old : BoxState) (t : ℕ) (c : Cause)
    : Type 0 where
  pub read : List GivenRow
  pub are_read : AreRead w (rows_of old t) read
  pub changes : List Change
  pub are_changes : AreChanges columns w read answer changes
  pub bound : BoxTable
  pub is : table_of old t ≡ Some bound
  pub entry : Option Entry
  pub picked : Picks (old.content.holdings bound.remote) entry
  pub stands : Contains (bound.refuses.causes entry (rows_of old t) changes) c

-- Why a write is not done: memory was refused; the source failed, or gave one id twice, which no honest box does; its ticket numbers are
-- used up; the write has a fault over the rows of its table; or its kind refuses the changes.
pub data Bars (columns : List WrittenColumn) (w : WriteForm) (answer : List Tuple) (old : BoxState) (t : ℕ) (fault : Fault) (faults : ℕ)
    : Type 0 where
  lacks_memory : fault ≡ NoMemory → faults ≡ old.ledger.faults → Bars columns w answer old t fault faults
  source_fails : fault ≡ Source → faults ≡ faults_after Source old.ledger.faults → Bars columns w answer old t fault faults
  gives_twice : fault ≡ Source → faults ≡ old.ledger.faults → (is_honest old → ⊥) → Bars columns w answer old t fault faults
  numbers_end : fault ≡ Refused LimitExceeded → faults ≡ old.ledger.faults → old.ledger.next ≡ 2 ^ 64 - 1
      → Bars columns w answer old t fault faults
  write_shows : (f : WriteFault) (read : List GivenRow) → fault ≡ write_refusal f → faults ≡ old.ledger.faults
      → (is_honest old → AreRead w (rows_of old t) read) → IsWriteFault f columns w (cells_of read) answer
      → Bars columns w answer old t fault faults
  kind_refuses : (c : Cause) → fault ≡ Refused c → faults ≡ old.ledger.faults → is_of_run (phase_of c) ≡ true
      → (is_honest old → KindRefuses columns w answer old t c) → Bars columns w answer old t fault faults

-- a write is refused: every table is as it was, nothing is staged, and no scan of its own is live. Numbers and counts go up alone
pub record RefusesWrite (columns : List WrittenColumn) (w : WriteForm) (answer : List Tuple) (old : BoxState) (t : ℕ) (fault : Fault)
    (new : BoxState) : Type 0 where
  pub nature : new.nature ≡ old.nature
  pub next : ℕ
  pub rises : old.ledger.next ≤ next
  pub stays : old.ledger.next ≡ 2 ^ 64 - 1 → next ≡ 2 ^ 64 - 1
  pub keeps : old.nature.skips ≡ false → next ≤ old.ledger.next + scans_of w
  pub given : ℕ
  pub faults : ℕ
  pub ledger : new.ledger
      ≡ record old.ledger { next = next; pulled = pulled_after given old.ledger.pulled; faults = faults }
  pub leaves : is_honest old → LeavesAll old new
  pub bars : Bars columns w answer old t fault faults
