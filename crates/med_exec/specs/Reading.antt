-- One scan, from its begin to its end.
use Rattle.std.specs.Prelude.{◌≡◌, ◌≢◌, ℕ, zero, suc, List, length, Some}
use Rattle.med_value.specs.Datum.{Tuple}
use Rattle.fdw_api.specs.Prelude.{Scan, BoxState, is_honest, scan_of, bumped, LeavesOthers, faults_after, not_refused}
use Rattle.fdw_api.specs.declared.interface.Fault.{Fault}
use Rattle.med_write.specs.Making.{cells_of}

-- `pulled` after so many rows were given: one more with each, staying at 2^64 - 1
abbrev pub pulled_after : ℕ → ℕ → ℕ
pulled_after zero pulled = pulled
pulled_after (suc given) pulled = bumped (pulled_after given pulled)

-- what reading a scan leaves as it was: all but that scan, `pulled` and `faults`
pub record Keeps (number : ℕ) (old new : BoxState) : Type 0 where
  pub nature : new.nature ≡ old.nature
  pub tables : new.ledger.tables ≡ old.ledger.tables
  pub staged : new.ledger.staged ≡ old.ledger.staged
  pub next : new.ledger.next ≡ old.ledger.next
  pub others : (q : ℕ) → q ≢ number → scan_of new q ≡ scan_of old q
  pub leaves : is_honest old → LeavesOthers number old new

-- the scan has given all its rows, and is live still
pub record GivesAll (number : ℕ) (old : BoxState) (given : List Tuple) (new : BoxState) : Type 0 where
  pub scan : Scan
  pub now : scan_of new number ≡ Some scan
  pub keeps : Keeps number old new
  pub pulled : new.ledger.pulled ≡ pulled_after (length given) old.ledger.pulled
  pub faults : new.ledger.faults ≡ old.ledger.faults
  pub all : is_honest old → cells_of (old.content.coming number) ≡ given

-- a fault came before the scan had given all its rows, and the scan is live still
pub record StopsBy (number : ℕ) (fault : Fault) (old new : BoxState) : Type 0 where
  pub scan : Scan
  pub now : scan_of new number ≡ Some scan
  pub keeps : Keeps number old new
  pub given : ℕ
  pub pulled : new.ledger.pulled ≡ pulled_after given old.ledger.pulled
  pub faults : new.ledger.faults ≡ faults_after fault old.ledger.faults
  pub no_cause : not_refused fault
