-- Reading what a scan gives: BeginForeignScan, IterateForeignScan until no row is left or one fails, EndForeignScan.
use Rattle.std.specs.Prelude.{◌≡◌, ◌+◌, ◌-◌, ◌^◌, ◌<◌, ◌≤◌, ◌⊎◌, ℕ, false, List, [], length}
use Rattle.med_value.specs.Datum.{Tuple}
use Rattle.fdw_api.specs.Prelude.{Spec, GivenRow, IsComing, BoxState, is_honest, rows_of, LeavesAll, faults_after, BeginCause}
use Rattle.fdw_api.specs.declared.interface.Fault.{Fault}
use Rattle.med_exec.specs.Reading.{pulled_after}
use Rattle.med_write.specs.Making.{cells_of}

-- one scan by this specification, without parameters, was begun, gave these rows and was ended: they are some that it may give,
-- whatever the wrapper took over
pub record RunsScan (old : BoxState) (table : ℕ) (spec : Spec) (given : List Tuple) (new : BoxState) : Type 0 where
  pub nature : new.nature ≡ old.nature
  pub room : old.ledger.next < 2 ^ 64 - 1
  pub ledger : new.ledger ≡ record old.ledger { next = old.ledger.next + 1; pulled = pulled_after (length given) old.ledger.pulled }
  pub leaves : is_honest old → LeavesAll old new
  pub rows : is_honest old → (coming : List GivenRow) × IsComing (rows_of old table) spec [] coming × (given ≡ cells_of coming)

-- a fault stood against the scan: it was not begun and gave no row, or was begun, gave some rows and was ended. No number but its
-- own was used, but in a wrapper whose refused calls may use numbers up. 54000 comes only where ticket numbers were used up, and a
-- source's fault is counted
pub record FailsScan (fault : Fault) (old new : BoxState) : Type 0 where
  pub nature : new.nature ≡ old.nature
  pub next : ℕ
  pub rises : old.ledger.next ≤ next
  pub stays : old.ledger.next ≡ 2 ^ 64 - 1 → next ≡ 2 ^ 64 - 1
  pub keeps : old.nature.skips ≡ false → next ≤ old.ledger.next + 1
  pub given : ℕ
  pub once : (given ≡ 0) ⊎ (next ≡ old.ledger.next + 1)
  pub ledger : new.ledger ≡ record old.ledger {
    next = next;
    pulled = pulled_after given old.ledger.pulled;
    faults = faults_after fault old.ledger.faults;
  }
  pub leaves : is_honest old → LeavesAll old new
  pub cause : BeginCause fault old.ledger.next
