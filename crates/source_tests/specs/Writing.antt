-- A write that may go on.
use Rattle.std.specs.Prelude.{◌≡◌, ℕ, false, List, Some}
use Rattle.med_value.specs.declared.value.ColType.{ColType}
use Rattle.fdw_api.specs.Prelude.{BoxTable, Staging, BoxState, table_of, NoScan}

-- a write to a table of these types is under way and not broken, and the table has no live scan
pub record IsWriting (s : BoxState) (t : ℕ) (kinds : List ColType) : Type 0 where
  pub staging : Staging
  pub is_staged : s.ledger.staged ≡ Some staging
  pub whole : staging.broken ≡ false
  pub on : staging.table ≡ t
  pub bound : BoxTable
  pub is : table_of s t ≡ Some bound
  pub kinds_are : bound.kinds ≡ kinds
  pub no_scan : NoScan s t
