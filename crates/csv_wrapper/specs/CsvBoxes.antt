-- What a CSV wrapper shows as a wrapper.
use Rattle.std.specs.Prelude.{◌≡◌, false}
use Rattle.fdw_api.specs.State.{BoxState, IsIdle, is_honest}
use Rattle.blob_store.specs.Shelves.{Shelf}
use Rattle.place_wrapper.specs.Holdings.{held_under}
use Rattle.csv_wrapper.specs.CsvKind.{csv_kind}

-- a new CSV source over these blobs: honest, nothing bound, live or staged, and no row given
pub record IsNewCsv (s : BoxState) (shelf : Shelf) : Type 0 where
  pub kind : s.nature.kind ≡ csv_kind
  pub honest : is_honest s
  pub numbers : s.nature.skips ≡ false
  pub idle : IsIdle s
  pub next : s.ledger.next ≡ 0
  pub pulled : s.ledger.pulled ≡ 0
  pub faults : s.ledger.faults ≡ shelf.failures
  pub holdings : s.content.holdings ≡ held_under shelf
