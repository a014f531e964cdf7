-- What a wrapper over tables by place shows.
use Rattle.std.specs.Prelude.{◌≡◌, ℕ, true, false, List, Option, option_map}
use Rattle.fdw_api.specs.Prelude.{Kind, Ledger, BoxState, IsIdle, is_honest}
use Rattle.blob_store.specs.Shelves.{Shelf}
use Rattle.place_wrapper.specs.Holdings.{held_under}
use Rattle.place_wrapper.specs.Mapped.{mapped, live_at}
use Rattle.wrapper_parts.specs.declared.changes.StagedWrite.{StagedWrite}
use Rattle.wrapper_parts.specs.Staged.{write_is}
use Rattle.place_wrapper.specs.declared.scans.LiveScan.{LiveScan}
use Rattle.place_wrapper.specs.Forms.{Form}
use Rattle.place_wrapper.specs.Boxes.{table_at, rows_held, scan_is, scan_rows}

-- the calls that failed by the source are those that failed by the blobs' device
abbrev pub place_ledger : {T : Type 0} → Form T → Shelf → List (Option T) → List (ℕ × LiveScan) → Option StagedWrite → ℕ → ℕ → Ledger
place_ledger F shelf tables scans staged next pulled = record {
  tables = λ t. option_map F.bound (table_at tables t);
  live = mapped (scan_is F tables) scans;
  staged = option_map write_is staged;
  next = next;
  pulled = pulled;
  faults = shelf.failures;
}

abbrev pub place_state : {T : Type 0} → Form T → Shelf → List (Option T) → List (ℕ × LiveScan) → Option StagedWrite → ℕ → ℕ → BoxState
place_state F shelf tables scans staged next pulled = record {
  nature = record { kind = F.kind; honest = true; skips = false; promises = false };
  ledger = place_ledger F shelf tables scans staged next pulled;
  content = record {
    holdings = held_under shelf;
    rows = λ t. rows_held F (table_at tables t);
    coming = λ q. scan_rows F tables (live_at scans q);
  };
}

-- a new source of these blobs: honest, nothing bound, live or staged, and no row given
pub record IsNewPlaces (kind : Kind) (s : BoxState) (shelf : Shelf) : Type 0 where
  pub kind_is : s.nature.kind ≡ kind
  pub honest : is_honest s
  pub numbers : s.nature.skips ≡ false
  pub idle : IsIdle s
  pub next : s.ledger.next ≡ 0
  pub pulled : s.ledger.pulled ≡ 0
  pub faults : s.ledger.faults ≡ shelf.failures
  pub holdings : s.content.holdings ≡ held_under shelf
