-- A new SQLite source.
use Rattle.std.proofs.Common.{◌≡◌, ℕ, Bool, false, List, None, replicate, option_map, slice_index_or, zero, suc, refl, ap, ◌∙◌}
use Rattle.std.specs.Ordering.{nat_cmp}
use Rattle.std.specs.BTreeMap as tree
use Rattle.std.specs.BTreeMap.{BTreeMap}
use Rattle.sqlite.specs.Effect.{Database}
use Rattle.sqlite_tables.specs.Layouts.{layout_count}
use Rattle.sqlite_wrapper.specs.declared.scans.KeyScan.{KeyScan}
use Rattle.sqlite_wrapper.specs.Boxes.{scan_is, marked_bound, sqlite_state}
use Rattle.sqlite_wrapper.specs.SqliteBoxes.{IsNewSqlite}
use Rattle.sqlite_wrapper.proofs.Maps.{mapped_get}

unmarked : (n t : ℕ) → slice_index_or (replicate n false) t false ≡ false
unmarked zero t = refl
unmarked (suc n) zero = refl
unmarked (suc n) (suc t) = unmarked n t

pub new_source : (honest : Bool) (db : Database) (bound : List Bool) (scans : BTreeMap ℕ KeyScan) → bound ≡ replicate layout_count false
    → ((q : ℕ) → tree.get nat_cmp scans q ≡ None)
    → IsNewSqlite honest db (sqlite_state honest db bound scans None 0 0 0)
new_source honest db bound scans none_bound none_live = record {
  kind = refl;
  honest_is = refl;
  numbers = refl;
  idle = record {
    no_table = λ t. ap (λ (l : List Bool). marked_bound (slice_index_or l t false) t) none_bound
        ∙ ap (λ (f : Bool). marked_bound f t) (unmarked layout_count t);
    no_scan = λ q. mapped_get scan_is scans q ∙ ap (option_map scan_is) (none_live q);
    no_staging = refl;
  };
  next = refl;
  pulled = refl;
  faults = refl;
  holdings = refl;
}
