-- A new list source.
use Rattle.std.proofs.Common.{◌≡◌, ℕ, Bool, false, List, None, map, option_map, replicate, slice_get, slice_index_or, refl, ap, ◌∙◌, zero, suc}
use Rattle.std.specs.Ordering.{nat_cmp}
use Rattle.std.specs.BTreeMap as tree
use Rattle.std.specs.BTreeMap.{BTreeMap}
use Rattle.list_wrapper.specs.declared.held_tables.Table.{Table}
use Rattle.list_wrapper.specs.declared.scans.ListScan.{ListScan}
use Rattle.list_wrapper.specs.Lists.{IsNewList}
use Rattle.list_wrapper.specs.Scans.{table_listed, list_state, marked_bound, scan_is}
use Rattle.list_wrapper.proofs.Maps.{mapped_get}

-- no table is marked
unmarked : (n t : ℕ) → slice_index_or (replicate n false) t false ≡ false
unmarked zero t = refl
unmarked (suc n) zero = refl
unmarked (suc n) (suc t) = unmarked n t

pub new_list : (tables : List Table) (bound : List Bool) (scans : BTreeMap ℕ ListScan) (n : ℕ) → bound ≡ replicate n false → ((q : ℕ) → tree.get nat_cmp scans q ≡ None) → IsNewList (list_state tables bound scans None 0 0) (map table_listed tables)
new_list tables bound scans n none_bound none_live = record {
  kind = refl;
  honest = refl;
  idle = record {
    no_table = λ t. ap (λ (f : Bool). marked_bound f (slice_get tables t)) (ap (λ (l : List Bool). slice_index_or l t false) none_bound ∙ unmarked n t);
    no_scan = λ q. mapped_get (scan_is tables) scans q ∙ ap (option_map (scan_is tables)) (none_live q);
    no_staging = refl;
  };
  next = refl;
  pulled = refl;
  faults = refl;
  holdings = λ remote. refl;
}
