-- A new source of tables by place.
use Rattle.std.proofs.Common.{◌≡◌, ℕ, List, [], Option, Some, None, option_map, refl, ap, ◌∙◌}
use Rattle.blob_store.specs.Shelves.{Shelf}
use Rattle.place_wrapper.proofs.Maps.{mapped_get}
use Rattle.place_wrapper.specs.declared.scans.LiveScan.{LiveScan}
use Rattle.place_wrapper.specs.Forms.{Form}
use Rattle.place_wrapper.specs.Boxes.{table_at, scan_is, ScansFit}
use Rattle.place_wrapper.specs.States.{place_state, IsNewPlaces}
use Rattle.place_wrapper.specs.Mapped.{live_at}

none_some : {A : Type 0} (o : Option A) (x : A) → o ≡ None → o ≡ Some x → ⊥
none_some None x a b = cc
none_some (Some y) x a b = cc

module _ {T : Type 0} (F : Form T) where
  pub new_places : (shelf : Shelf) (tables : List (Option T)) (scans : List (ℕ × LiveScan)) → tables ≡ [] → ((q : ℕ) → live_at scans q ≡ None) → IsNewPlaces F.kind (place_state F shelf tables scans None 0 0) shelf
  new_places shelf tables scans none_bound none_live = record {
    kind_is = refl;
    honest = refl;
    numbers = refl;
    idle = record {
      no_table = λ t. ap (λ (l : List (Option T)). option_map F.bound (table_at l t)) none_bound;
      no_scan = λ q. mapped_get (scan_is F tables) scans q ∙ ap (option_map (scan_is F tables)) (none_live q);
      no_staging = refl;
    };
    next = refl;
    pulled = refl;
    faults = refl;
    holdings = refl;
  }

  pub none_fitting : (tables : List (Option T)) (scans : List (ℕ × LiveScan)) → ((q : ℕ) → live_at scans q ≡ None) → ScansFit F tables scans
  none_fitting tables scans none q s e = absurd (none_some _ s (none q) e)

  pub none_bound : (tables : List (Option T)) → tables ≡ [] → (t : ℕ) (x : T) → table_at tables t ≡ Some x → ⊥
  none_bound tables none t x e = none_some _ x (ap (λ (l : List (Option T)). table_at l t) none) e
