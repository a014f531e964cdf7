-- What a wrapper shows that offers its inner one nothing: what that shows, but that it allows only scans of whole rows for which no restriction
-- is answered Exact; a shy one allows Ignored alone, a vague one Hint too. Each scan is seen as it was asked for.
use Rattle.std.specs.Prelude.{◌≡◌, ℕ, Bool, true, false, not, ◌&&◌, ◌||◌, List, [], ◌∷◌, length, map, replicate, Option, Some, None, option_map}
use Rattle.std.specs.Ordering.{nat_cmp}
use Rattle.std.specs.BTreeMap as tree
use Rattle.std.specs.BTreeMap.{BTreeMap}
use Rattle.med_value.specs.Datum.{Tuple, datum}
use Rattle.fdw_api.specs.Prelude.{Spec, RestrictionForm, spec_of, BoxTable, Scan, Ledger, BoxState, scan_of, whole_asks_rest, is_unpromised}
use Rattle.fdw_api.specs.declared.scan.Agree.{Agree}
use Rattle.fdw_api.specs.declared.scan.Agree.TheVariants.{Ignored, Hint, Exact}
use Rattle.probe_wrapper.specs.LiveScans.{round, each_seen}
use Rattle.probe_wrapper.specs.declared.shy.Shy.{Shy}
use Rattle.probe_wrapper.specs.declared.shy.AskedScan.{AskedScan}

-- one Ignored for each restriction, or where hints are given a Hint
abbrev pub all_left : (hints : Bool) → List RestrictionForm → List Agree → Bool
all_left hints [] [] = true
all_left hints [] (a ∷ answers) = false
all_left hints (f ∷ fs) [] = false
all_left hints (f ∷ fs) (Ignored ∷ answers) = all_left hints fs answers
all_left hints (f ∷ fs) (Hint ∷ answers) = hints && all_left hints fs answers
all_left hints (f ∷ fs) (Exact ∷ answers) = false

-- whole rows, and no restriction kept or order or limit promised
abbrev pub is_plain : (hints : Bool) → Spec → Bool
is_plain hints spec = not spec.narrow && (is_unpromised spec && all_left hints spec.offered spec.answers)

-- plain scans are so
pub plain_is_left : (hints : Bool) (fs : List RestrictionForm) → all_left hints fs (replicate (length fs) Ignored) ≡ true
plain_is_left hints [] = mathlib.Core.Path.refl
plain_is_left hints (f ∷ fs) = plain_is_left hints fs

-- no restriction
abbrev pub has_none : List RestrictionForm → Bool
has_none [] = true
has_none (f ∷ fs) = false

-- whole rows, and nothing offered or promised
abbrev pub is_bare : Spec → Bool
is_bare spec = not spec.narrow && (is_unpromised spec && has_none spec.offered)

-- a scan as it was asked for, and whether it is good for `end` alone
pub record AskedForm : Type 0 where
  pub spec : Spec
  pub params : Tuple
  pub broken : Bool

abbrev pub asked_form : AskedScan → AskedForm
asked_form a = record { spec = spec_of a.spec; params = map datum a.params.items; broken = a.broken }

-- the scans by ticket number
abbrev pub asked_of : BTreeMap ℕ AskedScan → ℕ → Option AskedForm
asked_of scans q = option_map asked_form (tree.get nat_cmp scans q)

-- a scan that was just begun
abbrev pub new_ask : Spec → Tuple → AskedForm
new_ask spec params = record { spec = spec; params = params; broken = false }

-- a plain scan stands on a bare inner one
abbrev pub stands : (hints : Bool) → AskedForm → Scan → Bool
stands hints a s = is_plain hints a.spec && is_bare s.spec

-- an inner scan as it is seen: as it was asked for. One that was not begun through this wrapper is good for `end` alone
abbrev pub asked_scan : (hints : Bool) → Option AskedForm → Scan → Scan
asked_scan hints None s = record s { broken = true }
asked_scan hints (Some a) s = record s { spec = a.spec; params = a.params; broken = a.broken || (s.broken || not (stands hints a s)) }

-- a bound table, and all that is shown
abbrev pub hidden_bound : (hints : Bool) → BoxTable → BoxTable
hidden_bound hints b = record b {
  allows = is_plain hints;
  allows_plain = λ wanted offered. plain_is_left hints offered;
  allows_whole = λ spec allowed. whole_asks_rest spec.narrow (is_unpromised spec && all_left hints spec.offered spec.answers) allowed;
}

abbrev pub hidden_ledger : (hints : Bool) → (ℕ → Option AskedForm) → Ledger → Ledger
hidden_ledger hints asked l = record l {
  tables = λ t. option_map (hidden_bound hints) (l.tables t);
  live = each_seen (λ q. asked_scan hints (asked q)) l.live;
}

abbrev pub hidden : (hints : Bool) → BoxState → (ℕ → Option AskedForm) → BoxState
hidden hints s asked = record { nature = round s.nature; ledger = hidden_ledger hints asked s.ledger; content = s.content }

abbrev pub shied : BoxState → (ℕ → Option AskedForm) → BoxState
shied = hidden false

-- the scan of this number gives whole rows, offers no restriction and has no parameter
pub record OffersNothing (s : BoxState) (number : ℕ) : Type 0 where
  pub scan : Scan
  pub at : scan_of s number ≡ Some scan
  pub whole_rows : scan.spec.narrow ≡ false
  pub offers_none : scan.spec.offered ≡ []
  pub no_params : scan.params ≡ []

-- the scan of this number wants these columns
pub record Wants (s : BoxState) (number : ℕ) (columns : List ℕ) : Type 0 where
  pub scan : Scan
  pub at : scan_of s number ≡ Some scan
  pub wanted : scan.spec.wanted ≡ columns

-- what a shy wrapper shows as a wrapper
abbrev pub box_of : {W : Type 0} → (W → BoxState) → Shy W → BoxState
box_of meaning b = shied (meaning b.inner) (asked_of b.scans)
