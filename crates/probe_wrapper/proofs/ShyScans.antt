-- The map of a shy wrapper as the scans that were asked for.
use Rattle.std.proofs.Common.{◌≡◌, ℕ, Bool, true, List, [], map, Option, Some, None, IsSome, IfSome, option_map, refl, ap, ◌∙◌}
use Rattle.std.specs.Ordering.{nat_cmp}
use Rattle.std.specs.Global.{Vec}
use Rattle.std.specs.Map.{lookup}
use Rattle.std.specs.BTreeMap as tree
use Rattle.std.specs.BTreeMap.{BTreeMap, is_at}
use Rattle.std.proofs.lemmas.Option.{same_Some}
use Rattle.med_value.specs.Datum.{Tuple, datum}
use Rattle.med_value.specs.declared.value.Value.{Value}
use Rattle.fdw_api.specs.Prelude.{BoxState, IsOpen, Breaks, CanRescan, Rescans}
use Rattle.fdw_api.specs.declared.interface.Fault.TheVariants.{NoMemory}
use Rattle.probe_wrapper.specs.declared.shy.AskedScan.{AskedScan}
use Rattle.probe_wrapper.specs.Shy.{AskedForm, asked_form, asked_of, hidden}
use Rattle.probe_wrapper.proofs.SeenScans.{apart}
use Rattle.probe_wrapper.proofs.ShyLemmas.{open_in}
use Rattle.probe_wrapper.proofs.ShyCalls.{rescans, spoils, AsksNow}

pub asks_of : (old new : BTreeMap ℕ AskedScan) (number : ℕ) (scan : AskedScan) (ask : AskedForm) → asked_form scan ≡ ask → tree.Updates nat_cmp old new number (Some scan) → AsksNow (asked_of old) number ask (asked_of new)
asks_of old new number scan ask e u = record {
  now = ap (option_map asked_form) u.1 ∙ ap (λ (a : AskedForm). Some a) e;
  others = λ q ne. ap (option_map asked_form) (u.2 q (apart number q ne));
}

pub stays_of : (old new : BTreeMap ℕ AskedScan) → new.entries ≡ old.entries → (q : ℕ) → asked_of new q ≡ asked_of old q
stays_of old new e q = ap (λ (es : List (ℕ × AskedScan)). option_map asked_form (lookup (is_at (nat_cmp q)) es)) e

-- an open scan is in the map
pub entry_is_there : (hints : Bool) (s : BoxState) (scans : BTreeMap ℕ AskedScan) (q : ℕ) → IsOpen (hidden hints s (asked_of scans)) q → IsSome (tree.get nat_cmp scans q)
entry_is_there hints s scans q o = go (tree.get nat_cmp scans q) (open_in hints s (asked_of scans) q o.0 o.1 o.2).at
  where
    go : (e : Option AskedScan) {a : AskedForm} → option_map asked_form e ≡ Some a → IsSome e
    go None i = absurd cc
    go (Some x) i = refl

-- and what is done with its entry is done with what was asked
changed : (old new : BTreeMap ℕ AskedScan) (number : ℕ) (ask : AskedForm) (f : AskedScan → AskedScan) (h : AskedForm → AskedForm) → ((x : AskedScan) → asked_form (f x) ≡ h (asked_form x)) → asked_of old number ≡ Some ask → IfSome (tree.get nat_cmp old number) (λ x. tree.Updates nat_cmp old new number (Some (f x))) → AsksNow (asked_of old) number (h ask) (asked_of new)
changed old new number ask f h same at u = go (tree.get nat_cmp old number) at u
  where
    go : (e : Option AskedScan) → option_map asked_form e ≡ Some ask → IfSome e (λ x. tree.Updates nat_cmp old new number (Some (f x))) → AsksNow (asked_of old) number (h ask) (asked_of new)
    go None i u = absurd cc
    go (Some x) i u = asks_of old new number (f x) (h ask) (same x ∙ ap h (same_Some (asked_form x) ask i)) u

pub spoiled : (hints : Bool) (s : BoxState) (old new : BTreeMap ℕ AskedScan) (q : ℕ) → IsOpen (hidden hints s (asked_of old)) q → IfSome (tree.get nat_cmp old q) (λ x. tree.Updates nat_cmp old new q (Some (record x { broken = true }))) → Breaks (hidden hints s (asked_of old)) q NoMemory (hidden hints s (asked_of new))
spoiled hints s old new q o u =
    spoils hints (asked_of old) (asked_of new) s q o
    (λ ask at. changed old new q ask (λ (x : AskedScan). record x { broken = true }) (λ (a : AskedForm). record a { broken = true }) (λ x. refl) at u)

pub asked_again : (hints : Bool) (s t : BoxState) (old new : BTreeMap ℕ AskedScan) (q : ℕ) (params : Tuple) (copies : Vec Value) → map datum copies.items ≡ params → CanRescan (hidden hints s (asked_of old)) q params → Rescans s q [] t → IfSome (tree.get nat_cmp old q) (λ x. tree.Updates nat_cmp old new q (Some (record x { params = copies }))) → Rescans (hidden hints s (asked_of old)) q params (hidden hints t (asked_of new))
asked_again hints s t old new q params copies e c r u =
    rescans hints (asked_of old) (asked_of new) s t q params c r
    (λ ask at. changed old new q ask (λ (x : AskedScan). record x { params = copies }) (λ (a : AskedForm). record a { params = params }) (λ x. ap (λ (p : Tuple). record (asked_form x) { params = p }) e) at u)
