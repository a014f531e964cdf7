-- The map of a shuffled wrapper's scans as the turns that it shows.
use Rattle.std.proofs.Common.{◌≡◌, ℕ, ◌^◌, ◌<◌, true, false, List, [], ◌∷◌, length, map, Option, Some, None, IsSome, IfSome, option_map, refl, ap, sym, ◌∙◌, subst}
use Rattle.std.specs.Ordering.{nat_cmp}
use Rattle.std.specs.Map.{lookup}
use Rattle.std.specs.BTreeMap as tree
use Rattle.std.specs.BTreeMap.{BTreeMap, is_at}
use Rattle.std.proofs.lemmas.List.{length-map}
use Rattle.std.proofs.lemmas.Option.{same_Some}
use Rattle.med_value.specs.Datum.{Tuple}
use Rattle.fdw_api.specs.Prelude.{GivenRow, BoxState, row_of, bumped, IsOpen, Breaks, CanRescan, Rescans}
use Rattle.fdw_api.specs.declared.interface.Fault.{Fault}
use Rattle.fdw_api.specs.declared.interface.SourceRow.{SourceRow}
use Rattle.probe_wrapper.specs.declared.shuffled.TurnedScan.{TurnedScan}
use Rattle.probe_wrapper.specs.Shuffled.{turned, Turn, turn_of, turns_of, turned_coming, reordered, is_unread, IsRead, Becomes, Stays, TurnsRows, StopsOut, IsTurned}
use Rattle.probe_wrapper.proofs.SeenScans.{apart}
use Rattle.probe_wrapper.proofs.ShuffledLemmas.{turned_map}
use Rattle.probe_wrapper.proofs.ShuffledCalls.{open_in, breaks_first, rescans}

pub becomes_of : (old new : BTreeMap ℕ TurnedScan) (number : ℕ) (scan : TurnedScan) → tree.Updates nat_cmp old new number (Some scan) → Becomes (turns_of old) number (turn_of scan) (turns_of new)
becomes_of old new number scan u = record {
  now = ap (option_map turn_of) u.1;
  others = λ q ne. ap (option_map turn_of) (u.2 q (apart number q ne));
}

pub stays_of : (old new : BTreeMap ℕ TurnedScan) → new.entries ≡ old.entries → Stays (turns_of old) (turns_of new)
stays_of old new e = λ q. ap (λ (es : List (ℕ × TurnedScan)). option_map turn_of (lookup (is_at (nat_cmp q)) es)) e

-- an open scan is in the map
pub entry_is_there : (s : BoxState) (scans : BTreeMap ℕ TurnedScan) (p q : ℕ) → IsOpen (reordered s (turns_of scans) p) q → IsSome (tree.get nat_cmp scans q)
entry_is_there s scans p q o = go (tree.get nat_cmp scans q) (open_in s (turns_of scans) p q o.0 o.1 o.2).at
  where
    go : (e : Option TurnedScan) {t : Turn} → option_map turn_of e ≡ Some t → IsSome e
    go None i = absurd cc
    go (Some x) i = refl

-- and what is done with its entry is done with its turn
pub changed : (old new : BTreeMap ℕ TurnedScan) (number : ℕ) (turn : Turn) (f : TurnedScan → TurnedScan) (h : Turn → Turn) → ((x : TurnedScan) → turn_of (f x) ≡ h (turn_of x)) → turns_of old number ≡ Some turn → IfSome (tree.get nat_cmp old number) (λ x. tree.Updates nat_cmp old new number (Some (f x))) → Becomes (turns_of old) number (h turn) (turns_of new)
changed old new number turn f h same at u = go (tree.get nat_cmp old number) at u
  where
    go : (e : Option TurnedScan) → option_map turn_of e ≡ Some turn → IfSome e (λ x. tree.Updates nat_cmp old new number (Some (f x))) → Becomes (turns_of old) number (h turn) (turns_of new)
    go None i u = absurd cc
    go (Some x) i u = subst (λ (t : Turn). Becomes (turns_of old) number t (turns_of new)) (same x ∙ ap h (same_Some (turn_of x) turn i)) (becomes_of old new number (f x) u)

pub breaks_read : (s t : BoxState) (old new : BTreeMap ℕ TurnedScan) (p q : ℕ) (fault : Fault) → IsOpen (reordered s (turns_of old) p) q → StopsOut s q fault t → IfSome (tree.get nat_cmp old q) (λ x. tree.Updates nat_cmp old new q (Some (record x { broken = true }))) → Breaks (reordered s (turns_of old) p) q fault (reordered t (turns_of new) p)
breaks_read s t old new p q fault o r u =
    let w = open_in s (turns_of old) p q o.0 o.1 o.2 in
    breaks_first (turns_of old) (turns_of new) p s t q w.turn fault w.at r
    (changed old new q w.turn (λ (x : TurnedScan). record x { broken = true }) (λ (x : Turn). record x { broken = true }) (λ x. refl) w.at u)

-- rows that were read wait
pub is_read : (o : Option Turn) → IsSome o → is_unread o ≡ false → IsRead o
is_read None i e = absurd cc
is_read (Some t) i e = go t.waiting refl e
  where
    go : (w : Option (List GivenRow)) → t.waiting ≡ w → is_unread (Some (record t { waiting = w })) ≡ false → IsRead (Some t)
    go None f e = absurd cc
    go (Some rows) f e = (t, rows, refl, f)

pub turn_is_there : (s : BoxState) (scans : BTreeMap ℕ TurnedScan) (p q : ℕ) → IsOpen (reordered s (turns_of scans) p) q → IsSome (turns_of scans q)
turn_is_there s scans p q o = subst IsSome (sym (open_in s (turns_of scans) p q o.0 o.1 o.2).at) refl

-- rows are turned
shown_turned : (places : ℕ) (rows after : List SourceRow) → after ≡ turned places rows → turned places (map row_of rows) ≡ map row_of after
shown_turned places rows after e = turned_map row_of places rows ∙ ap (map row_of) (sym e)

pub turns_none : (scans : BTreeMap ℕ TurnedScan) (number places : ℕ) (rows after : List SourceRow) → IsSome (tree.get nat_cmp scans number) → IfSome (tree.get nat_cmp scans number) (λ x. places ≡ x.places) → length rows < 2 ^ 64 → after ≡ turned places rows → after ≡ [] → TurnsRows (turns_of scans) number (map row_of rows) None (turns_of scans)
turns_none scans number places rows after there is small e none = go (tree.get nat_cmp scans number) refl there is
  where
    go : (o : Option TurnedScan) → tree.get nat_cmp scans number ≡ o → IsSome o → IfSome o (λ x. places ≡ x.places) → TurnsRows (turns_of scans) number (map row_of rows) None (turns_of scans)
    go None f i is = absurd cc
    go (Some x) f i is = record {
      turn = turn_of x;
      at = ap (option_map turn_of) f;
      small = subst (λ (n : ℕ). n < 2 ^ 64) (sym (length-map rows row_of)) small;
      hands = (ap (λ (n : ℕ). turned n (map row_of rows)) (sym is) ∙ shown_turned places rows after e ∙ ap (map row_of) none, λ q. refl);
    }

pub turns_some : (old new : BTreeMap ℕ TurnedScan) (number places : ℕ) (rows after rest : List SourceRow) (row : SourceRow) (f : TurnedScan → TurnedScan) → ((x : TurnedScan) → turn_of (f x) ≡ record (turn_of x) { waiting = Some (map row_of rest) }) → IsSome (tree.get nat_cmp old number) → IfSome (tree.get nat_cmp old number) (λ x. places ≡ x.places) → length rows < 2 ^ 64 → after ≡ turned places rows → after ≡ row ∷ rest → IfSome (tree.get nat_cmp old number) (λ x. tree.Updates nat_cmp old new number (Some (f x))) → TurnsRows (turns_of old) number (map row_of rows) (Some row) (turns_of new)
turns_some old new number places rows after rest row f same there is small e first u = go (tree.get nat_cmp old number) refl there is u
  where
    go : (o : Option TurnedScan) → tree.get nat_cmp old number ≡ o → IsSome o → IfSome o (λ x. places ≡ x.places) → IfSome o (λ x. tree.Updates nat_cmp old new number (Some (f x))) → TurnsRows (turns_of old) number (map row_of rows) (Some row) (turns_of new)
    go None g i is u = absurd cc
    go (Some x) g i is u = record {
      turn = turn_of x;
      at = ap (option_map turn_of) g;
      small = subst (λ (n : ℕ). n < 2 ^ 64) (sym (length-map rows row_of)) small;
      hands = (
        map row_of rest,
        ap (λ (n : ℕ). turned n (map row_of rows)) (sym is) ∙ shown_turned places rows after e ∙ ap (map row_of) first,
        subst (λ (t : Turn). Becomes (turns_of old) number t (turns_of new)) (same x) (becomes_of old new number (f x) u),
      );
    }

-- a scan begins again
pub restarts : (s t : BoxState) (old new : BTreeMap ℕ TurnedScan) (p q places : ℕ) (params : Tuple) → CanRescan (reordered s (turns_of old) p) q params → Rescans s q params t → IfSome (tree.get nat_cmp old q) (λ x. tree.Updates nat_cmp old new q (Some (record x { places = places; rows = None }))) → Rescans (reordered s (turns_of old) p) q params (reordered t (turns_of new) p)
restarts s t old new p q places params c r u =
    rescans (turns_of old) (turns_of new) p s t q places params c r
    (λ turn at. changed old new q turn (λ (x : TurnedScan). record x { places = places; rows = None }) (λ (x : Turn). record x { places = places; waiting = None }) (λ x. refl) at u)

pub restarts_turned : (s t : BoxState) (old new : BTreeMap ℕ TurnedScan) (p q before places : ℕ) (params : Tuple) → CanRescan (reordered s (turns_of old) p) q params → places ≡ bumped before → IfSome (tree.get nat_cmp old q) (λ x. tree.Updates nat_cmp old new q (Some (record x { places = places; rows = None }))) → IsTurned before q t (reordered t (turns_of new) p) places
restarts_turned s t old new p q before places params c e u =
    let w = open_in s (turns_of old) p q c.scan c.at c.whole in
    let b = changed old new q w.turn (λ (x : TurnedScan). record x { places = places; rows = None }) (λ (x : Turn). record x { places = places; waiting = None }) (λ x. refl) w.at u in
    record { counted = e; coming = ap (λ (o : Option Turn). turned_coming o (t.content.coming q)) b.now }
