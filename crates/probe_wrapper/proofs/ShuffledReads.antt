-- How the calls go together by which a shuffled wrapper reads an inner scan.
use Rattle.std.proofs.Common.{◌≡◌, ◌≢◌, ℕ, ◌<◌, true, false, List, [], ◌∷◌, ◌++◌, append_assoc, Option, Some, None, IsSome, refl, ap, sym, ◌∙◌, subst, arith}
use Rattle.std.specs.FinMap as finmap
use Rattle.std.proofs.lemmas.List.{append-nil}
use Rattle.std.specs.List.{list_all}
use Rattle.std.proofs.lemmas.List.Folds.{list_all-append}
use Rattle.std.proofs.lemmas.Option.{same_Some}
use Rattle.fdw_api.specs.Prelude.{GivenRow, shown_fits, Nature, Scan, Ledger, BoxState, is_honest, scan_of, LeavesOthers, bumped, faults_after, IsOpen, GivesRow, GivesNone, Breaks}
use Rattle.fdw_api.specs.declared.interface.Fault.{Fault}
use Rattle.fdw_api.specs.declared.interface.Fault.TheVariants.{NoMemory}
use Rattle.probe_wrapper.specs.Shuffled.{ReadsOut, StopsOut}
use Rattle.probe_wrapper.proofs.SeenScans.{Scans, put_same, put_other, put_again, put_twice}

-- how many rows a scan may still give at most
abbrev pub left_in : Option Scan → ℕ
left_in None = 0
left_in (Some s) = s.left

-- the scan has given these rows, and is good for more
pub record HasRead (number : ℕ) (old : BoxState) (rows : List GivenRow) (new : BoxState) : Type 0 where
  pub nature : new.nature ≡ old.nature
  pub scan : Scan
  pub at : scan_of old number ≡ Some scan
  pub whole : scan.broken ≡ false
  pub left : ℕ
  pub pulled : ℕ
  pub ledger : new.ledger ≡ record old.ledger { live = finmap.insert old.ledger.live number (record scan { left = left }); pulled = pulled }
  pub typed : list_all (λ r. shown_fits scan.kinds scan.spec r.cells) rows ≡ true
  pub coming : is_honest old → old.content.coming number ≡ rows ++ new.content.coming number
  pub leaves : is_honest old → LeavesOthers number old new

honest_on : (s t : BoxState) → t.nature ≡ s.nature → is_honest s → is_honest t
honest_on s t e h = ap (λ (n : Nature). n.honest) e ∙ h

leaves_on : (n : ℕ) (a b c : BoxState) → ((q : ℕ) → q ≢ n → scan_of b q ≡ scan_of a q) → LeavesOthers n a b → LeavesOthers n b c → LeavesOthers n a c
leaves_on n a b c same l k = record {
  coming = λ q live other. k.coming q (subst IsSome (sym (same q other)) live) other ∙ l.coming q live other;
  rows = λ t o. k.rows t o ∙ l.rows t o;
  holdings = λ r o. k.holdings r o ∙ l.holdings r o;
}

pub start : (n : ℕ) (s : BoxState) → IsOpen s n → HasRead n s [] s
start n s o = record {
  nature = refl;
  scan = o.0;
  at = o.1;
  whole = o.2;
  left = o.0.left;
  pulled = s.ledger.pulled;
  ledger = sym (ap (λ (m : Scans). record s.ledger { live = m }) (put_again s.ledger.live n o.0 o.1));
  typed = refl;
  coming = λ h. refl;
  leaves = λ h. record { coming = λ q l o. refl; rows = λ t o. refl; holdings = λ r o. refl };
}

now : (n : ℕ) (old s : BoxState) (rows : List GivenRow) (h : HasRead n old rows s) → scan_of s n ≡ Some (record h.scan { left = h.left })
now n old s rows h = ap (λ z. finmap.get z.live n) h.ledger ∙ put_same old.ledger.live n (record h.scan { left = h.left })

pub open_now : (n : ℕ) (old s : BoxState) (rows : List GivenRow) → HasRead n old rows s → IsOpen s n
open_now n old s rows h = (record h.scan { left = h.left }, now n old s rows h, h.whole)

others : (n : ℕ) (old s : BoxState) (rows : List GivenRow) → HasRead n old rows s → (q : ℕ) → q ≢ n → scan_of s q ≡ scan_of old q
others n old s rows h q ne = ap (λ z. finmap.get z.live q) h.ledger ∙ put_other old.ledger.live n q (record h.scan { left = h.left }) ne

gone_on : (n : ℕ) (old s new : BoxState) (rows : List GivenRow) (h : HasRead n old rows s) → (is_honest s → LeavesOthers n s new) → is_honest old → LeavesOthers n old new
gone_on n old s new rows h l honest = leaves_on n old s new (others n old s rows h) (h.leaves honest) (l (honest_on old s h.nature honest))

row_ledger : (n : ℕ) (old s new : BoxState) (rows : List GivenRow) (row : GivenRow) (h : HasRead n old rows s) (g : GivesRow s n row new) → new.ledger ≡ record old.ledger { live = finmap.insert old.ledger.live n (record h.scan { left = g.left }); pulled = bumped h.pulled }
row_ledger n old s new rows row h g =
    let same : g.scan ≡ record h.scan { left = h.left } = same_Some g.scan (record h.scan { left = h.left }) (sym g.at ∙ now n old s rows h) in
    g.ledger
    ∙ ap (λ (l : Ledger). record l { live = finmap.insert l.live n (record g.scan { left = g.left }); pulled = bumped l.pulled }) h.ledger
    ∙ ap (λ (m : Scans). record old.ledger { live = m; pulled = bumped h.pulled })
    (put_twice old.ledger.live n (record h.scan { left = h.left }) (record g.scan { left = g.left }) ∙ ap (λ (z : Scan). finmap.insert old.ledger.live n (record z { left = g.left })) same)

row_typed : (n : ℕ) (old s new : BoxState) (rows : List GivenRow) (row : GivenRow) (h : HasRead n old rows s) (g : GivesRow s n row new) → shown_fits h.scan.kinds h.scan.spec row.cells ≡ true
row_typed n old s new rows row h g =
    let same : g.scan ≡ record h.scan { left = h.left } = same_Some g.scan (record h.scan { left = h.left }) (sym g.at ∙ now n old s rows h) in
    ap (λ (z : Scan). shown_fits z.kinds z.spec row.cells) (sym same) ∙ g.typed

pub more : (n : ℕ) (old s new : BoxState) (rows : List GivenRow) (row : GivenRow) → HasRead n old rows s → GivesRow s n row new → HasRead n old (rows ++ row ∷ []) new
more n old s new rows row h g = record {
  nature = g.nature ∙ h.nature;
  scan = h.scan;
  at = h.at;
  whole = h.whole;
  left = g.left;
  pulled = bumped h.pulled;
  ledger = row_ledger n old s new rows row h g;
  typed = list_all-append (λ r. shown_fits h.scan.kinds h.scan.spec r.cells) rows (row ∷ []) ∙ rw (h.typed, row_typed n old s new rows row h g) refl;
  coming = λ honest. h.coming honest ∙ ap (λ (l : List GivenRow). rows ++ l) (g.coming (honest_on old s h.nature honest)) ∙ sym (append_assoc rows (row ∷ []) (new.content.coming n));
  leaves = gone_on n old s new rows h g.leaves;
}

pub fewer : (n : ℕ) (s new : BoxState) (row : GivenRow) → GivesRow s n row new → left_in (scan_of new n) < left_in (scan_of s n)
fewer n s new row g =
    let a : left_in (scan_of s n) ≡ g.scan.left = ap left_in g.at in
    let b : left_in (scan_of new n) ≡ g.left = ap left_in (ap (λ z. finmap.get z.live n) g.ledger ∙ put_same s.ledger.live n (record g.scan { left = g.left })) in
    let c = g.fewer in
    omega arith

pub done : (n : ℕ) (old s new : BoxState) (rows : List GivenRow) → HasRead n old rows s → GivesNone s n new → ReadsOut old n rows new
done n old s new rows h g = record {
  nature = g.nature ∙ h.nature;
  scan = h.scan;
  at = h.at;
  left = h.left;
  pulled = h.pulled;
  ledger = g.ledger ∙ h.ledger;
  typed = h.typed;
  coming = λ honest. h.coming honest ∙ ap (λ (l : List GivenRow). rows ++ l) (g.coming (honest_on old s h.nature honest)) ∙ append-nil rows;
  done = λ honest. g.still (honest_on old s h.nature honest);
  leaves = gone_on n old s new rows h g.leaves;
}

pub stops : (n : ℕ) (old s new : BoxState) (rows : List GivenRow) (row : GivenRow) → HasRead n old rows s → GivesRow s n row new → StopsOut old n NoMemory new
stops n old s new rows row h g = record {
  nature = g.nature ∙ h.nature;
  no_cause = tt;
  scan = h.scan;
  at = h.at;
  left = g.left;
  pulled = bumped h.pulled;
  broken = h.scan.broken;
  ledger = row_ledger n old s new rows row h g;
  leaves = gone_on n old s new rows h g.leaves;
}

pub breaks : (n : ℕ) (old s new : BoxState) (rows : List GivenRow) (fault : Fault) → HasRead n old rows s → Breaks s n fault new → StopsOut old n fault new
breaks n old s new rows fault h b =
    let same : b.scan ≡ record h.scan { left = h.left } = same_Some b.scan (record h.scan { left = h.left }) (sym b.at ∙ now n old s rows h) in
    record {
      nature = b.nature ∙ h.nature;
      no_cause = b.no_cause;
      scan = h.scan;
      at = h.at;
      left = h.left;
      pulled = h.pulled;
      broken = true;
      ledger =
          b.ledger
          ∙ ap (λ (l : Ledger). record l { live = finmap.insert l.live n (record b.scan { broken = true }); faults = faults_after fault l.faults }) h.ledger
          ∙ ap (λ (m : Scans). record old.ledger { live = m; pulled = h.pulled; faults = faults_after fault old.ledger.faults })
          (put_twice old.ledger.live n (record h.scan { left = h.left }) (record b.scan { broken = true }) ∙ ap (λ (z : Scan). finmap.insert old.ledger.live n (record z { broken = true })) same);
      leaves = gone_on n old s new rows h b.leaves;
    }
