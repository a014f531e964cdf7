-- How the calls of one scan go together, from its begin to its end.
use Rattle.std.proofs.Common.{◌≡◌, ◌≢◌, ℕ, ◌+◌, ◌-◌, ◌^◌, ◌<◌, ◌⊎◌, suc, add-one, eqb, inl, inr, Result, Ok, Err, IfErr, true, false, List, [], ◌∷◌, ◌++◌, length, Option, Some, None, IsSome, refl, ap, sym, ◌∙◌, subst, arith, rules, append_assoc}
use Rattle.std.specs.Ordering.{nat_cmp}
use Rattle.std.specs.FinMap as finmap
use Rattle.std.specs.FinMap.{gets, nat_cmp-IsAntisymmetric}
use Rattle.std.specs.Cmp.{nat_cmp_total}
use Rattle.std.proofs.lemmas.List.{append-nil, length-append}
use Rattle.std.proofs.lemmas.Bool.Decides.{eqb_tells}
use Rattle.std.proofs.lemmas.Option.{same_Some}
use Rattle.med_value.specs.Datum.{Tuple}
use Rattle.fdw_api.specs.Prelude.{GivenRow, Spec, Scan, Ledger, BoxState, is_honest, scan_of, LeavesOthers, LeavesAll, bumped, faults_after, not_refused, IsOpen, GivesRow, GivesNone, Breaks, BeginCause, Begins, Ends, RefusesBegin}
use Rattle.fdw_api.specs.declared.interface.Fault.{Fault}
use Rattle.fdw_api.specs.declared.interface.Fault.TheVariants.{NoMemory, Source, Refused}
use Rattle.med_exec.specs.Reading.{pulled_after, Keeps, GivesAll, StopsBy}
use Rattle.med_exec.specs.Scanning.{RunsScan, FailsScan}
use Rattle.med_exec.proofs.Served.{honest_on}
use Rattle.med_write.specs.Making.{cells_of}

-- how many rows a scan may still give at most
abbrev pub left_of : Option Scan → ℕ
left_of None = 0
left_of (Some s) = s.left

-- the scan has given these rows, and is good for more
pub record HasGiven (number : ℕ) (old : BoxState) (given : List Tuple) (new : BoxState) : Type 0 where
  pub scan : Scan
  pub now : scan_of new number ≡ Some scan
  pub whole : scan.broken ≡ false
  pub keeps : Keeps number old new
  pub pulled : new.ledger.pulled ≡ pulled_after (length given) old.ledger.pulled
  pub faults : new.ledger.faults ≡ old.ledger.faults
  pub coming : is_honest old → cells_of (old.content.coming number) ≡ given ++ cells_of (new.content.coming number)

get_same : {X : Type 0} (m : finmap.FinMap nat_cmp X) (k : ℕ) (v : X) → finmap.get (finmap.insert m k v) k ≡ Some v
get_same m k v = grind (gets, rules)

get_other : {X : Type 0} (m : finmap.FinMap nat_cmp X) (k q : ℕ) (v : X) → q ≢ k → finmap.get (finmap.insert m k v) q ≡ finmap.get m q
get_other m k q v ne = grind (gets, rules)

gone : {X : Type 0} (m : finmap.FinMap nat_cmp X) (k : ℕ) → finmap.get (finmap.remove m k) k ≡ None
gone m k = grind (gets, rules)

gone_other : {X : Type 0} (m : finmap.FinMap nat_cmp X) (k q : ℕ) → q ≢ k → finmap.get (finmap.remove m k) q ≡ finmap.get m q
gone_other m k q ne = grind (gets, rules)

-- one row more is counted once more
count_on : (given : List Tuple) (row : Tuple) (pulled : ℕ) → pulled_after (length (given ++ row ∷ [])) pulled ≡ bumped (pulled_after (length given) pulled)
count_on given row pulled =
    let n : length (given ++ row ∷ []) ≡ suc (length given) = length-append given (row ∷ []) ∙ add-one (length given) in
    ap (λ (k : ℕ). pulled_after k pulled) n

-- leaving other tickets alone goes on
leaves_on : (n : ℕ) (a b c : BoxState) → ((q : ℕ) → q ≢ n → scan_of b q ≡ scan_of a q) → LeavesOthers n a b → LeavesOthers n b c → LeavesOthers n a c
leaves_on n a b c same k l = record {
  coming = λ q live other. l.coming q (subst IsSome (sym (same q other)) live) other ∙ k.coming q live other;
  rows = λ t o. l.rows t o ∙ k.rows t o;
  holdings = λ r o. l.holdings r o ∙ k.holdings r o;
}

keeps_on : (n : ℕ) (a b c : BoxState) → Keeps n a b → Keeps n b c → Keeps n a c
keeps_on n a b c k l = record {
  nature = l.nature ∙ k.nature;
  tables = l.tables ∙ k.tables;
  staged = l.staged ∙ k.staged;
  next = l.next ∙ k.next;
  others = λ q ne. l.others q ne ∙ k.others q ne;
  leaves = λ h. leaves_on n a b c k.others (k.leaves h) (l.leaves (honest_on a b k.nature h));
}

pub start : (n : ℕ) (s : BoxState) → IsOpen s n → HasGiven n s [] s
start n s o = record {
  scan = o.0;
  now = o.1;
  whole = o.2;
  keeps = record { nature = refl; tables = refl; staged = refl; next = refl; others = λ q ne. refl; leaves = λ h. record { coming = λ q l o. refl; rows = λ t o. refl; holdings = λ r o. refl } };
  pulled = refl;
  faults = refl;
  coming = λ h. refl;
}

row_keeps : (n : ℕ) (s new : BoxState) (row : GivenRow) → GivesRow s n row new → Keeps n s new
row_keeps n s new row g = record {
  nature = g.nature;
  tables = ap (λ z. z.tables) g.ledger;
  staged = ap (λ z. z.staged) g.ledger;
  next = ap (λ z. z.next) g.ledger;
  others = λ q ne. ap (λ z. finmap.get z.live q) g.ledger ∙ get_other s.ledger.live n q _ ne;
  leaves = g.leaves;
}

row_now : (n : ℕ) (s new : BoxState) (row : GivenRow) (g : GivesRow s n row new) → scan_of new n ≡ Some (record g.scan { left = g.left })
row_now n s new row g = ap (λ z. finmap.get z.live n) g.ledger ∙ get_same s.ledger.live n _

pub more : (n : ℕ) (old s new : BoxState) (given : List Tuple) (row : GivenRow) → HasGiven n old given s → GivesRow s n row new → HasGiven n old (given ++ row.cells ∷ []) new
more n old s new given row h g = record {
  scan = record g.scan { left = g.left };
  now = row_now n s new row g;
  whole = ap (λ (z : Scan). z.broken) (same_Some _ _ (sym g.at ∙ h.now)) ∙ h.whole;
  keeps = keeps_on n old s new h.keeps (row_keeps n s new row g);
  pulled = ap (λ z. z.pulled) g.ledger ∙ ap bumped h.pulled ∙ sym (count_on given row.cells old.ledger.pulled);
  faults = ap (λ z. z.faults) g.ledger ∙ h.faults;
  coming = λ honest. h.coming honest ∙ ap (λ (l : List GivenRow). given ++ cells_of l) (g.coming (honest_on old s h.keeps.nature honest)) ∙ sym (append_assoc given (row.cells ∷ []) (cells_of (new.content.coming n)));
}

pub fewer : (n : ℕ) (s new : BoxState) (row : GivenRow) → GivesRow s n row new → left_of (scan_of new n) < left_of (scan_of s n)
fewer n s new row g =
    let a : left_of (scan_of s n) ≡ g.scan.left = ap left_of g.at in
    let b : left_of (scan_of new n) ≡ g.left = ap left_of (row_now n s new row g) in
    let c = g.fewer in
    omega arith

pub done : (n : ℕ) (old s new : BoxState) (given : List Tuple) → HasGiven n old given s → GivesNone s n new → GivesAll n old given new
done n old s new given h g = record {
  scan = h.scan;
  now = ap (λ z. finmap.get z.live n) g.ledger ∙ h.now;
  keeps = keeps_on n old s new h.keeps (record {
    nature = g.nature;
    tables = ap (λ z. z.tables) g.ledger;
    staged = ap (λ z. z.staged) g.ledger;
    next = ap (λ z. z.next) g.ledger;
    others = λ q ne. ap (λ z. finmap.get z.live q) g.ledger;
    leaves = g.leaves;
  });
  pulled = ap (λ z. z.pulled) g.ledger ∙ h.pulled;
  faults = ap (λ z. z.faults) g.ledger ∙ h.faults;
  all = λ honest. h.coming honest ∙ ap (λ (l : List GivenRow). given ++ cells_of l) (g.coming (honest_on old s h.keeps.nature honest)) ∙ append-nil given;
}

pub stops : (n : ℕ) (old s new : BoxState) (given : List Tuple) (row : GivenRow) → HasGiven n old given s → GivesRow s n row new → StopsBy n NoMemory old new
stops n old s new given row h g = record {
  scan = record g.scan { left = g.left };
  now = row_now n s new row g;
  keeps = keeps_on n old s new h.keeps (row_keeps n s new row g);
  given = suc (length given);
  pulled = ap (λ z. z.pulled) g.ledger ∙ ap bumped h.pulled;
  faults = ap (λ z. z.faults) g.ledger ∙ h.faults;
  no_cause = tt;
}

pub breaks : (n : ℕ) (old s new : BoxState) (given : List Tuple) (fault : Fault) → HasGiven n old given s → Breaks s n fault new → StopsBy n fault old new
breaks n old s new given fault h b = record {
  scan = record b.scan { broken = true };
  now = ap (λ z. finmap.get z.live n) b.ledger ∙ get_same s.ledger.live n _;
  keeps = keeps_on n old s new h.keeps (record {
    nature = b.nature;
    tables = ap (λ z. z.tables) b.ledger;
    staged = ap (λ z. z.staged) b.ledger;
    next = ap (λ z. z.next) b.ledger;
    others = λ q ne. ap (λ z. finmap.get z.live q) b.ledger ∙ get_other s.ledger.live n q _ ne;
    leaves = b.leaves;
  });
  given = length given;
  pulled = ap (λ z. z.pulled) b.ledger ∙ h.pulled;
  faults = ap (λ z. z.faults) b.ledger ∙ ap (faults_after fault) h.faults;
  no_cause = b.no_cause;
}

pub open_now : (n : ℕ) (old s : BoxState) (given : List Tuple) → HasGiven n old given s → IsOpen s n
open_now n old s given h = (h.scan, h.now, h.whole)

pub open_begun : (t : ℕ) (spec : Spec) (params : Tuple) (n : ℕ) (old new : BoxState) → Begins old t spec params n new → IsOpen new n
open_begun t spec params n old new b = (_, ap (λ z. finmap.get z.live n) b.ledger ∙ get_same old.ledger.live n _, refl)

not_this : (o : Option Scan) → o ≡ None → IsSome o → ⊥
not_this None e s = absurd cc
not_this (Some x) e s = absurd cc

begun_others : (t : ℕ) (spec : Spec) (params : Tuple) (n : ℕ) (old begun : BoxState) → Begins old t spec params n begun → (q : ℕ) → q ≢ n → scan_of begun q ≡ scan_of old q
begun_others t spec params n old begun b q ne = ap (λ z. finmap.get z.live q) b.ledger ∙ get_other old.ledger.live n q _ ne

-- begun, read and ended: the live scans are as before
live_again : (t : ℕ) (spec : Spec) (params : Tuple) (n : ℕ) (old begun last : BoxState) → Begins old t spec params n begun → Keeps n begun last → finmap.remove last.ledger.live n ≡ old.ledger.live
live_again t spec params n old begun last b k = finmap.same_map nat_cmp_total nat_cmp-IsAntisymmetric _ _ (λ q. split q (eqb_tells q n))
  where
    split : (q : ℕ) → ((eqb q n ≡ true) × (q ≡ n)) ⊎ ((eqb q n ≡ false) × (q ≢ n)) → finmap.get (finmap.remove last.ledger.live n) q ≡ finmap.get old.ledger.live q
    split q (inl s) = rw s.1 (gone last.ledger.live n ∙ sym b.fresh)
    split q (inr s) = gone_other last.ledger.live n q s.1 ∙ k.others q s.1 ∙ begun_others t spec params n old begun b q s.1

-- begun, read and ended: no other ticket, table or remote entry has changed
pub left_again : (t : ℕ) (spec : Spec) (params : Tuple) (n : ℕ) (old begun last new : BoxState) → Begins old t spec params n begun → Keeps n begun last → Ends last n new → is_honest old → LeavesAll old new
left_again t spec params n old begun last new b k e h =
    let hb = honest_on old begun b.nature h in
    let hl = honest_on begun last k.nature hb in
    record {
      coming = λ q live other.
          let ne : q ≢ n = λ same. not_this (scan_of old n) b.fresh (subst (λ (z : ℕ). IsSome (scan_of old z)) same live) in
          let one = begun_others t spec params n old begun b q ne in
          let two = k.others q ne in
          (e.leaves hl).coming q (subst IsSome (sym (two ∙ one)) live) ne ∙ (k.leaves hb).coming q (subst IsSome (sym one) live) ne ∙ (b.leaves h).coming q live ne;
      rows = λ u o. (e.leaves hl).rows u o ∙ (k.leaves hb).rows u o ∙ (b.leaves h).rows u o;
      holdings = λ r o. (e.leaves hl).holdings r o ∙ (k.leaves hb).holdings r o ∙ (b.leaves h).holdings r o;
    }

-- begun, read and ended: the ledger but for `pulled` and `faults`
pub ledger_again : (t : ℕ) (spec : Spec) (params : Tuple) (n pulled faults : ℕ) (old begun last new : BoxState) → Begins old t spec params n begun → Keeps n begun last → last.ledger.pulled ≡ pulled → last.ledger.faults ≡ faults → Ends last n new → new.ledger ≡ record old.ledger { next = old.ledger.next + 1; pulled = pulled; faults = faults }
ledger_again t spec params n pulled faults old begun last new b k p f e =
    e.ledger ∙ same_ledger (record last.ledger { live = finmap.remove last.ledger.live n }) (record old.ledger { next = old.ledger.next + 1; pulled = pulled; faults = faults })
    (k.tables ∙ ap (λ z. z.tables) b.ledger)
    (live_again t spec params n old begun last b k)
    (k.staged ∙ ap (λ z. z.staged) b.ledger)
    (k.next ∙ ap (λ z. z.next) b.ledger ∙ ap (λ (x : ℕ). x + 1) b.is_next)
    p f
  where
    same_ledger : (x y : Ledger) → x.tables ≡ y.tables → x.live ≡ y.live → x.staged ≡ y.staged → x.next ≡ y.next → x.pulled ≡ y.pulled → x.faults ≡ y.faults → x ≡ y
    same_ledger x y a b c d e f = λ i. record { tables = a i; live = b i; staged = c i; next = d i; pulled = e i; faults = f i }

pub reads : (t n : ℕ) (spec : Spec) (old begun last new : BoxState) (given : List Tuple) → Begins old t spec [] n begun → GivesAll n begun given last → Ends last n new → RunsScan old t spec given new
reads t n spec old begun last new given b g e = record {
  nature = e.nature ∙ g.keeps.nature ∙ b.nature;
  room = subst (λ (x : ℕ). x < 2 ^ 64 - 1) b.is_next b.room;
  ledger = ledger_again t spec [] n _ _ old begun last new b g.keeps (g.pulled ∙ ap (λ (z : Ledger). pulled_after (length given) z.pulled) b.ledger) (g.faults ∙ ap (λ z. z.faults) b.ledger) e;
  leaves = left_again t spec [] n old begun last new b g.keeps e;
  rows = λ h. (begun.content.coming n, b.coming h, sym (g.all (honest_on old begun b.nature h)));
}

-- after a begun scan the fault has no cause
uncaused : (fault : Fault) (next : ℕ) → not_refused fault → BeginCause fault next
uncaused NoMemory next h = tt
uncaused Source next h = tt
uncaused (Refused c) next h = absurd h

pub fails : (t n : ℕ) (spec : Spec) (params : Tuple) (fault : Fault) (old begun last new : BoxState) → Begins old t spec params n begun → StopsBy n fault begun last → Ends last n new → FailsScan fault old new
fails t n spec params fault old begun last new b g e = record {
  nature = e.nature ∙ g.keeps.nature ∙ b.nature;
  next = old.ledger.next + 1;
  rises = omega arith;
  stays = λ e. let r : old.ledger.next < 2 ^ 64 - 1 = subst (λ (x : ℕ). x < 2 ^ 64 - 1) b.is_next b.room in omega (arith, e, r);
  keeps = λ e. omega arith;
  given = g.given;
  once = inr refl;
  ledger = ledger_again t spec params n _ _ old begun last new b g.keeps (g.pulled ∙ ap (λ (z : Ledger). pulled_after g.given z.pulled) b.ledger) (g.faults ∙ ap (λ (z : Ledger). faults_after fault z.faults) b.ledger) e;
  leaves = left_again t spec params n old begun last new b g.keeps e;
  cause = uncaused fault old.ledger.next g.no_cause;
}

pub begin_fails : (fault : Fault) (old new : BoxState) → RefusesBegin fault old new → FailsScan fault old new
begin_fails fault old new r = record {
  nature = r.refuses.nature;
  next = r.refuses.next;
  rises = r.refuses.rises;
  stays = r.refuses.stays;
  keeps = λ e. let k : r.refuses.next ≡ old.ledger.next = r.refuses.keeps e in omega (arith, k);
  given = 0;
  once = inl refl;
  ledger = r.refuses.ledger;
  leaves = r.refuses.leaves;
  cause = r.cause;
}

pub err_fails : {T : Type 0} (t n : ℕ) (spec : Spec) (params : Tuple) (old begun last new : BoxState) (r : Result T Fault) → Begins old t spec params n begun → IfErr r (λ f. StopsBy n f begun last) → Ends last n new → IfErr r (λ f. FailsScan f old new)
err_fails t n spec params old begun last new (Ok x) b g e = tt
err_fails t n spec params old begun last new (Err f) b g e = fails t n spec params f old begun last new b g e
