-- Scans that a run holds, while boxes serve another one. Nothing here looks into a run.
use Rattle.std.proofs.Common.{◌≡◌, ◌≢◌, ℕ, zero, suc, ◌⊎◌, inl, inr, eqb, true, false, List, [], ◌∷◌, ◌++◌, Option, Some, None, IsSome, slice_get, Contains, refl, ap, sym, ◌∙◌, subst, arith, rules}
use Rattle.std.specs.Ordering.{nat_cmp}
use Rattle.std.specs.FinMap as finmap
use Rattle.std.specs.FinMap.{gets, nat_cmp-IsAntisymmetric}
use Rattle.std.specs.Cmp.{nat_cmp_total}
use Rattle.std.proofs.lemmas.Bool.Decides.{eqb_tells}
use Rattle.std.proofs.lemmas.Bool.{false≢true}
use Rattle.std.proofs.lemmas.Option.{slice_get-get_or, same_Some}
use Rattle.fdw_api.specs.State.{BoxTable, Scan, BoxState, scan_of}
use Rattle.med_exec.specs.declared.running.Run.{Run}
use Rattle.med_exec.specs.Slots.{BoxAt}
use Rattle.med_exec.specs.Running.{without, others_of, Served, Held, none_held, further, ServesRun}
use Rattle.med_exec.specs.Rests.{held, IsHeld}
use Rattle.med_exec.specs.Leaving.{AreApart, KeepsScan, LeavesScan, LeavesRun}
use Rattle.med_exec.proofs.Left.{still_held}
use Rattle.med_exec.proofs.Served.{box_inj, after_service, before_service}

gone : {X : Type 0} (m : finmap.FinMap nat_cmp X) (k : ℕ) → finmap.get (finmap.remove m k) k ≡ None
gone m k = grind (gets, rules)

gone_other : {X : Type 0} (m : finmap.FinMap nat_cmp X) (k q : ℕ) → q ≢ k → finmap.get (finmap.remove m k) q ≡ finmap.get m q
gone_other m k q ne = grind (gets, rules)

cases : {P : Type 0} (q n : ℕ) → (q ≡ n → P) → (q ≢ n → P) → P
cases {P} q n a b = split (eqb_tells q n)
  where
    split : ((eqb q n ≡ true) × (q ≡ n)) ⊎ ((eqb q n ≡ false) × (q ≢ n)) → P
    split (inl s) = a s.1
    split (inr s) = b s.1

none_some : {X : Type 0} (x : X) (o : Option X) → o ≡ None → o ≡ Some x → ⊥
none_some x o a b = absurd cc

pub is_some_of : {X : Type 0} (o : Option X) → IsSome o → (x : X) × (o ≡ Some x)
is_some_of None h = absurd (false≢true h)
is_some_of (Some x) h = (x, refl)

some_is : {X : Type 0} (o : Option X) (x : X) → o ≡ Some x → IsSome o
some_is o x e = subst IsSome (sym e) refl

-- ---- numbers among others

abbrev pub IsIn : ℕ → List ℕ → Type 0
IsIn q [] = ⊥
IsIn q (n ∷ ns) = (q ≡ n) ⊎ IsIn q ns

at_in : (q : ℕ) (ns : List ℕ) (k : ℕ) → slice_get ns k ≡ Some q → IsIn q ns
at_in q [] k at = absurd (none_some q None refl at)
at_in q (n ∷ ns) zero at = inl (sym (same_Some n q at))
at_in q (n ∷ ns) (suc k) at = inr (at_in q ns k at)

pub to_in : (q : ℕ) (ns : List ℕ) → Contains ns q → IsIn q ns
to_in q ns c = at_in q ns c.0 (slice_get-get_or ns c.0 q c.1 ∙ ap Some c.2)

pub from_in : (q : ℕ) (ns : List ℕ) → IsIn q ns → Contains ns q
from_in q [] h = absurd h
from_in q (n ∷ ns) (inl e) = (zero, omega arith, sym e)
from_in q (n ∷ ns) (inr h) = let r = from_in q ns h in (suc r.0, omega arith, r.2)

-- a number is one of these, or none
pub in_or_not : (q : ℕ) (ns : List ℕ) → Contains ns q ⊎ (Contains ns q → ⊥)
in_or_not q [] = inr (λ c. to_in q [] c)
in_or_not q (n ∷ ns) = cases q n (λ e. inl (from_in q (n ∷ ns) (inl e))) (λ ne. behind ne (in_or_not q ns))
  where
    behind : q ≢ n → Contains ns q ⊎ (Contains ns q → ⊥) → Contains (n ∷ ns) q ⊎ (Contains (n ∷ ns) q → ⊥)
    behind ne (inl c) = inl (from_in q (n ∷ ns) (inr (to_in q ns c)))
    behind ne (inr out) = inr (λ c. neither (to_in q (n ∷ ns) c))
      where
        neither : IsIn q (n ∷ ns) → ⊥
        neither (inl e) = ne e
        neither (inr i) = out (from_in q ns i)

without_kept : (ns : List ℕ) (live : finmap.FinMap nat_cmp Scan) (q : ℕ) → (IsIn q ns → ⊥) → finmap.get (without ns live) q ≡ finmap.get live q
without_kept [] live q out = refl
without_kept (n ∷ ns) live q out = without_kept ns (finmap.remove live n) q (λ i. out (inr i)) ∙ gone_other live n q (λ e. out (inl e))

without_none : (ns : List ℕ) (live : finmap.FinMap nat_cmp Scan) (q : ℕ) → finmap.get live q ≡ None → finmap.get (without ns live) q ≡ None
without_none [] live q h = h
without_none (n ∷ ns) live q h = without_none ns (finmap.remove live n) q (cases q n (λ e. ap (finmap.get (finmap.remove live n)) e ∙ gone live n) (λ ne. gone_other live n q ne ∙ h))

without_gone : (ns : List ℕ) (live : finmap.FinMap nat_cmp Scan) (q : ℕ) → IsIn q ns → finmap.get (without ns live) q ≡ None
without_gone [] live q i = absurd i
without_gone (n ∷ ns) live q (inl e) = without_none ns (finmap.remove live n) q (ap (finmap.get (finmap.remove live n)) e ∙ gone live n)
without_gone (n ∷ ns) live q (inr i) = without_gone ns (finmap.remove live n) q i

pub others_kept : (own : List ℕ) (s : BoxState) (q : ℕ) → (Contains own q → ⊥) → finmap.get (others_of own s) q ≡ scan_of s q
others_kept own s q out = without_kept own s.ledger.live q (λ i. out (from_in q own i))

others_gone : (own : List ℕ) (s : BoxState) (q : ℕ) → Contains own q → finmap.get (others_of own s) q ≡ None
others_gone own s q c = without_gone own s.ledger.live q (to_in q own c)

-- ---- one box

-- a scan that is none of the run's own stays
box_keeps : (before after : List ℕ) (old new : BoxState) (number : ℕ) (scan : Scan) → Served before after old new → (Contains before number → ⊥) → (Contains after number → ⊥) → scan_of old number ≡ Some scan → KeepsScan number scan old new
box_keeps before after old new number scan h not_before not_after live = record {
  nature = h.nature;
  live = sym (others_kept after new number not_after) ∙ ap (λ (m : finmap.FinMap nat_cmp Scan). finmap.get m number) h.others ∙ others_kept before old number not_before ∙ live;
  table = ap (λ (f : ℕ → Option BoxTable). f scan.table) h.tables;
  coming = λ honest. h.coming honest number (some_is (finmap.get (others_of before old) number) scan (others_kept before old number not_before ∙ live));
  rows = λ honest. h.rows honest scan.table;
}

-- a scan that is live after was live before, or is the run's own
box_had : (before after : List ℕ) (old new : BoxState) (number : ℕ) (scan : Scan) → Served before after old new → (Contains after number → ⊥) → scan_of new number ≡ Some scan → (scan_of old number ≡ Some scan) × (Contains before number → ⊥)
box_had before after old new number scan h not_after live = (sym (others_kept before old number not_before) ∙ other, not_before)
  where
    other : finmap.get (others_of before old) number ≡ Some scan
    other = ap (λ (m : finmap.FinMap nat_cmp Scan). finmap.get m number) (sym h.others) ∙ others_kept after new number not_after ∙ live

    not_before : Contains before number → ⊥
    not_before c = none_some scan (finmap.get (others_of before old) number) (others_gone before old number c) other

-- ---- the boxes

pub leaves_scan : (first last : Held) (old new : List (Option BoxState)) (slot number : ℕ) → ServesRun first last old new → (Contains (first slot) number → ⊥) → (Contains (last slot) number → ⊥) → LeavesScan slot number old new
leaves_scan first last old new slot number h not_first not_last s scan at live =
    let p = after_service first last old new slot s h at in
    let same : p.before ≡ s = box_inj p.before s (sym p.was ∙ at) in
    record {
      box = p.after;
      there = p.is;
      holds = box_keeps (first slot) (last slot) s p.after number scan (subst (λ (b : BoxState). Served (first slot) (last slot) b p.after) same p.served) not_first not_last live;
    }

-- another run is left
pub served_leaves : (run : Run) (first last : Held) (old new : List (Option BoxState)) → ServesRun first last old new → AreApart (held run) first → AreApart (held run) last → LeavesRun run old new
served_leaves run first last old new h not_first not_last slot number own = leaves_scan first last old new slot number h (not_first slot number own) (not_last slot number own)

-- and is good for its close
pub served_held : (run : Run) (first last : Held) (old new : List (Option BoxState)) → IsHeld run old → AreApart (held run) first → AreApart (held run) last → ServesRun first last old new → IsHeld run new
served_held run first last old new good not_first not_last h = still_held run old new good (served_leaves run first last old new h not_first not_last)

-- what a new run holds was not live
pub served_fresh : (own : Held) (old new : List (Option BoxState)) (slot number : ℕ) (s : BoxState) → ServesRun none_held own old new → Contains (own slot) number → slice_get old slot ≡ Some (Some s) → scan_of s number ≡ None
served_fresh own old new slot number s h has at =
    let p = after_service none_held own old new slot s h at in
    let same : p.before ≡ s = box_inj p.before s (sym p.was ∙ at) in
    ap (λ (b : BoxState). scan_of b number) (sym same) ∙ ap (λ (m : finmap.FinMap nat_cmp Scan). finmap.get m number) (sym p.served.others) ∙ others_gone (own slot) p.after number has

-- the slot's box had this scan
abbrev pub HadScan : ℕ → ℕ → Scan → List (Option BoxState) → Type 0
HadScan slot number scan boxes = BoxAt boxes slot (λ s. scan_of s number ≡ Some scan)

pub served_had : (first last : Held) (old new : List (Option BoxState)) (slot number : ℕ) (t : BoxState) (scan : Scan) → ServesRun first last old new → (Contains (last slot) number → ⊥) → slice_get new slot ≡ Some (Some t) → scan_of t number ≡ Some scan
    → HadScan slot number scan old × (Contains (first slot) number → ⊥)
served_had first last old new slot number t scan h not_last at live =
    let p = before_service first last old new slot t h at in
    let same : p.after ≡ t = box_inj p.after t (sym p.is ∙ at) in
    let r = box_had (first slot) (last slot) p.before p.after number scan p.served not_last (ap (λ (b : BoxState). scan_of b number) same ∙ live) in
    (record { box = p.before; there = p.was; holds = r.0 }, r.1)

-- ---- a run beside others

without_on : (a b : List ℕ) (live : finmap.FinMap nat_cmp Scan) → without (a ++ b) live ≡ without b (without a live)
without_on [] b live = refl
without_on (n ∷ ns) b live = without_on ns b (finmap.remove live n)

without_swaps : (a b : List ℕ) (live : finmap.FinMap nat_cmp Scan) → without a (without b live) ≡ without b (without a live)
without_swaps a b live = finmap.same_map nat_cmp_total nat_cmp-IsAntisymmetric _ _ (λ q. at q (in_or_not q a) (in_or_not q b))
  where
    at : (q : ℕ) → Contains a q ⊎ (Contains a q → ⊥) → Contains b q ⊎ (Contains b q → ⊥) → finmap.get (without a (without b live)) q ≡ finmap.get (without b (without a live)) q
    at q (inl x) y = without_gone a (without b live) q (to_in q a x) ∙ sym (without_none b (without a live) q (without_gone a live q (to_in q a x)))
    at q (inr x) (inl y) = without_none a (without b live) q (without_gone b live q (to_in q b y)) ∙ sym (without_gone b (without a live) q (to_in q b y))
    at q (inr x) (inr y) =
        without_kept a (without b live) q (λ i. x (from_in q a i)) ∙ without_kept b live q (λ i. y (from_in q b i))
        ∙ sym (without_kept b (without a live) q (λ i. y (from_in q b i)) ∙ without_kept a live q (λ i. x (from_in q a i)))

others_beside : (more own : List ℕ) (s : BoxState) → others_of (more ++ own) s ≡ without more (others_of own s)
others_beside more own s = without_on more own s.ledger.live ∙ without_swaps own more s.ledger.live

-- what is asked for one run is asked for it and others together
served_beside : (more before after : List ℕ) (old new : BoxState) → Served before after old new → Served (more ++ before) (more ++ after) old new
served_beside more before after old new h = record {
  nature = h.nature;
  tables = h.tables;
  staged = h.staged;
  others = others_beside more after new ∙ ap (without more) h.others ∙ sym (others_beside more before old);
  next = h.next;
  end = h.end;
  pulled = h.pulled;
  faults = h.faults;
  coming = λ honest q live. h.coming honest q (still q live (finmap.get (others_of before old) q) refl);
  rows = h.rows;
  holdings = h.holdings;
}
  where
    still : (q : ℕ) → IsSome (finmap.get (others_of (more ++ before) old) q) → (o : Option Scan) → finmap.get (others_of before old) q ≡ o → IsSome (finmap.get (others_of before old) q)
    still q live None e =
        let r = is_some_of (finmap.get (others_of (more ++ before) old) q) live in
        absurd (none_some r.0 (finmap.get (others_of (more ++ before) old) q) (ap (λ (m : finmap.FinMap nat_cmp Scan). finmap.get m q) (others_beside more before old) ∙ without_none more (others_of before old) q e) r.1)
    still q live (Some x) e = some_is (finmap.get (others_of before old) q) x e

-- the scans of one and of another
abbrev pub with_held : Held → Held → Held
with_held more own = λ slot. more slot ++ own slot

pub serves_beside : (more first last : Held) (old new : List (Option BoxState)) → ServesRun first last old new → ServesRun (with_held more first) (with_held more last) old new
serves_beside more first last [] [] h = tt
serves_beside more first last [] (y ∷ ys) h = absurd h
serves_beside more first last (None ∷ xs) [] h = absurd h
serves_beside more first last (None ∷ xs) (None ∷ ys) h = serves_beside (further more) (further first) (further last) xs ys h
serves_beside more first last (None ∷ xs) (Some y ∷ ys) h = absurd h
serves_beside more first last (Some x ∷ xs) [] h = absurd h
serves_beside more first last (Some x ∷ xs) (None ∷ ys) h = absurd h
serves_beside more first last (Some x ∷ xs) (Some y ∷ ys) h = (served_beside (more 0) (first 0) (last 0) x y h.0, serves_beside (further more) (further first) (further last) xs ys h.1)

-- the same, where the others stand behind
served_before : (more before after : List ℕ) (old new : BoxState) → Served before after old new → Served (before ++ more) (after ++ more) old new
served_before more before after old new h = record {
  nature = h.nature;
  tables = h.tables;
  staged = h.staged;
  others = without_on after more new.ledger.live ∙ ap (without more) h.others ∙ sym (without_on before more old.ledger.live);
  next = h.next;
  end = h.end;
  pulled = h.pulled;
  faults = h.faults;
  coming = λ honest q live. h.coming honest q (still q live (finmap.get (others_of before old) q) refl);
  rows = h.rows;
  holdings = h.holdings;
}
  where
    still : (q : ℕ) → IsSome (finmap.get (others_of (before ++ more) old) q) → (o : Option Scan) → finmap.get (others_of before old) q ≡ o → IsSome (finmap.get (others_of before old) q)
    still q live None e =
        let r = is_some_of (finmap.get (others_of (before ++ more) old) q) live in
        absurd (none_some r.0 (finmap.get (others_of (before ++ more) old) q) (ap (λ (m : finmap.FinMap nat_cmp Scan). finmap.get m q) (without_on before more old.ledger.live) ∙ without_none more (others_of before old) q e) r.1)
    still q live (Some x) e = some_is (finmap.get (others_of before old) q) x e

pub serves_before : (more first last : Held) (old new : List (Option BoxState)) → ServesRun first last old new → ServesRun (with_held first more) (with_held last more) old new
serves_before more first last [] [] h = tt
serves_before more first last [] (y ∷ ys) h = absurd h
serves_before more first last (None ∷ xs) [] h = absurd h
serves_before more first last (None ∷ xs) (None ∷ ys) h = serves_before (further more) (further first) (further last) xs ys h
serves_before more first last (None ∷ xs) (Some y ∷ ys) h = absurd h
serves_before more first last (Some x ∷ xs) [] h = absurd h
serves_before more first last (Some x ∷ xs) (None ∷ ys) h = absurd h
serves_before more first last (Some x ∷ xs) (Some y ∷ ys) h = (served_before (more 0) (first 0) (last 0) x y h.0, serves_before (further more) (further first) (further last) xs ys h.1)
