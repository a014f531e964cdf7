-- What is said of the inner wrapper is said of a failing one.
use Rattle.std.proofs.Common.{◌≡◌, ◌≢◌, ℕ, ◌+◌, ◌-◌, ◌^◌, ◌≤◌, ◌⊎◌, Bool, true, false, ◌||◌, if◌then◌else◌, nat_eq, eqb, List, [], ◌∷◌, ◌++◌, Option, Some, None, IsSome, option_map, min, refl, ap, sym, ◌∙◌, subst, arith, rules, inl, inr}
use Rattle.std.specs.FinMap as finmap
use Rattle.std.specs.FinMap.{gets, nat_cmp-IsAntisymmetric}
use Rattle.std.specs.Cmp.{nat_cmp_total}
use Rattle.std.proofs.lemmas.Bool.Decides.{eqb_tells}
use Rattle.std.proofs.lemmas.Option.{same_Some}
use Rattle.med_value.specs.Datum.{Tuple}
use Rattle.fdw_api.specs.Prelude.{Spec, Column, OptionForm, Change, bumped, faults_after, Leaves, NoScan, Allows, Binds, CanUnbind, Unbinds, Refuses, Begins, Iterates, Breaks, CanRescan, Rescans, Ends, new_scan, AllowsPromise, CanModify, Opens, CanChange, Stages, RefusesChange, CanClose, Closes, RefusesClose, Outcome}
use Rattle.fdw_api.specs.State.{BoxState, Ledger, Staging, Scan as LiveScan, scan_of, table_of}
use Rattle.fdw_api.specs.declared.interface.Fault.{Fault}
use Rattle.fdw_api.specs.declared.interface.Fault.TheVariants.{NoMemory, Source, Refused}
use Rattle.fdw_api.specs.declared.interface.SourceRow.{SourceRow}
use Rattle.probe_wrapper.specs.declared.failing.Failure.{Failure}
use Rattle.probe_wrapper.specs.declared.failing.Failure.TheVariants.{Before, Scan, Write, Past}
use Rattle.probe_wrapper.specs.Failing.{after_call, has_come, is_write, spoilt, live_of, staging_of, faults_of, failed_ledger, failed, past_scan, past_write}
use Rattle.probe_wrapper.proofs.SeenScans.{Scans, put_same, put_other, taken_same, taken_other}
use Rattle.probe_wrapper.proofs.RoundLemmas.{change_cause, close_cause}

-- the failure broke this scan; it broke the write
abbrev pub is_of : Failure → ℕ → Bool
is_of (Before n) q = false
is_of (Scan n) q = nat_eq q n
is_of Write q = false
is_of Past q = false

or_false : (a b : Bool) → (a || b) ≡ false → a ≡ false
or_false true b e = absurd cc
or_false false b e = refl

-- a scan as it is seen: broken too where the failure broke it
abbrev seen : Bool → LiveScan → LiveScan
seen b t = record t { broken = b || t.broken }

seen_id : (b : Bool) (t : LiveScan) → b ≡ false → seen b t ≡ t
seen_id b t e = rw e refl

all_id : (b : Bool) (o : Option LiveScan) → b ≡ false → option_map (seen b) o ≡ o
all_id b None e = refl
all_id b (Some t) e = ap (λ (z : LiveScan). Some z) (seen_id b t e)

none_seen : (b : Bool) (o : Option LiveScan) → o ≡ None → option_map (seen b) o ≡ o
none_seen b o e = rw e refl

seen_at : (f : Failure) (m : Scans) (q : ℕ) → finmap.get (live_of f m) q ≡ option_map (seen (is_of f q)) (finmap.get m q)
seen_at (Before k) m q = sym (all_id false (finmap.get m q) refl)
seen_at Write m q = sym (all_id false (finmap.get m q) refl)
seen_at Past m q = sym (all_id false (finmap.get m q) refl)
seen_at (Scan n) m q = go (finmap.get m n) refl
  where
    go : (o : Option LiveScan) → finmap.get m n ≡ o → finmap.get (spoilt n m o) q ≡ option_map (seen (nat_eq q n)) (finmap.get m q)
    go None e = at (eqb_tells q n)
      where
        at : ((eqb q n ≡ true) × (q ≡ n)) ⊎ ((eqb q n ≡ false) × (q ≢ n)) → finmap.get m q ≡ option_map (seen (nat_eq q n)) (finmap.get m q)
        at (inl w) = sym (none_seen (nat_eq q n) (finmap.get m q) (ap (finmap.get m) w.1 ∙ e))
        at (inr w) = sym (all_id (nat_eq q n) (finmap.get m q) w.0)
    go (Some s) e = at (eqb_tells q n)
      where
        at : ((eqb q n ≡ true) × (q ≡ n)) ⊎ ((eqb q n ≡ false) × (q ≢ n)) → finmap.get (finmap.insert m n (record s { broken = true })) q ≡ option_map (seen (nat_eq q n)) (finmap.get m q)
        at (inl w) =
            ap (finmap.get (finmap.insert m n (record s { broken = true }))) w.1 ∙ put_same m n (record s { broken = true })
            ∙ sym (ap (option_map (seen (nat_eq q n))) (ap (finmap.get m) w.1 ∙ e) ∙ ap (λ (b : Bool). Some (seen b s)) w.0)
        at (inr w) = put_other m n q (record s { broken = true }) w.1 ∙ sym (all_id (nat_eq q n) (finmap.get m q) w.0)

same_scans : (m n : Scans) → ((q : ℕ) → finmap.get m q ≡ finmap.get n q) → m ≡ n
same_scans m n e = finmap.same_map nat_cmp_total nat_cmp-IsAntisymmetric m n e

pub insert_of : (f : Failure) (m : Scans) (q : ℕ) (t : LiveScan) → is_of f q ≡ false → live_of f (finmap.insert m q t) ≡ finmap.insert (live_of f m) q t
insert_of f m q t e = same_scans _ _ (λ x. at x (eqb_tells x q))
  where
    at : (x : ℕ) → ((eqb x q ≡ true) × (x ≡ q)) ⊎ ((eqb x q ≡ false) × (x ≢ q)) → finmap.get (live_of f (finmap.insert m q t)) x ≡ finmap.get (finmap.insert (live_of f m) q t) x
    at x (inl w) = rw w.1 (seen_at f (finmap.insert m q t) q ∙ ap (option_map (seen (is_of f q))) (put_same m q t) ∙ ap (λ (z : LiveScan). Some z) (seen_id (is_of f q) t e) ∙ sym (put_same (live_of f m) q t))
    at x (inr w) = seen_at f (finmap.insert m q t) x ∙ ap (option_map (seen (is_of f x))) (put_other m q x t w.1) ∙ sym (seen_at f m x) ∙ sym (put_other (live_of f m) q x t w.1)

pub past_is_of : (f : Failure) (q : ℕ) → is_of (past_scan f q) q ≡ false
past_is_of (Before k) q = refl
past_is_of Write q = refl
past_is_of Past q = refl
past_is_of (Scan n) q = at (eqb_tells q n)
  where
    at : ((eqb q n ≡ true) × (q ≡ n)) ⊎ ((eqb q n ≡ false) × (q ≢ n)) → is_of (if nat_eq q n then Past else Scan n) q ≡ false
    at (inl w) = rw w.0 refl
    at (inr w) = rw w.0 w.0

apart : (x n : ℕ) → ((eqb x n ≡ true) × (x ≡ n)) ⊎ ((eqb x n ≡ false) × (x ≢ n)) → x ≢ n → nat_eq x n ≡ false
apart x n (inl w) ne = absurd (ne w.1)
apart x n (inr w) ne = w.0

past_others : (f : Failure) (q x : ℕ) → x ≢ q → is_of (past_scan f q) x ≡ is_of f x
past_others (Before k) q x ne = refl
past_others Write q x ne = refl
past_others Past q x ne = refl
past_others (Scan n) q x ne = at (eqb_tells q n)
  where
    at : ((eqb q n ≡ true) × (q ≡ n)) ⊎ ((eqb q n ≡ false) × (q ≢ n)) → is_of (if nat_eq q n then Past else Scan n) x ≡ nat_eq x n
    at (inl w) = rw w.0 (sym (apart x n (eqb_tells x n) (λ e. ne (e ∙ sym w.1))))
    at (inr w) = rw w.0 refl

fresh_of : (f : Failure) (m : Scans) (q : ℕ) → finmap.get m q ≡ None → live_of (past_scan f q) m ≡ live_of f m
fresh_of f m q e = same_scans _ _ (λ x. seen_at (past_scan f q) m x ∙ at x (eqb_tells x q) ∙ sym (seen_at f m x))
  where
    at : (x : ℕ) → ((eqb x q ≡ true) × (x ≡ q)) ⊎ ((eqb x q ≡ false) × (x ≢ q)) → option_map (seen (is_of (past_scan f q) x)) (finmap.get m x) ≡ option_map (seen (is_of f x)) (finmap.get m x)
    at x (inl w) = let none = ap (finmap.get m) w.1 ∙ e in none_seen (is_of (past_scan f q) x) (finmap.get m x) none ∙ sym (none_seen (is_of f x) (finmap.get m x) none)
    at x (inr w) = ap (λ (b : Bool). option_map (seen b) (finmap.get m x)) (past_others f q x w.1)

remove_of : (f : Failure) (m : Scans) (q : ℕ) → live_of (past_scan f q) (finmap.remove m q) ≡ finmap.remove (live_of f m) q
remove_of f m q = same_scans _ _ (λ x. seen_at (past_scan f q) (finmap.remove m q) x ∙ at x (eqb_tells x q))
  where
    at : (x : ℕ) → ((eqb x q ≡ true) × (x ≡ q)) ⊎ ((eqb x q ≡ false) × (x ≢ q)) → option_map (seen (is_of (past_scan f q) x)) (finmap.get (finmap.remove m q) x) ≡ finmap.get (finmap.remove (live_of f m) q) x
    at x (inl w) = rw w.1 (none_seen (is_of (past_scan f q) q) (finmap.get (finmap.remove m q) q) (taken_same m q) ∙ taken_same m q ∙ sym (taken_same (live_of f m) q))
    at x (inr w) =
        ap (λ (b : Bool). option_map (seen b) (finmap.get (finmap.remove m q) x)) (past_others f q x w.1) ∙ ap (option_map (seen (is_of f x))) (taken_other m q x w.1)
        ∙ sym (seen_at f m x) ∙ sym (taken_other (live_of f m) q x w.1)

len_put : (m : Scans) (k : ℕ) (v w : LiveScan) → finmap.get m k ≡ Some w → finmap.len (finmap.insert m k v) ≡ finmap.len m
len_put m k v w e = grind (gets, rules)

pub len_of : (f : Failure) (m : Scans) → finmap.len (live_of f m) ≡ finmap.len m
len_of (Before k) m = refl
len_of Write m = refl
len_of Past m = refl
len_of (Scan n) m = go (finmap.get m n) refl
  where
    go : (o : Option LiveScan) → finmap.get m n ≡ o → finmap.len (spoilt n m o) ≡ finmap.len m
    go None e = refl
    go (Some s) e = len_put m n (record s { broken = true }) s e

-- the counts
bump_min : (n : ℕ) → min (bumped n) (2 ^ 64 - 1) ≡ bumped (min n (2 ^ 64 - 1))
bump_min n = omega arith

tells_source : (f : Failure) (n : ℕ) → faults_of f (bumped n) ≡ bumped (faults_of f n)
tells_source (Before k) n = bump_min n
tells_source (Scan k) n = refl
tells_source Write n = refl
tells_source Past n = refl

tells : (f : Failure) (fault : Fault) (n : ℕ) → faults_of f (faults_after fault n) ≡ faults_after fault (faults_of f n)
tells f NoMemory n = refl
tells f Source n = tells_source f n
tells f (Refused c) n = refl

-- a counted call that is not due leaves what is seen
same_after : (s : BoxState) (f : Failure) → failed s (after_call f) ≡ failed s f
same_after s (Before n) = refl
same_after s (Scan n) = refl
same_after s Write = refl
same_after s Past = refl

pub moved : (P : BoxState → Type 0) (s : BoxState) (f g : Failure) → g ≡ after_call f → P (failed s g) → P (failed s f)
moved P s f g e p = subst P (ap (failed s) e ∙ same_after s f) p

-- what is live or open outside is so inside
some_seen : (b : Bool) (o : Option LiveScan) → IsSome (option_map (seen b) o) → IsSome o
some_seen b None e = absurd cc
some_seen b (Some t) e = refl

pub live_in : (f : Failure) (s : BoxState) (q : ℕ) → IsSome (scan_of (failed s f) q) → IsSome (scan_of s q)
live_in f s q e = some_seen (is_of f q) (scan_of s q) (subst IsSome (seen_at f s.ledger.live q) e)

pub open_in : (f : Failure) (s : BoxState) (q : ℕ) (scan : LiveScan) → scan_of (failed s f) q ≡ Some scan → scan.broken ≡ false → (scan_of s q ≡ Some scan) × (is_of f q ≡ false)
open_in f s q scan at whole = go (scan_of s q) refl (sym (seen_at f s.ledger.live q) ∙ at)
  where
    go : (o : Option LiveScan) → scan_of s q ≡ o → option_map (seen (is_of f q)) o ≡ Some scan → (scan_of s q ≡ Some scan) × (is_of f q ≡ false)
    go None e i = absurd cc
    go (Some t) e i =
        let same = same_Some (seen (is_of f q) t) scan i in
        let no_ = or_false (is_of f q) t.broken (ap (λ (z : LiveScan). z.broken) same ∙ whole) in
        (e ∙ ap (λ (z : LiveScan). Some z) (sym (seen_id (is_of f q) t no_) ∙ same), no_)

leaves : {tickets tables : ℕ → Type 0} {remotes : List ℕ → Type 0} (f g : Failure) (s t : BoxState) → Leaves tickets tables remotes s t → Leaves tickets tables remotes (failed s f) (failed t g)
leaves f g s t l = record { coming = λ q live other. l.coming q (live_in f s q live) other; rows = l.rows; holdings = l.holdings }

-- the calls
pub allows : (f : Failure) (s : BoxState) (t : ℕ) (spec : Spec) → Allows s t spec → Allows (failed s f) t spec
allows f s t spec a = record { bound = a.bound; is = a.is; allowed = a.allowed }

pub allows_promise : (f : Failure) (s : BoxState) (t : ℕ) (spec : Spec) → AllowsPromise s t spec → AllowsPromise (failed s f) t spec
allows_promise f s t spec a = record { allows = allows f s t spec a.allows; may = a.may }

pub binds : (f : Failure) (s t : BoxState) (remote : List ℕ) (columns : List Column) (settings : List OptionForm) (n : ℕ) → Binds s remote columns settings n t → Binds (failed s f) remote columns settings n (failed t f)
binds f s t remote columns settings n b = record {
  nature = b.nature;
  fresh = b.fresh;
  bound = b.bound;
  remote_is = b.remote_is;
  kinds_are = b.kinds_are;
  line_is = b.line_is;
  image_is = b.image_is;
  arrangement_is = b.arrangement_is;
  refuses_is = b.refuses_is;
  ledger = ap (failed_ledger f) b.ledger;
  entry = b.entry;
  picked = b.picked;
  no_cause = b.no_cause;
  rows = b.rows;
  once = b.once;
  leaves = λ h. leaves f f s t (b.leaves h);
}

pub refuses : (f : Failure) (s t : BoxState) (fault : Fault) → Refuses fault s t → Refuses fault (failed s f) (failed t f)
refuses f s t fault r = record {
  nature = r.nature;
  next = r.next;
  rises = r.rises;
  stays = r.stays;
  keeps = r.keeps;
  ledger = ap (failed_ledger f) r.ledger ∙ ap (λ (n : ℕ). record (failed_ledger f s.ledger) { next = r.next; faults = n }) (tells f fault s.ledger.faults);
  leaves = λ h. leaves f f s t (r.leaves h);
}

no_scan_in : (f : Failure) (s : BoxState) (t : ℕ) → NoScan (failed s f) t → NoScan s t
no_scan_in f s t none q scan e = none q (seen (is_of f q) scan) (seen_at f s.ledger.live q ∙ ap (option_map (seen (is_of f q))) e)

none_in : (f : Failure) (o : Option Staging) → option_map (staging_of f) o ≡ None → o ≡ None
none_in f None e = refl
none_in f (Some t) e = absurd cc

pub can_unbind : (f : Failure) (s : BoxState) (t : ℕ) → CanUnbind (failed s f) t → CanUnbind s t
can_unbind f s t c = record { is_bound = c.is_bound; no_scan = no_scan_in f s t c.no_scan; not_staged = none_in f s.ledger.staged c.not_staged }

pub unbinds : (f : Failure) (s t : BoxState) (n : ℕ) → Unbinds s n t → Unbinds (failed s f) n (failed t f)
unbinds f s t n u = record { nature = u.nature; ledger = ap (failed_ledger f) u.ledger; leaves = λ h. leaves f f s t (u.leaves h) }

same_writes : (f : Failure) (q : ℕ) → is_write (past_scan f q) ≡ is_write f
same_writes (Before k) q = refl
same_writes Write q = refl
same_writes Past q = refl
same_writes (Scan n) q = at (nat_eq q n)
  where
    at : (b : Bool) → is_write (if b then Past else Scan n) ≡ false
    at true = refl
    at false = refl

same_faults : (f : Failure) (q n : ℕ) → faults_of (past_scan f q) n ≡ faults_of f n
same_faults (Before k) q n = refl
same_faults Write q n = refl
same_faults Past q n = refl
same_faults (Scan k) q n = at (nat_eq q k)
  where
    at : (b : Bool) → faults_of (if b then Past else Scan k) n ≡ bumped n
    at true = refl
    at false = refl

-- a ledger seen past the scan of this number
past_ledger : (f : Failure) (q : ℕ) (l : Ledger) (m : Scans) → live_of (past_scan f q) l.live ≡ m → failed_ledger (past_scan f q) l ≡ record (failed_ledger f l) { live = m }
past_ledger f q l m e =
    ap (λ (x : Scans). record (failed_ledger (past_scan f q) l) { live = x }) e
    ∙ ap (λ (b : Bool). record { tables = l.tables; live = m; staged = option_map (λ (t : Staging). record t { broken = b || t.broken }) l.staged; next = l.next; pulled = l.pulled; faults = faults_of (past_scan f q) l.faults }) (same_writes f q)
    ∙ ap (λ (n : ℕ). record (failed_ledger f l) { live = m; faults = n }) (same_faults f q l.faults)

fresh_seen : (f : Failure) (s : BoxState) (q : ℕ) → scan_of s q ≡ None → scan_of (failed s f) q ≡ None
fresh_seen f s q e = seen_at f s.ledger.live q ∙ ap (option_map (seen (is_of f q))) e

pub begins : (f : Failure) (s t : BoxState) (n : ℕ) (spec : Spec) (params : Tuple) (q : ℕ) → Begins s n spec params q t → Begins (failed s f) n spec params q (failed t (past_scan f q))
begins f s t n spec params q b = record {
  nature = b.nature;
  is_next = b.is_next;
  room = b.room;
  fresh = fresh_seen f s q b.fresh;
  bound = b.bound;
  is = b.is;
  left = b.left;
  few = b.few;
  ledger =
      ap (failed_ledger (past_scan f q)) b.ledger
      ∙ past_ledger f q (record s.ledger { live = finmap.insert s.ledger.live q (new_scan n b.bound.kinds spec params b.left); next = q + 1 }) (finmap.insert (live_of f s.ledger.live) q (new_scan n b.bound.kinds spec params b.left))
      (insert_of (past_scan f q) s.ledger.live q (new_scan n b.bound.kinds spec params b.left) (past_is_of f q) ∙ ap (λ (m : Scans). finmap.insert m q (new_scan n b.bound.kinds spec params b.left)) (fresh_of f s.ledger.live q b.fresh));
  coming = b.coming;
  leaves = λ h. leaves f (past_scan f q) s t (b.leaves h);
}

at_seen : (f : Failure) (s : BoxState) (q : ℕ) (scan : LiveScan) → is_of f q ≡ false → scan_of s q ≡ Some scan → scan_of (failed s f) q ≡ Some scan
at_seen f s q scan e at = seen_at f s.ledger.live q ∙ all_id (is_of f q) (scan_of s q) e ∙ at

pub gives : (f : Failure) (s t : BoxState) (q : ℕ) (row : Option SourceRow) → is_of f q ≡ false → Iterates s q row t → Iterates (failed s f) q row (failed t f)
gives f s t q None e g = record { nature = g.nature; ledger = ap (failed_ledger f) g.ledger; coming = g.coming; still = g.still; leaves = λ h. leaves f f s t (g.leaves h) }
gives f s t q (Some row) e g = record {
  nature = g.nature;
  scan = g.scan;
  at = at_seen f s q g.scan e g.at;
  left = g.left;
  fewer = g.fewer;
  typed = g.typed;
  ledger = ap (failed_ledger f) g.ledger ∙ ap (λ (m : Scans). record (failed_ledger f s.ledger) { live = m; pulled = bumped s.ledger.pulled }) (insert_of f s.ledger.live q (record g.scan { left = g.left }) e);
  coming = g.coming;
  leaves = λ h. leaves f f s t (g.leaves h);
}

pub breaks : (f : Failure) (s t : BoxState) (q : ℕ) (fault : Fault) → is_of f q ≡ false → Breaks s q fault t → Breaks (failed s f) q fault (failed t f)
breaks f s t q fault e b = record {
  nature = b.nature;
  no_cause = b.no_cause;
  scan = b.scan;
  at = at_seen f s q b.scan e b.at;
  ledger =
      ap (failed_ledger f) b.ledger
      ∙ ap (λ (m : Scans). record (failed_ledger f s.ledger) { live = m; faults = faults_of f (faults_after fault s.ledger.faults) }) (insert_of f s.ledger.live q (record b.scan { broken = true }) e)
      ∙ ap (λ (n : ℕ). record (failed_ledger f s.ledger) { live = finmap.insert (live_of f s.ledger.live) q (record b.scan { broken = true }); faults = n }) (tells f fault s.ledger.faults);
  leaves = λ h. leaves f f s t (b.leaves h);
}

pub can_rescan : (f : Failure) (s : BoxState) (q : ℕ) (params : Tuple) → CanRescan (failed s f) q params → CanRescan s q params
can_rescan f s q params c = record { scan = c.scan; at = (open_in f s q c.scan c.at c.whole).0; whole = c.whole; bound = c.bound; is = c.is; typed = c.typed }

pub rescans : (f : Failure) (s t : BoxState) (q : ℕ) (params : Tuple) → is_of f q ≡ false → Rescans s q params t → Rescans (failed s f) q params (failed t f)
rescans f s t q params e r = record {
  nature = r.nature;
  scan = r.scan;
  at = at_seen f s q r.scan e r.at;
  left = r.left;
  few = r.few;
  ledger = ap (failed_ledger f) r.ledger ∙ ap (λ (m : Scans). record (failed_ledger f s.ledger) { live = m }) (insert_of f s.ledger.live q (new_scan r.scan.table r.scan.kinds r.scan.spec params r.left) e);
  coming = r.coming;
  leaves = λ h. leaves f f s t (r.leaves h);
}

pub ends : (f : Failure) (s t : BoxState) (q : ℕ) → Ends s q t → Ends (failed s f) q (failed t (past_scan f q))
ends f s t q e = record {
  nature = e.nature;
  ledger = ap (failed_ledger (past_scan f q)) e.ledger ∙ past_ledger f q (record s.ledger { live = finmap.remove s.ledger.live q }) (finmap.remove (live_of f s.ledger.live) q) (remove_of f s.ledger.live q);
  leaves = λ h. leaves f (past_scan f q) s t (e.leaves h);
}

pub can_modify : (f : Failure) (s : BoxState) (t : ℕ) → CanModify (failed s f) t → CanModify s t
can_modify f s t c = record { is_bound = c.is_bound; no_scan = no_scan_in f s t c.no_scan; not_staged = none_in f s.ledger.staged c.not_staged }

past_live : (f : Failure) (m : Scans) → live_of (past_write f) m ≡ live_of f m
past_live (Before k) m = refl
past_live (Scan n) m = refl
past_live Write m = refl
past_live Past m = refl

past_whole : (f : Failure) → is_write (past_write f) ≡ false
past_whole (Before k) = refl
past_whole (Scan n) = refl
past_whole Write = refl
past_whole Past = refl

past_faults : (f : Failure) (n : ℕ) → faults_of (past_write f) n ≡ faults_of f n
past_faults (Before k) n = refl
past_faults (Scan k) n = refl
past_faults Write n = refl
past_faults Past n = refl

pub opens : (f : Failure) (s t : BoxState) (n : ℕ) → Opens s n t → Opens (failed s f) n (failed t (past_write f))
opens f s t n o = record {
  nature = o.nature;
  ledger =
      ap (failed_ledger (past_write f)) o.ledger
      ∙ ap (λ (b : Bool). record { tables = s.ledger.tables; live = live_of (past_write f) s.ledger.live; staged = Some (record { table = n; changes = []; broken = b || false }); next = s.ledger.next; pulled = s.ledger.pulled; faults = faults_of (past_write f) s.ledger.faults }) (past_whole f)
      ∙ ap (λ (m : Scans). record { tables = s.ledger.tables; live = m; staged = Some (record { table = n; changes = []; broken = false }); next = s.ledger.next; pulled = s.ledger.pulled; faults = faults_of (past_write f) s.ledger.faults }) (past_live f s.ledger.live)
      ∙ ap (λ (k : ℕ). record { tables = s.ledger.tables; live = live_of f s.ledger.live; staged = Some (record { table = n; changes = []; broken = false }); next = s.ledger.next; pulled = s.ledger.pulled; faults = k }) (past_faults f s.ledger.faults);
  leaves = λ h. leaves f (past_write f) s t (o.leaves h);
}

-- a write that is whole outside is so inside
staged_in : (f : Failure) (o : Option Staging) (staging : Staging) → option_map (staging_of f) o ≡ Some staging → staging.broken ≡ false → (o ≡ Some staging) × (is_write f ≡ false)
staged_in f None staging e whole = absurd cc
staged_in f (Some t) staging e whole =
    let same = same_Some (staging_of f t) staging e in
    let no_ = or_false (is_write f) t.broken (ap (λ (z : Staging). z.broken) same ∙ whole) in
    (ap (λ (z : Staging). Some z) (sym (whole_id t no_) ∙ same), no_)
  where
    whole_id : (t : Staging) → is_write f ≡ false → staging_of f t ≡ t
    whole_id t no_ = rw no_ refl

pub can_change : (f : Failure) (s : BoxState) (change : Change) → CanChange (failed s f) change → CanChange s change × (is_write f ≡ false)
can_change f s change c =
    let w = staged_in f s.ledger.staged c.staging c.is_staged c.whole in
    (record { staging = c.staging; is_staged = w.0; whole = c.whole; bound = c.bound; is = c.is; fits = c.fits; there = c.there; once = c.once }, w.1)

seen_staged : (f : Failure) (t : Staging) → is_write f ≡ false → option_map (staging_of f) (Some t) ≡ Some t
seen_staged f t e = rw e refl

pub stages : (f : Failure) (s t : BoxState) (change : Change) → is_write f ≡ false → Stages s change t → Stages (failed s f) change (failed t f)
stages f s t change e r = record {
  nature = r.nature;
  staging = r.staging;
  is_staged = ap (option_map (staging_of f)) r.is_staged ∙ seen_staged f r.staging e;
  ledger = ap (failed_ledger f) r.ledger ∙ ap (λ (o : Option Staging). record (failed_ledger f s.ledger) { staged = o }) (seen_staged f (record r.staging { changes = r.staging.changes ++ change ∷ [] }) e);
  leaves = λ h. leaves f f s t (r.leaves h);
}

pub refuses_change : (f : Failure) (s t : BoxState) (change : Change) (fault : Fault) → is_write f ≡ false → RefusesChange s change fault t → RefusesChange (failed s f) change fault (failed t f)
refuses_change f s t change fault e r = record {
  nature = r.nature;
  staging = r.staging;
  is_staged = ap (option_map (staging_of f)) r.is_staged ∙ seen_staged f r.staging e;
  ledger =
      ap (failed_ledger f) r.ledger
      ∙ ap (λ (o : Option Staging). record (failed_ledger f s.ledger) { staged = o; faults = faults_of f (faults_after fault s.ledger.faults) }) (seen_staged f (record r.staging { broken = true }) e)
      ∙ ap (λ (n : ℕ). record (failed_ledger f s.ledger) { staged = Some (record r.staging { broken = true }); faults = n }) (tells f fault s.ledger.faults);
  cause = change_cause s s.nature (failed_ledger f s.ledger) s.content.coming r.staging change fault r.cause;
  leaves = λ h. leaves f f s t (r.leaves h);
}

-- the end of a write, of which the failure may have broken changes
pub can_close : (f : Failure) (s : BoxState) (keep : Bool) → CanClose (failed s f) keep → CanClose s keep
can_close f s keep c = go s.ledger.staged refl c.is_staged
  where
    go : (o : Option Staging) → s.ledger.staged ≡ o → option_map (staging_of f) o ≡ Some c.staging → CanClose s keep
    go None e i = absurd cc
    go (Some t) e i =
        let same = same_Some (staging_of f t) c.staging i in
        record {
          staging = t;
          is_staged = e;
          is_bound = subst (λ (n : ℕ). IsSome (table_of s n)) (ap (λ (z : Staging). z.table) (sym same)) c.is_bound;
          whole = λ k. or_right (is_write f) t.broken (ap (λ (z : Staging). z.broken) same ∙ c.whole k);
          no_scan = λ k. no_scan_in f s t.table (subst (λ (n : ℕ). NoScan (failed s f) n) (ap (λ (z : Staging). z.table) (sym same)) (c.no_scan k));
        }
      where
        or_right : (a b : Bool) → (a || b) ≡ false → b ≡ false
        or_right true b e = absurd cc
        or_right false b e = e

outcome : (f : Failure) (s t : BoxState) (keep : Bool) (staging : Staging) → Outcome s keep staging t → Outcome (failed s f) keep (staging_of f staging) (failed t f)
outcome f s t true staging w = record { bound = w.bound; is = w.is; entry = w.entry; picked = w.picked; no_cause = w.no_cause; rows = w.rows; once = w.once; holdings = w.holdings; leaves = leaves f f s t w.leaves }
outcome f s t false staging l = leaves f f s t l

pub closes : (f : Failure) (s t : BoxState) (keep : Bool) → Closes s keep t → Closes (failed s f) keep (failed t f)
closes f s t keep c = record {
  nature = c.nature;
  staging = staging_of f c.staging;
  is_staged = ap (option_map (staging_of f)) c.is_staged;
  ledger = ap (failed_ledger f) c.ledger;
  content = λ h. outcome f s t keep c.staging (c.content h);
}

pub refuses_close : (f : Failure) (s t : BoxState) (keep : Bool) (fault : Fault) → RefusesClose s keep fault t → RefusesClose (failed s f) keep fault (failed t f)
refuses_close f s t keep fault r = record {
  kept = r.kept;
  nature = r.nature;
  staging = staging_of f r.staging;
  is_staged = ap (option_map (staging_of f)) r.is_staged;
  ledger = ap (failed_ledger f) r.ledger ∙ ap (λ (n : ℕ). record (failed_ledger f s.ledger) { staged = None; faults = n }) (tells f fault s.ledger.faults);
  cause = close_cause s s.nature (failed_ledger f s.ledger) s.content.coming r.staging (is_write f || r.staging.broken) fault r.cause;
  leaves = λ h. leaves f f s t (r.leaves h);
}

pub same_of : (f g : Failure) (q : ℕ) → g ≡ after_call f → is_of f q ≡ false → is_of g q ≡ false
same_of f g q e i = ap (λ (h : Failure). is_of h q) e ∙ at f ∙ i
  where
    at : (f : Failure) → is_of (after_call f) q ≡ is_of f q
    at (Before n) = refl
    at (Scan n) = refl
    at Write = refl
    at Past = refl

pub same_write : (f g : Failure) → g ≡ after_call f → is_write f ≡ false → is_write g ≡ false
same_write f g e i = ap is_write e ∙ at f ∙ i
  where
    at : (f : Failure) → is_write (after_call f) ≡ is_write f
    at (Before n) = refl
    at (Scan n) = refl
    at Write = refl
    at Past = refl

-- the faults before the failure and after it
pub faults_before : (f : Failure) (n : ℕ) → has_come f ≡ false → n ≤ 2 ^ 64 - 1 → faults_of f n ≡ n
faults_before (Before k) n e le = omega arith
faults_before (Scan k) n e le = absurd cc
faults_before Write n e le = absurd cc
faults_before Past n e le = absurd cc

pub faults_since : (f : Failure) (n : ℕ) → has_come f ≡ true → faults_of f n ≡ bumped n
faults_since (Before k) n e = absurd cc
faults_since (Scan k) n e = refl
faults_since Write n e = refl
faults_since Past n e = refl
