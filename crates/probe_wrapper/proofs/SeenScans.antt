-- The map of the live scans as a wrapper round a wrapper shows them.
use Rattle.std.proofs.Common.{◌≡◌, ◌≢◌, ℕ, ◌⊎◌, T, Bool, true, false, ◌&&◌, cond, eqb, List, [], ◌∷◌, length, map, Option, Some, None, option_map, refl, ap, sym, ◌∙◌, rules, inl, inr, Ordering}
use Rattle.std.specs.declared.cmp.Ordering.TheVariants.{Less, Equal, Greater}
use Rattle.std.specs.Ordering.{nat_cmp, is_eq, is_lt}
use Rattle.std.specs.BTreeMap.{is_at}
use Rattle.std.specs.FinMap as finmap
use Rattle.std.specs.FinMap.{gets, find, is_sorted, nat_cmp-IsAntisymmetric, get-from_sorted, entries-from_sorted, get-entries, len-entries, entries_sorted}
use Rattle.std.specs.FinMap.Entries.{below_all}
use Rattle.std.specs.Cmp.{nat_cmp_total}
use Rattle.std.proofs.lemmas.List.{length-map}
use Rattle.std.proofs.lemmas.Bool.Decides.{eqb_tells}
use Rattle.fdw_api.specs.State.{Scan}
use Rattle.probe_wrapper.specs.LiveScans.{each_seen}

abbrev pub Scans : Type 0
Scans = finmap.FinMap nat_cmp Scan

-- how the scan of a number is seen
abbrev pub See : Type 0
See = ℕ → Scan → Scan

-- another number is at another place
pub apart : (k q : ℕ) → q ≢ k → is_at (nat_cmp k) q ≡ false
apart k q ne = grind (gets, rules)

pub put_same : (m : Scans) (k : ℕ) (v : Scan) → finmap.get (finmap.insert m k v) k ≡ Some v
put_same m k v = grind (gets, rules)

pub put_other : (m : Scans) (k q : ℕ) (v : Scan) → q ≢ k → finmap.get (finmap.insert m k v) q ≡ finmap.get m q
put_other m k q v ne = grind (gets, rules)

pub taken_same : (m : Scans) (k : ℕ) → finmap.get (finmap.remove m k) k ≡ None
taken_same m k = grind (gets, rules)

pub taken_other : (m : Scans) (k q : ℕ) → q ≢ k → finmap.get (finmap.remove m k) q ≡ finmap.get m q
taken_other m k q ne = grind (gets, rules)

equal_of : (o : Ordering) → is_eq o ≡ true → o ≡ Equal
equal_of Less e = absurd cc
equal_of Equal e = refl
equal_of Greater e = absurd cc

step : (f : See) (q k : ℕ) (x : Scan) (b : Bool) (o p : Option Scan) → (b ≡ true → q ≡ k) → o ≡ option_map (f q) p → cond b (Some (f k x)) o ≡ option_map (f q) (cond b (Some x) p)
step f q k x true o p same e = ap (λ (n : ℕ). Some (f n x)) (sym (same refl))
step f q k x false o p same e = e

find_seen : (f : See) (q : ℕ) (es : List (ℕ × Scan)) → find nat_cmp q (map (λ e. (e.0, f e.0 e.1)) es) ≡ option_map (f q) (find nat_cmp q es)
find_seen f q [] = refl
find_seen f q (e ∷ es) = step f q e.0 e.1 (is_eq (nat_cmp q e.0)) _ _ (λ b. nat_cmp-IsAntisymmetric q e.0 (equal_of (nat_cmp q e.0) b)) (find_seen f q es)

below_seen : (f : See) (k : ℕ) (es : List (ℕ × Scan)) → T (below_all nat_cmp k es) → T (below_all nat_cmp k (map (λ e. (e.0, f e.0 e.1)) es))
below_seen f k [] h = h
below_seen f k (e ∷ es) h = at (is_lt (nat_cmp k e.0)) h (below_seen f k es)
  where
    at : (b : Bool) → T (b && below_all nat_cmp k es) → (T (below_all nat_cmp k es) → T (below_all nat_cmp k (map (λ e. (e.0, f e.0 e.1)) es))) → T (b && below_all nat_cmp k (map (λ e. (e.0, f e.0 e.1)) es))
    at true h g = g h
    at false h g = h

sorted_seen : (f : See) (es : List (ℕ × Scan)) → T (is_sorted nat_cmp es) → T (is_sorted nat_cmp (map (λ e. (e.0, f e.0 e.1)) es))
sorted_seen f [] h = h
sorted_seen f (e ∷ es) h = both_of (below_all nat_cmp e.0 es) _ (is_sorted nat_cmp es) _ h (below_seen f e.0 es) (sorted_seen f es)
  where
    both_of : (b c p q : Bool) → T (b && p) → (T b → T c) → (T p → T q) → T (c && q)
    both_of true true p q h f g = g h
    both_of true false p q h f g = absurd (f tt)
    both_of false c p q h f g = absurd h

pub each_get : (f : See) (m : Scans) (q : ℕ) → finmap.get (each_seen f m) q ≡ option_map (f q) (finmap.get m q)
each_get f m q =
    get-from_sorted nat_cmp (map (λ e. (e.0, f e.0 e.1)) (finmap.entries m)) q (sorted_seen f (finmap.entries m) (entries_sorted m))
    ∙ find_seen f q (finmap.entries m) ∙ ap (option_map (f q)) (sym (get-entries m q))

pub each_len : (f : See) (m : Scans) → finmap.len (each_seen f m) ≡ finmap.len m
each_len f m =
    len-entries (each_seen f m)
    ∙ ap (λ (l : List (ℕ × Scan)). length l) (entries-from_sorted nat_cmp (map (λ e. (e.0, f e.0 e.1)) (finmap.entries m)) (sorted_seen f (finmap.entries m) (entries_sorted m)))
    ∙ length-map _ _ ∙ sym (len-entries m)

pub same_scans : (m n : Scans) → ((q : ℕ) → finmap.get m q ≡ finmap.get n q) → m ≡ n
same_scans m n e = finmap.same_map nat_cmp_total nat_cmp-IsAntisymmetric m n e

-- a scan is put in or changed, and the others are seen as before
pub each_insert : (old new : See) (m : Scans) (q : ℕ) (s : Scan) → ((x : ℕ) → x ≢ q → new x ≡ old x) → each_seen new (finmap.insert m q s) ≡ finmap.insert (each_seen old m) q (new q s)
each_insert old new m q s others = same_scans _ _ (λ x. at x (eqb_tells x q))
  where
    at : (x : ℕ) → ((eqb x q ≡ true) × (x ≡ q)) ⊎ ((eqb x q ≡ false) × (x ≢ q)) → finmap.get (each_seen new (finmap.insert m q s)) x ≡ finmap.get (finmap.insert (each_seen old m) q (new q s)) x
    at x (inl w) = rw w.1 (each_get new (finmap.insert m q s) q ∙ ap (option_map (new q)) (put_same m q s) ∙ sym (put_same (each_seen old m) q (new q s)))
    at x (inr w) =
        each_get new (finmap.insert m q s) x ∙ ap (option_map (new x)) (put_other m q x s w.1) ∙ ap (λ (g : Scan → Scan). option_map g (finmap.get m x)) (others x w.1)
        ∙ sym (each_get old m x) ∙ sym (put_other (each_seen old m) q x (new q s) w.1)

pub each_change : (old new : See) (m : Scans) (q : ℕ) (s : Scan) → finmap.get m q ≡ Some s → ((x : ℕ) → x ≢ q → new x ≡ old x) → each_seen new m ≡ finmap.insert (each_seen old m) q (new q s)
each_change old new m q s is others = same_scans _ _ (λ x. at x (eqb_tells x q))
  where
    at : (x : ℕ) → ((eqb x q ≡ true) × (x ≡ q)) ⊎ ((eqb x q ≡ false) × (x ≢ q)) → finmap.get (each_seen new m) x ≡ finmap.get (finmap.insert (each_seen old m) q (new q s)) x
    at x (inl w) = rw w.1 (each_get new m q ∙ ap (option_map (new q)) is ∙ sym (put_same (each_seen old m) q (new q s)))
    at x (inr w) = each_get new m x ∙ ap (λ (g : Scan → Scan). option_map g (finmap.get m x)) (others x w.1) ∙ sym (each_get old m x) ∙ sym (put_other (each_seen old m) q x (new q s) w.1)

pub each_remove : (old new : See) (m : Scans) (q : ℕ) → ((x : ℕ) → x ≢ q → new x ≡ old x) → each_seen new (finmap.remove m q) ≡ finmap.remove (each_seen old m) q
each_remove old new m q others = same_scans _ _ (λ x. at x (eqb_tells x q))
  where
    at : (x : ℕ) → ((eqb x q ≡ true) × (x ≡ q)) ⊎ ((eqb x q ≡ false) × (x ≢ q)) → finmap.get (each_seen new (finmap.remove m q)) x ≡ finmap.get (finmap.remove (each_seen old m) q) x
    at x (inl w) = rw w.1 (each_get new (finmap.remove m q) q ∙ ap (option_map (new q)) (taken_same m q) ∙ sym (taken_same (each_seen old m) q))
    at x (inr w) =
        each_get new (finmap.remove m q) x ∙ ap (option_map (new x)) (taken_other m q x w.1) ∙ ap (λ (g : Scan → Scan). option_map g (finmap.get m x)) (others x w.1)
        ∙ sym (each_get old m x) ∙ sym (taken_other (each_seen old m) q x w.1)

pub each_keep : (old new : See) (m : Scans) → ((x : ℕ) → new x ≡ old x) → each_seen new m ≡ each_seen old m
each_keep old new m same = same_scans _ _ (λ x. each_get new m x ∙ ap (λ (g : Scan → Scan). option_map g (finmap.get m x)) (same x) ∙ sym (each_get old m x))

-- a scan that was put in and taken out again
pub gone_again : (m : Scans) (q : ℕ) (s : Scan) → finmap.get m q ≡ None → finmap.remove (finmap.insert m q s) q ≡ m
gone_again m q s none = same_scans _ _ (λ x. at x (eqb_tells x q))
  where
    at : (x : ℕ) → ((eqb x q ≡ true) × (x ≡ q)) ⊎ ((eqb x q ≡ false) × (x ≢ q)) → finmap.get (finmap.remove (finmap.insert m q s) q) x ≡ finmap.get m x
    at x (inl w) = rw w.1 (taken_same (finmap.insert m q s) q ∙ sym none)
    at x (inr w) = taken_other (finmap.insert m q s) q x w.1 ∙ put_other m q x s w.1

-- the same scan put in once more
pub put_again : (m : Scans) (q : ℕ) (s : Scan) → finmap.get m q ≡ Some s → finmap.insert m q s ≡ m
put_again m q s is = same_scans _ _ (λ x. at x (eqb_tells x q))
  where
    at : (x : ℕ) → ((eqb x q ≡ true) × (x ≡ q)) ⊎ ((eqb x q ≡ false) × (x ≢ q)) → finmap.get (finmap.insert m q s) x ≡ finmap.get m x
    at x (inl w) = rw w.1 (put_same m q s ∙ sym is)
    at x (inr w) = put_other m q x s w.1

pub put_twice : (m : Scans) (q : ℕ) (s u : Scan) → finmap.insert (finmap.insert m q s) q u ≡ finmap.insert m q u
put_twice m q s u = same_scans _ _ (λ x. at x (eqb_tells x q))
  where
    at : (x : ℕ) → ((eqb x q ≡ true) × (x ≡ q)) ⊎ ((eqb x q ≡ false) × (x ≢ q)) → finmap.get (finmap.insert (finmap.insert m q s) q u) x ≡ finmap.get (finmap.insert m q u) x
    at x (inl w) = rw w.1 (put_same (finmap.insert m q s) q u ∙ sym (put_same m q u))
    at x (inr w) = put_other (finmap.insert m q s) q x u w.1 ∙ put_other m q x s w.1 ∙ sym (put_other m q x u w.1)
