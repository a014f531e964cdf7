-- There is always a list that a run may give.
use Rattle.std.proofs.Common.{◌≡◌, ℕ, zero, suc, Bool, true, false, not, ◌&&◌, cond, List, [], ◌∷◌, ◌++◌, map, length, drop, refl, IsPermutation, IsSorted}
use Rattle.std.specs.List.{filter}
use Rattle.std.proofs.lemmas.List.Sorted.{IsPermutation-filter_both, IsPermutation-trans, IsPermutation-append_left}
use Rattle.med_value.specs.Datum.{Tuple}
use Rattle.pushdown.specs.Joins.{Each, with_nulls}
use Rattle.std.specs.declared.cmp.Ordering.{Ordering}
use Rattle.pushdown.proofs.Shuffles.{each_shuffled}
use Rattle.pushdown.specs.Loops.{Choice, Coming, Level, choice_at, IsOffered, when, Then, Deeper, Loop, Runs, Top, Under, Rests, last_or}

passing : (p q : Tuple → Bool) → ((r : Tuple) → p r ≡ true → q r ≡ true) → (rows : List Tuple) → Each (λ r. q r ≡ true) (filter p rows)
passing p q h [] = tt
passing p q h (r ∷ rows) = step (p r) refl (passing p q h rows)
  where
    step : (b : Bool) → p r ≡ b → Each (λ r. q r ≡ true) (filter p rows) → Each (λ r. q r ≡ true) (cond b (r ∷ filter p rows) (filter p rows))
    step true e k = (h r e, k)
    step false e k = k

failing : (p : Tuple → Bool) (rows : List Tuple) → Each (λ r. p r ≡ false) (filter (λ r. not (p r)) rows)
failing p [] = tt
failing p (r ∷ rows) = step (p r) refl (failing p rows)
  where
    step : (b : Bool) → p r ≡ b → Each (λ r. p r ≡ false) (filter (λ r. not (p r)) rows) → Each (λ r. p r ≡ false) (cond (not b) (r ∷ filter (λ r. not (p r)) rows) (filter (λ r. not (p r)) rows))
    step true e k = k
    step false e k = (e, k)

-- the rows that pass all restrictions may come, in the promised order
abbrev pub Ordered : (Tuple → Tuple → Ordering) → List Tuple → Type 0
Ordered order rows = (sorted : List Tuple) × IsPermutation rows sorted × IsSorted order sorted

pub just_these : (c : Choice) (table : List Tuple) → ((r : Tuple) → c.all r ≡ true → c.exact r ≡ true) → (o : Ordered c.order (filter c.all table)) → Coming c table (map c.show (c.cut o.0))
just_these c table h o = record {
  taken = o.0;
  left_out = filter (λ r. not (c.all r)) table;
  parts = IsPermutation-trans table (filter c.all table ++ filter (λ r. not (c.all r)) table) (o.0 ++ filter (λ r. not (c.all r)) table)
      (IsPermutation-filter_both c.all (λ r. not (c.all r)) (λ r. refl) table)
      (IsPermutation-append_left (filter (λ r. not (c.all r)) table) (filter c.all table) o.0 o.1);
  passing = each_shuffled (λ r. c.exact r ≡ true) (filter c.all table) o.0 o.1 (passing c.all c.exact h table);
  failing = failing c.all table;
  sorted = o.2;
  is = refl;
}

deep_exists : (s : Level) (next : Tuple → List Tuple → Type 0) → ((y : Tuple) → (g : List Tuple) × next y g) → (y : Tuple) → (g : List Tuple) × Deeper s next y g
deep_exists s next h y = step (s.where_ y)
  where
    step : (b : Bool) → (g : List Tuple) × when b (next y g) (g ≡ [])
    step true = h y
    step false = ([], refl)

loop_exists : (s : Level) (next : Tuple → List Tuple → Type 0) → ((y : Tuple) → (g : List Tuple) × next y g) → (x : Tuple) (found : Bool) (rows : List Tuple) → (g : List Tuple) × Loop s next x found rows g
loop_exists s next h x found [] = step (s.outer && not found)
  where
    step : (b : Bool) → (g : List Tuple) × when b (Deeper s next (with_nulls s.width x) g) (g ≡ [])
    step true = deep_exists s next h (with_nulls s.width x)
    step false = ([], refl)
loop_exists s next h x found (r ∷ rows) = step (s.on (x ++ r)) (loop_exists s next h x true rows) (loop_exists s next h x found rows)
  where
    step : (b : Bool) → ((g : List Tuple) × Loop s next x true rows g) → ((g : List Tuple) × Loop s next x found rows g) → (g : List Tuple) × when b (Then (Deeper s next (x ++ r)) (Loop s next x true rows) g) (Loop s next x found rows g)
    step true a b = let d = deep_exists s next h (x ++ r) in (d.0 ++ a.0, record { first = d.0; second = a.0; one = d.1; two = a.1; is = refl })
    step false a b = b

pub runs_exist : (ss : List Level) → Each IsOffered ss → (x : Tuple) → (g : List Tuple) × Runs ss x g
runs_exist [] h x = (x ∷ [], refl)
runs_exist (s ∷ ss) h x =
    let o = h.0.1 (filter (s.all x) s.table) in
    let rows = map s.show (s.cut o.0) in
    let l = loop_exists s (Runs ss) (λ y. runs_exist ss h.1 y) x false rows in
    (l.0, (rows, just_these (choice_at s x) s.table (h.0.0 x) o, l.1))

module _ (rest : ℕ → List Tuple) (found : ℕ → Bool) where
  top_exists : (ss : List Level) → Each IsOffered ss → (k : ℕ) (x : Tuple) → (g : List Tuple) × Top ss rest found k x g
  top_exists [] h k x = ([], refl)
  top_exists (s ∷ ss) h k x = loop_exists s (Runs ss) (λ y. runs_exist ss h.1 y) x (found k) (rest k)

  under_exists : (ss : List Level) → Each IsOffered ss → (k : ℕ) (x : Tuple) (ys : List Tuple) (T : List Tuple → Type 0) → ((g : List Tuple) × T g) → (g : List Tuple) × Under ss rest found k x ys T g
  under_exists ss h k x [] T t = t
  under_exists [] h k x (y ∷ ys) T t = ([], refl)
  under_exists (s ∷ ss) h k x (y ∷ ys) T t =
      let u = under_exists ss h.1 (suc k) y ys T t in
      let l = loop_exists s (Runs ss) (λ z. runs_exist ss h.1 z) x (found k) (rest k) in
      (u.0 ++ l.0, record { first = u.0; second = l.0; one = u.1; two = l.1; is = refl })

  all_dropped : (n : ℕ) (ss : List Level) → Each IsOffered ss → Each IsOffered (drop n ss)
  all_dropped zero ss h = h
  all_dropped (suc n) [] h = h
  all_dropped (suc n) (s ∷ ss) h = all_dropped n ss h.1

  pub rests_exist : (ss : List Level) → Each IsOffered ss → (ys : List Tuple) → (g : List Tuple) × Rests ss rest found ys g
  rests_exist ss h ys = under_exists ss h 0 [] ys _ (top_exists (drop (length ys) ss) (all_dropped (length ys) ss h) (length ys) (last_or [] ys))
