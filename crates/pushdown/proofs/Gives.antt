-- Every list that a run may give is a permutation of the kept rows.
use Rattle.std.proofs.Common.{◌≡◌, ℕ, ◌+◌, Bool, true, false, not, ◌&&◌, cond, List, [], ◌∷◌, ◌++◌, map, length, replicate, refl, sym, ap, ◌∙◌, subst, arith, IsPermutation}
use Rattle.std.specs.List.{flat_map, filter}
use Rattle.std.proofs.lemmas.List.{append-nil, map-append, length-append, length-replicate}
use Rattle.std.proofs.lemmas.Grind.{flat_map-append}
use Rattle.std.proofs.lemmas.List.Elements.{filter-append}
use Rattle.std.proofs.lemmas.List.Sorted.{IsPermutation-trans, IsPermutation-append, IsPermutation-append_left, IsPermutation-map, length_permutation}
use Rattle.med_value.specs.Datum.{Tuple, NoValue}
use Rattle.pushdown.specs.Joins.{Each, with_nulls, or_nulls, kept, AllWide}
use Rattle.pushdown.specs.Loops.{Step, Decides, IsWhole, IsSplit, AreSplit, when, Then, Deeper, Loop, Runs, levels, entries}
use Rattle.pushdown.proofs.Shuffles.{same, flat_map_shuffled, filter_shuffled, each_parts, each_shuffled}
use Rattle.med_query.specs.Query.{beside}

abbrev leftover : Bool → ℕ → Tuple → List Tuple → List Tuple
leftover outer w x [] = cond outer (with_nulls w x ∷ []) []
leftover outer w x (y ∷ ys) = []

or_nulls_is : (outer : Bool) (w : ℕ) (x : Tuple) (m : List Tuple) → or_nulls outer w x m ≡ m ++ leftover outer w x m
or_nulls_is outer w x [] = refl
or_nulls_is outer w x (y ∷ ys) = sym (append-nil (y ∷ ys))

leftover_none : (w : ℕ) (x : Tuple) (m : List Tuple) → leftover false w x m ≡ []
leftover_none w x [] = refl
leftover_none w x (y ∷ ys) = refl

and_false : (b : Bool) → (b && false) ≡ false
and_false true = refl
and_false false = refl

and_true : (b : Bool) → (b && true) ≡ b
and_true true = refl
and_true false = refl

empty : {X : Type 0} (m : List X) → IsPermutation [] m → m ≡ []
empty [] h = refl
empty (y ∷ ys) h = let e = length_permutation [] (y ∷ ys) h in absurd (omega arith)

leftover_shuffled : (outer : Bool) (w : ℕ) (x : Tuple) (m n : List Tuple) → IsPermutation m n → leftover outer w x m ≡ leftover outer w x n
leftover_shuffled outer w x [] n h = ap (leftover outer w x) (sym (empty n h))
leftover_shuffled outer w x (y ∷ ys) [] h = let e = length_permutation (y ∷ ys) [] h in absurd (omega arith)
leftover_shuffled outer w x (y ∷ ys) (z ∷ zs) h = refl

-- what the rows that begin with y give
abbrev kept_of : Step → List Step → Tuple → List Tuple
kept_of s ss y = cond (s.where_ y) (kept (entries ss) y) []

-- a row with a row of the table, as its scan shows it
abbrev joins : Step → Tuple → Tuple → Tuple
joins s x r = x ++ s.level.show r

-- the same of several rows
abbrev pairs : Step → Tuple → List Tuple → List Tuple
pairs s x rows = beside x (map s.level.show rows)

-- what one row of the table gives
abbrev part : Step → List Step → Tuple → Tuple → List Tuple
part s ss x r = cond (s.on (joins s x r)) (kept_of s ss (joins s x r)) []

parts_step : (b : Bool) (f : Tuple → List Tuple) (y : Tuple) (m : List Tuple) (l : List Tuple) → flat_map f m ≡ l → flat_map f (cond b (y ∷ m) m) ≡ cond b (f y) [] ++ l
parts_step true f y m l e = ap (λ (k : List Tuple). f y ++ k) e
parts_step false f y m l e = e

parts_are : (s : Step) (ss : List Step) (x : Tuple) (rows : List Tuple) → flat_map (kept_of s ss) (filter s.on (pairs s x rows)) ≡ flat_map (part s ss x) rows
parts_are s ss x [] = refl
parts_are s ss x (r ∷ rows) = parts_step (s.on (joins s x r)) (kept_of s ss) (joins s x r) (filter s.on (pairs s x rows)) (flat_map (part s ss x) rows) (parts_are s ss x rows)

-- the row of the table is as wide as its entry says
abbrev Fits : Step → Tuple → Type 0
Fits s r = length (s.level.show r) ≡ s.level.width

-- what the checks again owe, for inner joins and for LEFT JOIN
record Facts (n : ℕ) (s : Step) : Type 0 where
  out : (ss : List Step) (x r : Tuple) → length x ≡ n → Fits s r → s.level.exact x r ≡ true → s.level.on (joins s x r) ≡ false → part s ss x r ≡ []
  in_ : (ss : List Step) (x r : Tuple) → length x ≡ n → Fits s r → s.level.exact x r ≡ true → s.level.on (joins s x r) ≡ true → part s ss x r ≡ cond (s.level.where_ (joins s x r)) (kept (entries ss) (joins s x r)) []
  gone : (ss : List Step) (x r : Tuple) → length x ≡ n → Fits s r → s.level.all x r ≡ false → part s ss x r ≡ []
  nulls : s.level.outer ≡ true → (y : Tuple) → length y ≡ n + s.level.width → s.level.where_ y ≡ s.where_ y
  left : s.level.outer ≡ true → (x r : Tuple) → length x ≡ n → Fits s r → s.level.exact x r ≡ true → s.level.on (joins s x r) ≡ s.on (joins s x r)
  left_gone : s.level.outer ≡ true → (x r : Tuple) → length x ≡ n → Fits s r → s.level.all x r ≡ false → s.on (joins s x r) ≡ false

both : {X : Type 0} (a b : Bool) (k : List X) → cond a (cond b k []) [] ≡ cond (a && b) k []
both true b k = refl
both false b k = refl

wide_join : (n : ℕ) (s : Step) (x r : Tuple) → length x ≡ n → Fits s r → length (joins s x r) ≡ n + s.level.width
wide_join n s x r a b = length-append x (s.level.show r) ∙ omega (arith, a, b)

facts : (o : Bool) (n : ℕ) (s : Step) → s.level.outer ≡ o → Decides o n s → Facts n s
facts true n s o d = record {
  out = λ ss x r lx lr e f. ap (λ b. cond b (kept_of s ss (joins s x r)) []) (sym (d.0 x r lx lr e) ∙ f);
  in_ = λ ss x r lx lr e f. ap (λ b. cond b (kept_of s ss (joins s x r)) []) (sym (d.0 x r lx lr e) ∙ f) ∙ ap (λ b. cond b (kept (entries ss) (joins s x r)) []) (sym (d.2 (joins s x r) (wide_join n s x r lx lr)));
  gone = λ ss x r lx lr e. ap (λ b. cond b (kept_of s ss (joins s x r)) []) (d.1 x r lx lr e);
  nulls = λ _ y ly. d.2 y ly;
  left = λ _ x r lx lr e. d.0 x r lx lr e;
  left_gone = λ _ x r lx lr e. d.1 x r lx lr e;
}
facts false n s o d = record {
  out = λ ss x r lx lr e f. both (s.on (joins s x r)) (s.where_ (joins s x r)) (kept (entries ss) (joins s x r))
      ∙ ap (λ b. cond b (kept (entries ss) (joins s x r)) []) (sym (d.0 x r lx lr e) ∙ ap (λ b. b && s.level.where_ (joins s x r)) f);
  in_ = λ ss x r lx lr e f. both (s.on (joins s x r)) (s.where_ (joins s x r)) (kept (entries ss) (joins s x r))
      ∙ ap (λ b. cond b (kept (entries ss) (joins s x r)) []) (sym (d.0 x r lx lr e) ∙ ap (λ b. b && s.level.where_ (joins s x r)) f);
  gone = λ ss x r lx lr e. both (s.on (joins s x r)) (s.where_ (joins s x r)) (kept (entries ss) (joins s x r)) ∙ ap (λ b. cond b (kept (entries ss) (joins s x r)) []) (d.1 x r lx lr e);
  nulls = λ p y ly. absurd (apart s.level.outer p o);
  left = λ p x r lx lr e. absurd (apart s.level.outer p o);
  left_gone = λ p x r lx lr e. absurd (apart s.level.outer p o);
}
  where
    apart : (b : Bool) → b ≡ true → b ≡ false → ⊥
    apart b p q = cc

is_facts : (n : ℕ) (s : Step) → IsSplit n s → Facts n s
is_facts n s d = facts s.level.outer n s refl d.1

none_gone : (n : ℕ) (s : Step) (ss : List Step) (f : Facts n s) (x : Tuple) (rows : List Tuple) → length x ≡ n → Each (Fits s) rows → Each (λ r. s.level.all x r ≡ false) rows → flat_map (part s ss x) rows ≡ []
none_gone n s ss f x [] lx w h = refl
none_gone n s ss f x (r ∷ rows) lx w h = ap (λ (l : List Tuple). l ++ flat_map (part s ss x) rows) (f.gone ss x r lx w.0 h.0) ∙ none_gone n s ss f x rows lx w.1 h.1

none_left : (n : ℕ) (s : Step) (f : Facts n s) → s.level.outer ≡ true → (x : Tuple) (rows : List Tuple) → length x ≡ n → Each (Fits s) rows → Each (λ r. s.level.all x r ≡ false) rows → filter s.on (pairs s x rows) ≡ []
none_left n s f o x [] lx w h = refl
none_left n s f o x (r ∷ rows) lx w h = ap (λ b. cond b (joins s x r ∷ filter s.on (pairs s x rows)) (filter s.on (pairs s x rows))) (f.left_gone o x r lx w.0 h.0) ∙ none_left n s f o x rows lx w.1 h.1

same_left : (n : ℕ) (s : Step) (f : Facts n s) → s.level.outer ≡ true → (x : Tuple) (rows : List Tuple) → length x ≡ n → Each (Fits s) rows → Each (λ r. s.level.exact x r ≡ true) rows → filter s.on (pairs s x rows) ≡ filter s.level.on (pairs s x rows)
same_left n s f o x [] lx w h = refl
same_left n s f o x (r ∷ rows) lx w h =
    ap (λ b. cond b (joins s x r ∷ filter s.on (pairs s x rows)) (filter s.on (pairs s x rows))) (sym (f.left o x r lx w.0 h.0))
    ∙ ap (λ (l : List Tuple). cond (s.level.on (joins s x r)) (joins s x r ∷ l) l) (same_left n s f o x rows lx w.1 h.1)

deep : (s : Step) (ss : List Step) (y : Tuple) → ((g : List Tuple) → Runs (levels ss) y g → IsPermutation (kept (entries ss) y) g) → (g : List Tuple) → Deeper s.level (Runs (levels ss)) y g → IsPermutation (cond (s.level.where_ y) (kept (entries ss) y) []) g
deep s ss y ih g h = split (s.level.where_ y) h
  where
    split : (b : Bool) → when b (Runs (levels ss) y g) (g ≡ []) → IsPermutation (cond b (kept (entries ss) y) []) g
    split true k = ih g k
    split false k = same [] g (sym k)

-- what a loop gives from here on
abbrev Owed : Step → List Step → Tuple → Bool → List Tuple → List Tuple
Owed s ss x found rows = flat_map (part s ss x) rows ++ flat_map (kept_of s ss) (leftover (s.level.outer && not found) s.level.width x (filter s.level.on (pairs s x rows)))

module _ (n : ℕ) (s : Step) (ss : List Step) (f : Facts n s) (x : Tuple) (lx : length x ≡ n) (ih : (y : Tuple) (g : List Tuple) → length y ≡ n + s.level.width → Runs (levels ss) y g → IsPermutation (kept (entries ss) y) g) where
  at_end : (b : Bool) → (b ≡ true → s.level.outer ≡ true) → (g : List Tuple) → when b (Deeper s.level (Runs (levels ss)) (with_nulls s.level.width x) g) (g ≡ []) → IsPermutation (flat_map (kept_of s ss) (leftover b s.level.width x [])) g
  at_end false o g h = same [] g (sym h)
  at_end true o g h =
      let y : Tuple = with_nulls s.level.width x in
      let wide : length y ≡ n + s.level.width = length-append x (replicate s.level.width NoValue) ∙ (let k = length-replicate s.level.width NoValue in omega (arith, k, lx)) in
      let e : cond (s.level.where_ y) (kept (entries ss) y) [] ≡ kept_of s ss y = ap (λ b. cond b (kept (entries ss) y) []) (f.nulls (o refl) y wide) in
      IsPermutation-trans _ (kept_of s ss y) _ (same _ _ (append-nil (kept_of s ss y))) (subst (λ (l : List Tuple). IsPermutation l g) e (deep s ss y (λ k. ih y k wide) g h))

  and_left : (a b : Bool) → (a && b) ≡ true → a ≡ true
  and_left true b e = refl
  and_left false b e = e

  turn : (found : Bool) (r : Tuple) (rows : List Tuple) (g : List Tuple) → Fits s r → s.level.exact x r ≡ true
      → ((m : Bool) (k : List Tuple) → Loop s.level (Runs (levels ss)) x m (map s.level.show rows) k → IsPermutation (Owed s ss x m rows) k)
      → (b : Bool) → s.level.on (joins s x r) ≡ b
      → when b (Then (Deeper s.level (Runs (levels ss)) (joins s x r)) (Loop s.level (Runs (levels ss)) x true (map s.level.show rows)) g) (Loop s.level (Runs (levels ss)) x found (map s.level.show rows) g)
      → IsPermutation ((part s ss x r ++ flat_map (part s ss x) rows) ++ flat_map (kept_of s ss) (leftover (s.level.outer && not found) s.level.width x (cond b (joins s x r ∷ filter s.level.on (pairs s x rows)) (filter s.level.on (pairs s x rows))))) g
  turn found r rows g w h rest false e k = rw (f.out ss x r lx w h e) (rest found g k)
  turn found r rows g w h rest true e k =
      let a : IsPermutation (part s ss x r) k.first = rw (f.in_ ss x r lx w h e) (deep s ss (joins s x r) (λ q. ih (joins s x r) q (wide_join n s x r lx w)) k.first k.one) in
      let c = rest true k.second k.two in
      let none : flat_map (kept_of s ss) (leftover (s.level.outer && false) s.level.width x (filter s.level.on (pairs s x rows))) ≡ [] = ap (λ b. flat_map (kept_of s ss) (leftover b s.level.width x (filter s.level.on (pairs s x rows)))) (and_false s.level.outer) ∙ ap (flat_map (kept_of s ss)) (leftover_none s.level.width x (filter s.level.on (pairs s x rows))) in
      let d : IsPermutation (flat_map (part s ss x) rows) k.second = IsPermutation-trans _ (Owed s ss x true rows) _ (same _ _ (sym (ap (λ (l : List Tuple). flat_map (part s ss x) rows ++ l) none ∙ append-nil (flat_map (part s ss x) rows)))) c in
      rw (k.is, append-nil (part s ss x r ++ flat_map (part s ss x) rows)) (IsPermutation-append (part s ss x r) k.first (flat_map (part s ss x) rows) k.second a d)

  loop_gives : (found : Bool) (rows : List Tuple) (g : List Tuple) → Each (Fits s) rows → Each (λ r. s.level.exact x r ≡ true) rows → Loop s.level (Runs (levels ss)) x found (map s.level.show rows) g → IsPermutation (Owed s ss x found rows) g
  loop_gives found [] g w h l = at_end (s.level.outer && not found) (and_left s.level.outer (not found)) g l
  loop_gives found (r ∷ rows) g w h l = turn found r rows g w.0 h.0 (λ m k. loop_gives m rows k w.1 h.1) (s.level.on (joins s x r)) refl l

  left_same : (o : Bool) → s.level.outer ≡ o → (given missing : List Tuple) → IsPermutation s.level.table (given ++ missing) → Each (Fits s) given → Each (Fits s) missing → Each (λ r. s.level.exact x r ≡ true) given → Each (λ r. s.level.all x r ≡ false) missing
      → leftover o s.level.width x (filter s.on (pairs s x s.level.table)) ≡ leftover o s.level.width x (filter s.level.on (pairs s x given))
  left_same false o given missing p wg wm e a = leftover_none s.level.width x (filter s.on (pairs s x s.level.table)) ∙ sym (leftover_none s.level.width x (filter s.level.on (pairs s x given)))
  left_same true o given missing p wg wm e a =
      let shown = IsPermutation-map s.level.show s.level.table (given ++ missing) p in
      let q = filter_shuffled s.on (pairs s x s.level.table) (pairs s x (given ++ missing)) (IsPermutation-map (λ r. x ++ r) (map s.level.show s.level.table) (map s.level.show (given ++ missing)) shown) in
      let is : filter s.on (pairs s x (given ++ missing)) ≡ filter s.level.on (pairs s x given) =
      ap (λ (l : List Tuple). filter s.on (beside x l)) (map-append s.level.show given missing)
      ∙ ap (filter s.on) (map-append (λ r. x ++ r) (map s.level.show given) (map s.level.show missing)) ∙ filter-append s.on (pairs s x given) (pairs s x missing)
      ∙ ap (λ (l : List Tuple). filter s.on (pairs s x given) ++ l) (none_left n s f o x missing lx wm a) ∙ append-nil (filter s.on (pairs s x given)) ∙ same_left n s f o x given lx wg e in
      leftover_shuffled true s.level.width x _ _ (subst (λ (l : List Tuple). IsPermutation (filter s.on (pairs s x s.level.table)) l) is q)

  run_gives : IsWhole s.level → Each (Fits s) s.level.table → (g : List Tuple) → Runs (levels (s ∷ ss)) x g → IsPermutation (kept (entries (s ∷ ss)) x) g
  run_gives whole_cut wide g r =
      let c = r.1 in
      let both_wide = each_parts (Fits s) c.taken c.left_out (each_shuffled (Fits s) s.level.table (c.taken ++ c.left_out) c.parts wide) in
      let given = c.taken in
      let l : Loop s.level (Runs (levels ss)) x false (map s.level.show given) g = subst (λ (rows : List Tuple). Loop s.level (Runs (levels ss)) x false rows g) (c.is ∙ ap (map s.level.show) (whole_cut c.taken)) r.2 in
      let p = flat_map_shuffled (part s ss x) s.level.table (given ++ c.left_out) c.parts in
      let body : flat_map (part s ss x) (given ++ c.left_out) ≡ flat_map (part s ss x) given =
      flat_map-append (part s ss x) given c.left_out ∙ ap (λ (l : List Tuple). flat_map (part s ss x) given ++ l) (none_gone n s ss f x c.left_out lx both_wide.1 c.failing) ∙ append-nil (flat_map (part s ss x) given) in
      let m = filter s.on (pairs s x s.level.table) in
      let n : leftover s.level.outer s.level.width x m ≡ leftover (s.level.outer && true) s.level.width x (filter s.level.on (pairs s x given)) = left_same s.level.outer refl given c.left_out c.parts both_wide.0 both_wide.1 c.passing c.failing ∙ ap (λ b. leftover b s.level.width x (filter s.level.on (pairs s x given))) (sym (and_true s.level.outer)) in
      let whole : kept (entries (s ∷ ss)) x ≡ flat_map (part s ss x) s.level.table ++ flat_map (kept_of s ss) (leftover (s.level.outer && true) s.level.width x (filter s.level.on (pairs s x given))) =
      ap (flat_map (kept_of s ss)) (or_nulls_is s.level.outer s.level.width x m) ∙ flat_map-append (kept_of s ss) m (leftover s.level.outer s.level.width x m)
      ∙ ap (λ (l : List Tuple). l ++ flat_map (kept_of s ss) (leftover s.level.outer s.level.width x m)) (parts_are s ss x s.level.table) ∙ ap (λ (l : List Tuple). flat_map (part s ss x) s.level.table ++ flat_map (kept_of s ss) l) n in
      let tail = flat_map (kept_of s ss) (leftover (s.level.outer && true) s.level.width x (filter s.level.on (pairs s x given))) in
      rw whole (IsPermutation-trans _ (Owed s ss x false given) _ (IsPermutation-append_left tail _ _ (subst (λ (l : List Tuple). IsPermutation (flat_map (part s ss x) s.level.table) l) body p)) (loop_gives false given g both_wide.0 c.passing l))

each_shown : (s : Step) (rows : List Tuple) → Each (λ r. length r ≡ s.level.width) (map s.level.show rows) → Each (Fits s) rows
each_shown s [] h = tt
each_shown s (r ∷ rows) h = (h.0, each_shown s rows h.1)

pub runs_give : (n : ℕ) (ss : List Step) → AreSplit n ss → AllWide (entries ss) → (x : Tuple) (g : List Tuple) → length x ≡ n → Runs (levels ss) x g → IsPermutation (kept (entries ss) x) g
runs_give n [] h w x g lx r = same (x ∷ []) g (sym r)
runs_give n (s ∷ ss) h w x g lx r = run_gives n s ss (is_facts n s h.0) x lx (λ y k ly. runs_give (n + s.level.width) ss h.1 w.1 y k ly) h.0.0 (each_shown s s.level.table w.0) g r
