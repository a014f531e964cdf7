-- What is kept of groups while their rows come.
use Rattle.std.proofs.Common.{◌≡◌, ◌<◌, ◌≤◌, ◌+◌, ◌^◌, ◌==◌, nat_lt, Some, None, ℕ, zero, suc, Bool, true, false, if◌then◌else◌, List, [], ◌∷◌, ◌++◌, All, length, set, get_or, refl, sym, ap, ◌∙◌, subst, arith}
use Rattle.std.proofs.Math.Bridge.{le_prop}
use Rattle.std.proofs.Math.Logic.{∥∥₁_elim, ∥∥₁_map}
use Rattle.std.proofs.Math.Nat.{ℕ_set}
use Rattle.std.specs.Coded.{Unit-prop}
use Rattle.std.specs.List.{list_any, position, position_or_len}
use borrow.Author.Tests.{ltb-true}
use Rattle.std.proofs.lemmas.List.{length-append}
use Rattle.std.proofs.lemmas.List.Sums.{length-filter, count_by-le-length}
use Rattle.indexmap.specs.IndexSet.{insert_key}
use Rattle.med_value.specs.Prelude.{Tuple, group_limit}
use Rattle.tri_expr.specs.Prelude.{is_present, OnClass, argument, meaning}
use Rattle.tri_expr.specs.declared.expr.Expr.{Expr}
use Rattle.tri_expr.specs.declared.expr.SetFunction.{SetFunction}
use Rattle.tri_expr.specs.declared.expr.SetFunction.TheVariants.{Sum}
use Rattle.med_query.specs.Prelude.{tuple_eq, key_of}
use Rattle.query_answer.specs.declared.leaves.Leaf.{Leaf}
use Rattle.query_answer.specs.declared.leaves.Leaf.TheVariants.{Column, Rows, Aggregate, Total}
use Rattle.query_answer.specs.declared.running.Tally.{Tally}
use Rattle.query_answer.specs.declared.running.Running.{Running}
use Rattle.query_answer.specs.declared.running.Running.TheVariants.{Shared, Counted, Tallied}
use Rattle.query_answer.specs.Classes.{classes_so_far, keys_so_far, AreReady, KeepsFew, KeepsGroups, KeepsSome}
use Rattle.query_answer.specs.Keys.{number_in, put_at}
use Rattle.query_answer.specs.Leaves.{argument_values}
use Rattle.query_answer.specs.Running.{AllRun, ClassesRun, HasRoom, IsSmall, Runs, TalliesSoFar, counted}
use Rattle.query_answer.proofs.Groups.{put_end}
use Rattle.query_answer.proofs.Folded.{AllShort, classes_short, classes_long, class_alone, classes_more, keys_once_more, number_gone}

-- how much is counted of a leaf: at most one for each row
argument_long : (f : OnClass) (c : List Tuple) → length (argument f c) ≡ length c
argument_long f [] = refl
argument_long f (r ∷ rs) = ap suc (argument_long f rs)

tally_short : (function : SetFunction) (a : Expr) (c : List Tuple) (t : Tally) → TalliesSoFar function (argument_values a c) t → (t.count ≤ length c) × IsSmall (Tallied t)
tally_short function a c t h =
    let vs = argument_values a c in
    let n = length-filter is_present vs in
    let le = count_by-le-length is_present vs in
    let l : length vs ≡ length c = argument_long (meaning [] a) c in
    let e = h.count in
    (omega arith, h.small)

short_in : (l : Leaf) (c : List Tuple) (r : Running) → Runs l c r → (counted r ≤ length c) × IsSmall r
short_in (Column at) c (Shared first same) h = (omega arith, tt)
short_in (Column at) c (Counted n) h = absurd h
short_in (Column at) c (Tallied t) h = absurd h
short_in Rows c (Shared first same) h = absurd h
short_in Rows c (Counted n) h = (omega (arith, h), tt)
short_in Rows c (Tallied t) h = absurd h
short_in (Aggregate function a) c (Shared first same) h = absurd h
short_in (Aggregate function a) c (Counted n) h = absurd h
short_in (Aggregate function a) c (Tallied t) h = tally_short function a c t h
short_in (Total a) c (Shared first same) h = absurd h
short_in (Total a) c (Counted n) h = absurd h
short_in (Total a) c (Tallied t) h = tally_short Sum a c t h

pub all_long : (ls : List Leaf) (c : List Tuple) (rs : List Running) → AllRun ls c rs → length ls ≡ length rs
all_long [] c [] h = refl
all_long [] c (r ∷ rs) h = absurd h
all_long (l ∷ ls) c [] h = absurd h
all_long (l ∷ ls) c (r ∷ rs) h = ap suc (all_long ls c rs h.1)

pub all_short : (ls : List Leaf) (c : List Tuple) (rs : List Running) → AllRun ls c rs → (k : ℕ) (d : Running) → k < length rs → (counted (get_or rs k d) ≤ length c) × IsSmall (get_or rs k d)
all_short [] c [] h k d lt = absurd (omega arith)
all_short [] c (r ∷ rs) h k d lt = absurd h
all_short (l ∷ ls) c [] h k d lt = absurd h
all_short (l ∷ ls) c (r ∷ rs) h zero d lt = short_in l c r h.0
all_short (l ∷ ls) c (r ∷ rs) h (suc k) d lt = all_short ls c rs h.1 k d (omega arith)

-- what is kept of one group among all
record IsOfClass (ls : List Leaf) (n : ℕ) (g : List Running) : Type 0 where
  class : List Tuple
  short : length class ≤ n
  runs : AllRun ls class g

class_at : (ls : List Leaf) (n : ℕ) (cs : List (List Tuple)) (gs : List (List Running)) → ClassesRun ls cs gs → AllShort n cs → (k : ℕ) (d : List Running) → k < length gs → IsOfClass ls n (get_or gs k d)
class_at ls n [] [] h s k d lt = absurd (omega arith)
class_at ls n [] (g ∷ gs) h s k d lt = absurd h
class_at ls n (c ∷ cs) [] h s k d lt = absurd h
class_at ls n (c ∷ cs) (g ∷ gs) h s zero d lt = record { class = c; short = s.0; runs = h.0 }
class_at ls n (c ∷ cs) (g ∷ gs) h s (suc k) d lt = class_at ls n cs gs h.1 s.1 k d (omega arith)

pub runs_long : (ls : List Leaf) (cs : List (List Tuple)) (gs : List (List Running)) → ClassesRun ls cs gs → length cs ≡ length gs
runs_long ls [] [] h = refl
runs_long ls [] (g ∷ gs) h = absurd h
runs_long ls (c ∷ cs) [] h = absurd h
runs_long ls (c ∷ cs) (g ∷ gs) h = ap suc (runs_long ls cs gs h.1)

-- one more row of a group, and the first row of a new one
pub runs_put : (ls : List Leaf) (cs : List (List Tuple)) (gs : List (List Running)) (k : ℕ) (d : List Running) (r : Tuple) (new : List Running) → k < length gs → ((c : List Tuple) → AllRun ls c (get_or gs k d) → AllRun ls (c ++ r ∷ []) new) → ClassesRun ls cs gs → ClassesRun ls (put_at cs k r) (set gs k new)
runs_put ls [] [] k d r new lt f h = absurd (omega arith)
runs_put ls [] (g ∷ gs) k d r new lt f h = absurd h
runs_put ls (c ∷ cs) [] k d r new lt f h = absurd h
runs_put ls (c ∷ cs) (g ∷ gs) zero d r new lt f h = (f c h.0, h.1)
runs_put ls (c ∷ cs) (g ∷ gs) (suc k) d r new lt f h = (h.0, runs_put ls cs gs k d r new (omega arith) f h.1)

pub runs_end : (ls : List Leaf) (cs : List (List Tuple)) (gs : List (List Running)) (r : Tuple) (new : List Running) → AllRun ls (r ∷ []) new → ClassesRun ls cs gs → ClassesRun ls (cs ++ (r ∷ []) ∷ []) (gs ++ new ∷ [])
runs_end ls [] [] r new f h = (f, tt)
runs_end ls [] (g ∷ gs) r new f h = absurd h
runs_end ls (c ∷ cs) [] r new f h = absurd h
runs_end ls (c ∷ cs) (g ∷ gs) r new f h = (h.0, runs_end ls cs gs r new f h.1)

-- there is room for one more row
small_prop : (r : Running) → IsProp (IsSmall r)
small_prop (Shared first same) = Unit-prop
small_prop (Counted n) = Unit-prop
small_prop (Tallied t) = le_prop

module _ (columns : List ℕ) (ls : List Leaf) (keys : List Tuple) (gs : List (List Running)) where
  each_of : (rows : List Tuple) → KeepsGroups columns ls keys gs rows → (k : ℕ) (d : List Running) → k < length gs → IsOfClass ls (length rows) (get_or gs k d)
  each_of rows h k d lt = class_at ls (length rows) (classes_so_far columns rows) gs h.runs (classes_short columns rows) k d lt

  abbrev FewRows : Type 0
  FewRows = (rows : List Tuple) × (length rows < group_limit) × KeepsGroups columns ls keys gs rows

  many_in : (k : ℕ) (d : List Running) → k < length gs → FewRows → length ls ≡ length (get_or gs k d)
  many_in k d lt w = let g = each_of w.0 w.2 k d lt in all_long ls g.class (get_or gs k d) g.runs

  room_in : (k : ℕ) (d : List Running) → k < length gs → (i : ℕ) (e : Running) → i < length (get_or gs k d) → FewRows → HasRoom (get_or (get_or gs k d) i e)
  room_in k d lt i e at w =
      let g = each_of w.0 w.2 k d lt in
      let s = g.short in
      let few = w.1 in
      let t = (all_short ls g.class (get_or gs k d) g.runs i e at).0 in
      omega arith

  small_in : (k : ℕ) (d : List Running) → k < length gs → (i : ℕ) (e : Running) → i < length (get_or gs k d) → FewRows → IsSmall (get_or (get_or gs k d) i e)
  small_in k d lt i e at w = let g = each_of w.0 w.2 k d lt in (all_short ls g.class (get_or gs k d) g.runs i e at).1

  pub are_ready : KeepsFew columns ls keys gs → AreReady ls gs
  are_ready t = λ k d lt. (∥∥₁_elim t (ℕ_set _ _) (many_in k d lt), λ i e at. ∥∥₁_elim t le_prop (room_in k d lt i e at), λ i e at. ∥∥₁_elim t (small_prop (get_or (get_or gs k d) i e)) (small_in k d lt i e at))

  pub one_there : length columns ≡ 0 → KeepsFew columns ls keys gs → 0 < length gs
  one_there z t = ∥∥₁_elim t le_prop by_rows where
    by_rows : FewRows → 0 < length gs
    by_rows w =
        let l = runs_long ls (classes_so_far columns w.0) gs w.2.runs in
        let e = ap length (class_alone columns w.0 z) in
        omega (arith, l, e)

  pub key_there : (number : ℕ) → 0 < length columns → number < length keys → KeepsFew columns ls keys gs → number < length gs
  key_there number z lt t = ∥∥₁_elim t le_prop by_rows where
    by_rows : FewRows → number < length gs
    by_rows w =
        let l = runs_long ls (classes_so_far columns w.0) gs w.2.runs in
        let e = classes_long columns w.0 z in
        let s = ap length (w.2.seen z) in
        omega (arith, l, e, s)

  -- one more row
  pub kept_alone : (rows : List Tuple) (row : Tuple) (seen : List Tuple) (new : List (List Running)) → length columns ≡ 0
      → ((cs : List (List Tuple)) → ClassesRun ls cs gs → ClassesRun ls (put_at cs 0 row) new) → KeepsGroups columns ls keys gs rows → KeepsGroups columns ls seen new (rows ++ row ∷ [])
  kept_alone rows row seen new z f h = record {
    seen = λ lt. absurd (omega arith);
    runs = subst (λ cs. ClassesRun ls cs new) (ap (λ cs. put_at cs 0 row) (class_alone columns rows z) ∙ sym (class_alone columns (rows ++ row ∷ []) z)) (f (classes_so_far columns rows) h.runs);
  }

  known_key : (k : Tuple) → list_any (tuple_eq k) keys ≡ true → keys ≡ insert_key tuple_eq keys k
  known_key k e = rw e refl

  pub kept_found : (rows : List Tuple) (row : Tuple) (number : ℕ) (new : List (List Running)) → 0 < length columns → number ≡ number_in tuple_eq keys (key_of columns row) → list_any (tuple_eq (key_of columns row)) keys ≡ true
      → ((cs : List (List Tuple)) → ClassesRun ls cs gs → ClassesRun ls (put_at cs number row) new) → KeepsGroups columns ls keys gs rows → KeepsGroups columns ls keys new (rows ++ row ∷ [])
  kept_found rows row number new z n e f h =
      let s = h.seen z in
      let k = key_of columns row in
      let at : number ≡ number_in tuple_eq (keys_so_far columns rows) k = n ∙ ap (λ ks. number_in tuple_eq ks k) s in
      record {
        seen = λ lt. known_key k e ∙ ap (λ ks. insert_key tuple_eq ks k) s ∙ sym (keys_once_more columns rows row);
        runs = subst (λ cs. ClassesRun ls cs new) (ap (λ i. put_at (classes_so_far columns rows) i row) at ∙ classes_more columns rows row z) (f (classes_so_far columns rows) h.runs);
      }

  pub kept_new : (rows : List Tuple) (row : Tuple) (seen : List Tuple) (new : List (List Running)) → 0 < length columns → list_any (tuple_eq (key_of columns row)) keys ≡ false → seen ≡ insert_key tuple_eq keys (key_of columns row)
      → ((cs : List (List Tuple)) → ClassesRun ls cs gs → ClassesRun ls (cs ++ (row ∷ []) ∷ []) new) → KeepsGroups columns ls keys gs rows → KeepsGroups columns ls seen new (rows ++ row ∷ [])
  kept_new rows row seen new z e n f h =
      let s = h.seen z in
      let k = key_of columns row in
      let cs = classes_so_far columns rows in
      let gone : number_in tuple_eq (keys_so_far columns rows) k ≡ length (keys_so_far columns rows) = number_gone tuple_eq (keys_so_far columns rows) k (ap (list_any (tuple_eq k)) (sym s) ∙ e) in
      let long : length cs ≡ length (keys_so_far columns rows) = classes_long columns rows z in
      record {
        seen = λ lt. n ∙ ap (λ ks. insert_key tuple_eq ks k) s ∙ sym (keys_once_more columns rows row);
        runs = subst (λ cs. ClassesRun ls cs new) (sym (put_end cs (number_in tuple_eq (keys_so_far columns rows) k) row (omega arith)) ∙ classes_more columns rows row z) (f cs h.runs);
      }

  -- of some rows, to which one more may come
  pub few_kept : (count : ℕ) → count < group_limit → KeepsSome columns ls count keys gs → KeepsFew columns ls keys gs
  few_kept count lt t = ∥∥₁_map t (λ w. (w.0, (let e = w.1 in omega arith), w.3))

  pub some_more : (count : ℕ) (row : Tuple) (seen : List Tuple) (new : List (List Running)) → count < group_limit → ((rows : List Tuple) → KeepsGroups columns ls keys gs rows → KeepsGroups columns ls seen new (rows ++ row ∷ [])) → KeepsSome columns ls count keys gs → KeepsSome columns ls (count + 1) seen new
  some_more count row seen new lt f t = ∥∥₁_map t (λ w. (w.0 ++ row ∷ [], (let e = w.1 in let n = length-append w.0 (row ∷ []) in omega arith), omega arith, f w.0 w.3))

  abbrev SomeRows : ℕ → Type 0
  SomeRows count = (rows : List Tuple) × (count ≡ length rows) × (count ≤ group_limit) × KeepsGroups columns ls keys gs rows

  pub long_in : (count k : ℕ) (d : List Running) → k < length gs → KeepsSome columns ls count keys gs → length ls ≡ length (get_or gs k d)
  long_in count k d lt t = ∥∥₁_elim t (ℕ_set _ _) by_rows where
    by_rows : SomeRows count → length ls ≡ length (get_or gs k d)
    by_rows w = let g = each_of w.0 w.3 k d lt in all_long ls g.class (get_or gs k d) g.runs

  pub few_in : (count k : ℕ) (d : List Running) → k < length gs → KeepsSome columns ls count keys gs → All (λ r. counted r ≤ 2 ^ 62) (get_or gs k d)
  few_in count k d lt t = λ i e at. ∥∥₁_elim t le_prop (by_rows i e at) where
    by_rows : (i : ℕ) (e : Running) → i < length (get_or gs k d) → SomeRows count → counted (get_or (get_or gs k d) i e) ≤ 2 ^ 62
    by_rows i e at w =
        let g = each_of w.0 w.3 k d lt in
        let s = g.short in
        let n = w.1 in
        let few = w.2 in
        let t = (all_short ls g.class (get_or gs k d) g.runs i e at).0 in
        omega arith

-- there is a column
pub some_column : (n : ℕ) → false ≡ (n == 0) → 0 < n
some_column zero e = absurd cc
some_column (suc n) e = omega arith

-- where a key is found among those that are known
pub position_known : {X : Type 0} (p : X → Bool) (xs : List X) (i : ℕ) → Some i ≡ position p xs → (i ≡ position_or_len p xs) × (i < length xs)
position_known p xs i e = by_test (nat_lt (position_or_len p xs) (length xs)) refl e where
  by_test : (b : Bool) → nat_lt (position_or_len p xs) (length xs) ≡ b → Some i ≡ (if b then Some (position_or_len p xs) else None) → (i ≡ position_or_len p xs) × (i < length xs)
  by_test true t h = (cc, let same : i ≡ position_or_len p xs = cc in let below = ltb-true (position_or_len p xs) (length xs) t in omega arith)
  by_test false t h = absurd cc
