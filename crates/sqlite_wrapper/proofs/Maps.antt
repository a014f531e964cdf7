-- A map of the program as a finite map of what its values mean.
use Rattle.std.proofs.Common.{
  ◌≡◌,
  ◌≢◌,
  ℕ,
  ◌+◌,
  ◌⊎◌,
  Bool,
  true,
  false,
  cond,
  List,
  [],
  ◌∷◌,
  Option,
  Some,
  None,
  length,
  map,
  option_map,
  refl,
  ap,
  sym,
  ◌∙◌,
  arith,
  rules,
  eqb,
  inl,
  inr,
  Ordering,
}
use Rattle.std.specs.declared.cmp.Ordering.TheVariants.{Less}
use Rattle.std.specs.Ordering.{nat_cmp, is_eq}
use Rattle.std.specs.List.{AllByRecursion}
use Rattle.std.specs.List.Sorted.{IsStrictlySortedBy}
use Rattle.std.specs.Map.{lookup}
use Rattle.std.specs.BTreeMap as tree
use Rattle.std.specs.BTreeMap.{BTreeMap, is_at}
use Rattle.std.specs.FinMap as finmap
use Rattle.std.specs.FinMap.{gets, nat_cmp-IsAntisymmetric, find, get-from_entries}
use Rattle.std.specs.Cmp.{nat_cmp_total}
use Rattle.std.proofs.lemmas.Bool.Decides.{eqb_tells}
use Rattle.sqlite_wrapper.specs.Boxes.{Sets, mapped}

branch : {X Y : Type 0} (f : X → Y) (b : Bool) (x : X) (o : Option Y) (p : Option X) → o ≡ option_map f p
    → cond b (Some (f x)) o ≡ option_map f (cond b (Some x) p)
branch f true x o p e = refl
branch f false x o p e = e

find_mapped : {X Y : Type 0} (f : X → Y) (q : ℕ) (es : List (ℕ × X))
    → find nat_cmp q (map (λ e. (e.0, f e.1)) es) ≡ option_map f (lookup (is_at (nat_cmp q)) es)
find_mapped f q [] = refl
find_mapped f q (e ∷ es) = branch f (is_eq (nat_cmp q e.0)) e.1 _ _ (find_mapped f q es)

pub mapped_get : {X Y : Type 0} (f : X → Y) (m : BTreeMap ℕ X) (q : ℕ)
    → finmap.get (mapped f m.entries) q ≡ option_map f (tree.get nat_cmp m q)
mapped_get f m q = get-from_entries nat_cmp_total (map (λ e. (e.0, f e.1)) m.entries) q ∙ find_mapped f q m.entries

pub apart : (k q : ℕ) → q ≢ k → is_at (nat_cmp k) q ≡ false
apart k q ne = grind (gets, rules)

-- an update sets one place
pub sets : {X : Type 0} (m n : BTreeMap ℕ X) (k : ℕ) (w : Option X) → tree.UpdatesBy nat_cmp (nat_cmp k) m n w → Sets m n k w
sets m n k w u = (u.1, λ q ne. u.2 q (apart k q ne))

-- of two updates of one place the last counts
pub sets_on : {X : Type 0} (a b c : BTreeMap ℕ X) (k : ℕ) (v w : Option X) → Sets a b k v → Sets b c k w → Sets a c k w
sets_on a b c k v w s t = (t.0, λ q ne. t.1 q ne ∙ s.1 q ne)

insert_same : {X : Type 0} (m : finmap.FinMap nat_cmp X) (k : ℕ) (v : X) → finmap.get (finmap.insert m k v) k ≡ Some v
insert_same m k v = grind (gets, rules)

insert_other : {X : Type 0} (m : finmap.FinMap nat_cmp X) (k q : ℕ) (v : X) → q ≢ k → finmap.get (finmap.insert m k v) q ≡ finmap.get m q
insert_other m k q v ne = grind (gets, rules)

remove_same : {X : Type 0} (m : finmap.FinMap nat_cmp X) (k : ℕ) → finmap.get (finmap.remove m k) k ≡ None
remove_same m k = grind (gets, rules)

remove_other : {X : Type 0} (m : finmap.FinMap nat_cmp X) (k q : ℕ) → q ≢ k → finmap.get (finmap.remove m k) q ≡ finmap.get m q
remove_other m k q ne = grind (gets, rules)

pub mapped_insert : {X Y : Type 0} (f : X → Y) (m n : BTreeMap ℕ X) (k : ℕ) (v : X) → Sets m n k (Some v)
    → mapped f n.entries ≡ finmap.insert (mapped f m.entries) k (f v)
mapped_insert {X} {Y} f m n k v u = finmap.same_map nat_cmp_total nat_cmp-IsAntisymmetric _ _ (λ q. split q (eqb_tells q k))
  where
    split : (q : ℕ) → ((eqb q k ≡ true) × (q ≡ k)) ⊎ ((eqb q k ≡ false) × (q ≢ k))
        → finmap.get (mapped f n.entries) q ≡ finmap.get (finmap.insert (mapped f m.entries) k (f v)) q
    split q (inl s) = rw s.1 (mapped_get f n k ∙ ap (option_map f) u.0 ∙ sym (insert_same (mapped f m.entries) k (f v)))
    split q (inr s) = mapped_get f n q ∙ ap (option_map f) (u.1 q s.1) ∙ sym (mapped_get f m q)
        ∙ sym (insert_other (mapped f m.entries) k q (f v) s.1)

-- another value of the same meaning changes nothing
pub mapped_same : {X Y : Type 0} (f : X → Y) (m n : BTreeMap ℕ X) (k : ℕ) (v w : X) → Sets m n k (Some w) → tree.get nat_cmp m k ≡ Some v
    → f w ≡ f v → mapped f n.entries ≡ mapped f m.entries
mapped_same {X} {Y} f m n k v w u is e = finmap.same_map nat_cmp_total nat_cmp-IsAntisymmetric _ _ (λ q. split q (eqb_tells q k))
  where
    split : (q : ℕ) → ((eqb q k ≡ true) × (q ≡ k)) ⊎ ((eqb q k ≡ false) × (q ≢ k))
        → finmap.get (mapped f n.entries) q ≡ finmap.get (mapped f m.entries) q
    split q (inl s) = rw s.1 (mapped_get f n k ∙ ap (option_map f) u.0 ∙ ap Some e ∙ sym (ap (option_map f) is) ∙ sym (mapped_get f m k))
    split q (inr s) = mapped_get f n q ∙ ap (option_map f) (u.1 q s.1) ∙ sym (mapped_get f m q)

pub mapped_remove : {X Y : Type 0} (f : X → Y) (m n : BTreeMap ℕ X) (k : ℕ) → Sets m n k None
    → mapped f n.entries ≡ finmap.remove (mapped f m.entries) k
mapped_remove {X} {Y} f m n k u = finmap.same_map nat_cmp_total nat_cmp-IsAntisymmetric _ _ (λ q. split q (eqb_tells q k))
  where
    split : (q : ℕ) → ((eqb q k ≡ true) × (q ≡ k)) ⊎ ((eqb q k ≡ false) × (q ≢ k))
        → finmap.get (mapped f n.entries) q ≡ finmap.get (finmap.remove (mapped f m.entries) k) q
    split q (inl s) = rw s.1 (mapped_get f n k ∙ ap (option_map f) u.0 ∙ sym (remove_same (mapped f m.entries) k))
    split q (inr s) = mapped_get f n q ∙ ap (option_map f) (u.1 q s.1) ∙ sym (mapped_get f m q)
        ∙ sym (remove_other (mapped f m.entries) k q s.1)

less_not_equal : (o : Ordering) → o ≡ Less → is_eq o ≡ false
less_not_equal o e = rw e refl

find_none : {X Y : Type 0} (f : X → Y) (q : ℕ) (es : List (ℕ × X)) → AllByRecursion (λ y. nat_cmp q y ≡ Less) (map (λ e. e.0) es)
    → find nat_cmp q (map (λ e. (e.0, f e.1)) es) ≡ None
find_none f q [] h = refl
find_none f q (e ∷ es) h = rw (less_not_equal (nat_cmp q e.0) h.0) (find_none f q es h.1)

new_len : {Y : Type 0} (m : finmap.FinMap nat_cmp Y) (k : ℕ) (v : Y) → finmap.get m k ≡ None
    → finmap.len (finmap.insert m k v) ≡ finmap.len m + 1
new_len m k v e = grind (gets, rules)

pub mapped_len : {X Y : Type 0} (f : X → Y) (es : List (ℕ × X)) → IsStrictlySortedBy nat_cmp (map (λ e. e.0) es)
    → finmap.len (mapped f es) ≡ length es
unfolding IsStrictlySortedBy
mapped_len f [] h = finmap.len-empty nat_cmp _
mapped_len f (e ∷ es) h =
    new_len (mapped f es) e.0 (f e.1) (get-from_entries nat_cmp_total (map (λ e. (e.0, f e.1)) es) e.0 ∙ find_none f e.0 es h.0)
    ∙ (let r = mapped_len f es h.1 in omega arith)
