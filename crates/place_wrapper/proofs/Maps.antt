-- What a map of the program is as a finite map of what its values mean.
use Rattle.std.proofs.Common.{◌≡◌, ◌≢◌, ℕ, ◌+◌, ◌<◌, ◌⊎◌, Bool, true, false, cond, List, [], ◌∷◌, Option, Some, None, length, map, option_map, refl, ap, sym, ◌∙◌, arith, rules, eqb, inl, inr}
use Rattle.std.specs.Ordering.{nat_cmp, is_eq}
use Rattle.std.specs.Map.{lookup}
use Rattle.std.specs.BTreeMap.{is_at}
use Rattle.std.specs.FinMap as finmap
use Rattle.std.specs.FinMap.{gets, nat_cmp-IsAntisymmetric, find, get-from_entries}
use Rattle.std.specs.Cmp.{nat_cmp_total}
use Rattle.std.proofs.lemmas.Bool.Decides.{eqb_tells}
use Rattle.place_wrapper.specs.Mapped.{mapped, live_at, Updates, numbers, Rise}

branch : {X Y : Type 0} (f : X → Y) (b : Bool) (x : X) (o : Option Y) (p : Option X) → o ≡ option_map f p → cond b (Some (f x)) o ≡ option_map f (cond b (Some x) p)
branch f true x o p e = refl
branch f false x o p e = e

find_mapped : {X Y : Type 0} (f : X → Y) (q : ℕ) (es : List (ℕ × X)) → find nat_cmp q (map (λ e. (e.0, f e.1)) es) ≡ option_map f (lookup (is_at (nat_cmp q)) es)
find_mapped f q [] = refl
find_mapped f q (e ∷ es) = branch f (is_eq (nat_cmp q e.0)) e.1 _ _ (find_mapped f q es)

pub mapped_get : {X Y : Type 0} (f : X → Y) (m : List (ℕ × X)) (q : ℕ) → finmap.get (mapped f m) q ≡ option_map f (live_at m q)
mapped_get f m q = get-from_entries nat_cmp_total (map (λ e. (e.0, f e.1)) m) q ∙ find_mapped f q m

pub apart : (k q : ℕ) → q ≢ k → is_at (nat_cmp k) q ≡ false
apart k q ne = grind (gets, rules)

insert_same : {X : Type 0} (m : finmap.FinMap nat_cmp X) (k : ℕ) (v : X) → finmap.get (finmap.insert m k v) k ≡ Some v
insert_same m k v = grind (gets, rules)

insert_other : {X : Type 0} (m : finmap.FinMap nat_cmp X) (k q : ℕ) (v : X) → q ≢ k → finmap.get (finmap.insert m k v) q ≡ finmap.get m q
insert_other m k q v ne = grind (gets, rules)

remove_same : {X : Type 0} (m : finmap.FinMap nat_cmp X) (k : ℕ) → finmap.get (finmap.remove m k) k ≡ None
remove_same m k = grind (gets, rules)

remove_other : {X : Type 0} (m : finmap.FinMap nat_cmp X) (k q : ℕ) → q ≢ k → finmap.get (finmap.remove m k) q ≡ finmap.get m q
remove_other m k q ne = grind (gets, rules)

pub mapped_insert : {X Y : Type 0} (f : X → Y) (m n : List (ℕ × X)) (k : ℕ) (v : X) → Updates m n k (Some v) → mapped f n ≡ finmap.insert (mapped f m) k (f v)
mapped_insert {X} {Y} f m n k v u = finmap.same_map nat_cmp_total nat_cmp-IsAntisymmetric _ _ (λ q. split q (eqb_tells q k))
  where
    split : (q : ℕ) → ((eqb q k ≡ true) × (q ≡ k)) ⊎ ((eqb q k ≡ false) × (q ≢ k)) → finmap.get (mapped f n) q ≡ finmap.get (finmap.insert (mapped f m) k (f v)) q
    split q (inl s) = rw s.1 (mapped_get f n k ∙ ap (option_map f) u.there ∙ sym (insert_same (mapped f m) k (f v)))
    split q (inr s) = mapped_get f n q ∙ ap (option_map f) (u.others q (apart k q s.1)) ∙ sym (mapped_get f m q) ∙ sym (insert_other (mapped f m) k q (f v) s.1)

-- what is put back changes nothing
pub mapped_put_back : {X Y : Type 0} (f : X → Y) (m n : List (ℕ × X)) (k : ℕ) (v : X) → live_at m k ≡ Some v → Updates m n k (Some v) → mapped f n ≡ mapped f m
mapped_put_back {X} {Y} f m n k v is u = finmap.same_map nat_cmp_total nat_cmp-IsAntisymmetric _ _ (λ q. mapped_get f n q ∙ ap (option_map f) (split q (eqb_tells q k)) ∙ sym (mapped_get f m q))
  where
    split : (q : ℕ) → ((eqb q k ≡ true) × (q ≡ k)) ⊎ ((eqb q k ≡ false) × (q ≢ k)) → live_at n q ≡ live_at m q
    split q (inl s) = rw s.1 (u.there ∙ sym is)
    split q (inr s) = u.others q (apart k q s.1)

pub mapped_remove : {X Y : Type 0} (f : X → Y) (m n : List (ℕ × X)) (k : ℕ) → Updates m n k None → mapped f n ≡ finmap.remove (mapped f m) k
mapped_remove {X} {Y} f m n k u = finmap.same_map nat_cmp_total nat_cmp-IsAntisymmetric _ _ (λ q. split q (eqb_tells q k))
  where
    split : (q : ℕ) → ((eqb q k ≡ true) × (q ≡ k)) ⊎ ((eqb q k ≡ false) × (q ≢ k)) → finmap.get (mapped f n) q ≡ finmap.get (finmap.remove (mapped f m) k) q
    split q (inl s) = rw s.1 (mapped_get f n k ∙ ap (option_map f) u.there ∙ sym (remove_same (mapped f m) k))
    split q (inr s) = mapped_get f n q ∙ ap (option_map f) (u.others q (apart k q s.1)) ∙ sym (mapped_get f m q) ∙ sym (remove_other (mapped f m) k q s.1)

find_none : {X Y : Type 0} (f : X → Y) (q least next : ℕ) (es : List (ℕ × X)) → q < least → Rise least next (numbers es) → find nat_cmp q (map (λ e. (e.0, f e.1)) es) ≡ None
find_none f q least next [] lt h = refl
find_none f q least next (e ∷ es) lt h = let v = h.0 in rw (apart q e.0 (λ same. absurd (omega (arith, same)))) (find_none f q (e.0 + 1) next es (omega arith) h.1)

new_len : {Y : Type 0} (m : finmap.FinMap nat_cmp Y) (k : ℕ) (v : Y) → finmap.get m k ≡ None → finmap.len (finmap.insert m k v) ≡ finmap.len m + 1
new_len m k v e = grind (gets, rules)

pub mapped_len : {X Y : Type 0} (f : X → Y) (least next : ℕ) (es : List (ℕ × X)) → Rise least next (numbers es) → finmap.len (mapped f es) ≡ length es
mapped_len f least next [] h = finmap.len-empty nat_cmp _
mapped_len f least next (e ∷ es) h =
    new_len (mapped f es) e.0 (f e.1) (get-from_entries nat_cmp_total (map (λ e. (e.0, f e.1)) es) e.0 ∙ find_none f e.0 (e.0 + 1) next es (omega arith) h.1) ∙ (let r = mapped_len f (e.0 + 1) next es h.1 in omega arith)
