-- Keys beside the ends of a range, and restrictions one by one.
use Rattle.std.proofs.Common.{◌<◌, ◌≤◌, ◌+◌, take, get_or, sym, length-take, ◌≡◌, ℕ, ℤ, pos, ◌+ℤ◌, ◌-ℤ◌, ◌≤ℤ◌, ◌-◌, ◌^◌, Bool, true, false, ◌&&◌, List, [], ◌∷◌, ◌++◌, length, map, nat_eq, FitsSigned, w64, refl, ap, ◌∙◌, arith, suc, zero}
use Rattle.std.proofs.lemmas.Int.{ints}
use Rattle.std.proofs.lemmas.List.{length-map, map-append, take_more}
use Rattle.std.specs.declared.cmp.Ordering.{Ordering}
use Rattle.std.specs.declared.cmp.Ordering.TheVariants.{Less, Equal, Greater}
use Rattle.std.specs.Ordering.{is_ge, is_le, is_lt, is_gt, is_eq, int_cmp}
use Rattle.std.proofs.lemmas.Bool.{and_parts}
use Rattle.med_value.specs.Datum.{Datum, Whole, Tuple, cell}
use Rattle.fdw_api.specs.Scan.{RestrictionForm, restriction_form, checks, meets, meets_exact}
use Rattle.fdw_api.specs.declared.scan.Restriction.{Restriction}
use Rattle.fdw_api.specs.declared.scan.Agree.{Agree}
use Rattle.fdw_api.specs.declared.scan.Agree.TheVariants.{Ignored, Hint, Exact}
use Rattle.wrapper_parts.specs.Ranges.{is_typed_check, asks_key, only_keys, only_key_tests, is_key_test}

pub and_false : (a b : Bool) → b ≡ false → false ≡ (a && b)
and_false true b e = grind arith
and_false false b e = refl

pub none_above : (k key : ℤ) → FitsSigned w64 k → key ≡ pos (2 ^ 63 - 1) → is_gt (int_cmp k key) ≡ false
none_above k key fits e = let below : k ≤ℤ key = omega (arith, ints) in grind (arith, ints)

pub none_below : (k key : ℤ) → FitsSigned w64 k → key ≡ pos 0 -ℤ pos (2 ^ 63) → is_lt (int_cmp k key) ≡ false
none_below k key fits e = let above : key ≤ℤ k = omega (arith, ints) in grind (arith, ints)

pub next_above : (k key next : ℤ) → next ≡ key +ℤ pos 1 → is_ge (int_cmp k next) ≡ is_gt (int_cmp k key)
next_above k key next e = grind (arith, ints)

pub next_below : (k key next : ℤ) → key ≡ next +ℤ pos 1 → is_le (int_cmp k next) ≡ is_lt (int_cmp k key)
next_below k key next e = grind (arith, ints)

both_ways : (o : Ordering) → (is_ge o && is_le o) ≡ is_eq o
both_ways Less = refl
both_ways Equal = refl
both_ways Greater = refl

pub one_key : (a : Bool) (o : Ordering) → ((a && is_ge o) && is_le o) ≡ (a && is_eq o)
one_key true o = both_ways o
one_key false o = refl

both : (a b : Bool) → (a && b) ≡ true → a ≡ true
both true b e = refl
both false b e = absurd cc

first_cell : (column : ℕ) (v : Datum) (rest : Tuple) → nat_eq column 0 ≡ true → cell (v ∷ rest) column ≡ v
first_cell zero v rest e = refl
first_cell (suc n) v rest e = absurd (grind arith)

-- a restriction of the key reads the key
pub reads_key : (params : Tuple) (f : RestrictionForm) (k : ℤ) (rest : Tuple) → asks_key params f ≡ true → meets params (Whole k ∷ rest) f ≡ checks params f.test (Whole k)
reads_key params f k rest e = ap (checks params f.test) (first_cell f.column (Whole k) rest (both (nat_eq f.column 0) (is_typed_check params f.test) e))

-- one answer more
pub one_more : (fs : List RestrictionForm) (gs : List Agree) (f : RestrictionForm) (a : Agree) → length fs ≡ length gs → only_key_tests fs gs ≡ true → only_key_tests (f ∷ []) (a ∷ []) ≡ true → only_key_tests (fs ++ f ∷ []) (gs ++ a ∷ []) ≡ true
one_more [] [] f a len all one = one
one_more [] (b ∷ gs) f a len all one = absurd (omega arith)
one_more (g ∷ fs) [] f a len all one = absurd (omega arith)
one_more (g ∷ fs) (Ignored ∷ gs) f a len all one = one_more fs gs f a (omega arith) all one
one_more (g ∷ fs) (Hint ∷ gs) f a len all one = one_more fs gs f a (omega arith) all one
one_more (g ∷ fs) (Exact ∷ gs) f a len all one = exact (is_key_test g) all (λ e. one_more fs gs f a (omega arith) e one)
  where
    exact : (b : Bool) → (b && only_key_tests fs gs) ≡ true → (only_key_tests fs gs ≡ true → only_key_tests (fs ++ f ∷ []) (gs ++ a ∷ []) ≡ true)
        → (b && only_key_tests (fs ++ f ∷ []) (gs ++ a ∷ [])) ≡ true
    exact true e more = more e
    exact false e more = e

and_true : (b : Bool) → b ≡ true → (b && true) ≡ true
and_true b e = rw e refl

-- the first restriction, and the others
pub keys_split : (params : Tuple) (f : RestrictionForm) (fs : List RestrictionForm) (g : Agree) (gs : List Agree) → only_keys params (f ∷ fs) (g ∷ gs) ≡ true
    → (only_keys params (f ∷ []) (g ∷ []) ≡ true) × (only_keys params fs gs ≡ true)
keys_split params f fs Exact gs e = let w = and_parts (asks_key params f) (only_keys params fs gs) e in (and_true (asks_key params f) w.0, w.1)
keys_split params f fs Ignored gs e = (refl, e)
keys_split params f fs Hint gs e = (refl, e)

regroup : (a b c : Bool) → ((a && (b && true)) && c) ≡ (a && (b && c))
regroup true true c = refl
regroup true false c = refl
regroup false b c = refl

plain_regroup : (a c : Bool) → ((a && true) && c) ≡ (a && c)
plain_regroup true c = refl
plain_regroup false c = refl

pub meets_split : (params cells : Tuple) (f : RestrictionForm) (fs : List RestrictionForm) (g : Agree) (gs : List Agree) (b : Bool)
    → ((b && meets_exact (f ∷ []) (g ∷ []) params cells) && meets_exact fs gs params cells) ≡ (b && meets_exact (f ∷ fs) (g ∷ gs) params cells)
meets_split params cells f fs Exact gs b = regroup b (meets params cells f) (meets_exact fs gs params cells)
meets_split params cells f fs Ignored gs b = plain_regroup b (meets_exact fs gs params cells)
meets_split params cells f fs Hint gs b = plain_regroup b (meets_exact fs gs params cells)

pub taken_more : (xs : List Restriction) (i : ℕ) (x : Restriction) → i < length xs → x ≡ get_or xs i x → map restriction_form (take (i + 1) xs) ≡ map restriction_form (take i xs) ++ restriction_form x ∷ []
taken_more xs i x lt e = ap (map restriction_form) (take_more xs i x lt ∙ ap (λ (y : Restriction). take i xs ++ y ∷ []) (sym e)) ∙ map-append restriction_form (take i xs) (x ∷ [])

pub as_many : (xs : List Restriction) (i : ℕ) → i ≤ length xs → length (map restriction_form (take i xs)) ≡ i
as_many xs i le = length-map (take i xs) restriction_form ∙ (let n = length-take i xs in omega arith)

pub alone : (b : Bool) → b ≡ (b && true)
alone true = refl
alone false = refl

pub both_true : (a b : Bool) → a ≡ true → (b && true) ≡ true → (a && b) ≡ true
both_true true b ea eb = alone b ∙ eb
both_true false b ea eb = absurd cc

-- where all Exact restrictions are true, the first is, if it is one, and so are the others
pub exact_split : (params cells : Tuple) (f : RestrictionForm) (fs : List RestrictionForm) (g : Agree) (gs : List Agree)
    → meets_exact (f ∷ fs) (g ∷ gs) params cells ≡ true
    → (meets_exact (f ∷ []) (g ∷ []) params cells ≡ true) × (meets_exact fs gs params cells ≡ true)
exact_split params cells f fs Exact gs e =
    let w = and_parts (meets params cells f) (meets_exact fs gs params cells) e in (and_true (meets params cells f) w.0, w.1)
exact_split params cells f fs Ignored gs e = (refl, e)
exact_split params cells f fs Hint gs e = (refl, e)
