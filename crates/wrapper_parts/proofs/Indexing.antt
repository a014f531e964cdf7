-- What adding a cell to an index and asking it do.
use Rattle.std.proofs.Common.{◌≡◌, ◌≢◌, ℕ, ◌+◌, ◌-◌, ◌<◌, Bool, true, false, if◌then◌else◌, cond, List, [], ◌∷◌, Option, Some, unwrap_or, length, drop, get_or, slice_set, zero, suc, refl, ap, sym, ◌∙◌, arith}
use Rattle.std.specs.Ordering.{is_eq}
use Rattle.std.specs.declared.cmp.Ordering.{Ordering}
use Rattle.std.specs.declared.cmp.Ordering.TheVariants.{Less, Equal, Greater}
use Rattle.std.specs.Str.{bytes_eq}
use Rattle.std.specs.HashMap as hash
use Rattle.std.proofs.lemmas.List.{length-set, get_or-set_same, get_or-set_other}
use Rattle.std.proofs.lemmas.Map.Text.{is_eq-slice_cmp}
use Rattle.med_value.specs.Prelude.{Datum, NoValue, Whole, Chars, Logic, cell, datum_cmp}
use Rattle.med_value.proofs.OrderLemmas.{datum_cmp_equal}
use Rattle.wrapper_parts.specs.declared.index.Firsts.{Firsts}
use Rattle.wrapper_parts.specs.declared.index.PlaceIndex.{PlaceIndex}
use Rattle.wrapper_parts.specs.Places.{equals, first_place, Follows}
use Rattle.wrapper_parts.specs.Indexes.{first_of, start_of, IsIndexFrom}

-- a text that is put is first at its bytes alone
pub text_put : (f g : Firsts) (t : List ℕ) (at : ℕ) → g.whole ≡ f.whole → g.falses ≡ f.falses → g.trues ≡ f.trues
    → ((cs : List ℕ) → hash.get_by_text g.texts cs ≡ cond (bytes_eq t cs) (Some at) (hash.get_by_text f.texts cs))
    → (v : Datum) → first_of g v ≡ (if equals v (Chars t) then Some at else first_of f v)
text_put f g t at ew ef et put NoValue = refl
text_put f g t at ew ef et put (Whole n) = ap (λ m. hash.get Rattle.std.specs.Ordering.int_eq m n) ew
text_put f g t at ew ef et put (Chars cs) = put cs ∙ ap (λ b. cond b (Some at) (hash.get_by_text f.texts cs)) (sym (is_eq-slice_cmp t cs))
text_put f g t at ew ef et put (Logic true) = et
text_put f g t at ew ef et put (Logic false) = ef

starts_by : (b : Bool) (o : Option ℕ) (none at rest : ℕ) → unwrap_or o none ≡ rest → unwrap_or (if b then Some at else o) none ≡ (if b then at else rest)
starts_by true o none at rest e = refl
starts_by false o none at rest e = e

-- a cell before the others
pub added : (at : ℕ) (d : Datum) (cells : List Datum) (x y : PlaceIndex) → at < length x.next.items
    → y.next.items ≡ slice_set x.next.items at (start_of x d) → ((v : Datum) → first_of y.firsts v ≡ (if equals v d then Some at else first_of x.firsts v))
    → IsIndexFrom (at + 1) cells x → IsIndexFrom at (d ∷ cells) y
added at d cells x y lt en ef h = record {
  size = let a : length y.next.items ≡ length x.next.items = long in let b = h.size in omega arith;
  firsts = λ v. ap (unwrap_or (first_of y.firsts v)) long ∙ ap (λ o. unwrap_or o (length x.next.items)) (ef v)
      ∙ starts_by (equals v d) (first_of x.firsts v) (length x.next.items) at (first_place (at + 1) v cells) (h.firsts v);
  nexts = λ k lt. ap (λ l. get_or l (at + k) 0) en ∙ next k lt;
}
  where
    long : length y.next.items ≡ length x.next.items
    long = ap length en ∙ length-set x.next.items at (start_of x d)

    next : (k : ℕ) → k < length (d ∷ cells) → get_or (slice_set x.next.items at (start_of x d)) (at + k) 0 ≡ first_place (at + k + 1) (cell (d ∷ cells) k) (drop (k + 1) (d ∷ cells))
    next zero less = ap (λ i. get_or (slice_set x.next.items at (start_of x d)) i 0) (omega arith) ∙ get_or-set_same x.next.items at (start_of x d) 0 lt ∙ h.firsts d
        ∙ ap (λ i. first_place i d cells) (omega arith)
    next (suc k) less =
        get_or-set_other x.next.items at (at + suc k) (start_of x d) 0 (λ e. absurd (omega arith))
        ∙ ap (λ i. get_or x.next.items i 0) (let e : at + suc k ≡ at + 1 + k = omega arith in e) ∙ h.nexts k (omega arith)
        ∙ ap (λ i. first_place i (cell cells k) (drop (k + 1) cells)) (let e : at + 1 + k + 1 ≡ at + suc k + 1 = omega arith in e)
        ∙ ap (λ i. first_place (at + suc k + 1) (cell cells k) (drop i (d ∷ cells))) (let e : suc (k + 1) ≡ suc k + 1 = omega arith in e)

equal_is : (o : Ordering) → is_eq o ≡ true → o ≡ Equal
equal_is Less e = absurd cc
equal_is Equal e = refl
equal_is Greater e = absurd cc

-- what is equal to a value is that value
pub same_value : (v c : Datum) → equals v c ≡ true → c ≡ v
same_value v NoValue e = absurd cc
same_value NoValue (Whole m) e = absurd cc
same_value NoValue (Chars m) e = absurd cc
same_value NoValue (Logic m) e = absurd cc
same_value (Whole n) (Whole m) e = datum_cmp_equal (Whole m) (Whole n) (equal_is (datum_cmp (Whole m) (Whole n)) e)
same_value (Chars n) (Whole m) e = absurd cc
same_value (Logic n) (Whole m) e = absurd cc
same_value (Whole n) (Chars m) e = absurd cc
same_value (Chars n) (Chars m) e = datum_cmp_equal (Chars m) (Chars n) (equal_is (datum_cmp (Chars m) (Chars n)) e)
same_value (Logic n) (Chars m) e = absurd cc
same_value (Whole n) (Logic m) e = absurd cc
same_value (Chars n) (Logic m) e = absurd cc
same_value (Logic n) (Logic m) e = datum_cmp_equal (Logic m) (Logic n) (equal_is (datum_cmp (Logic m) (Logic n)) e)

get_any : (xs : List ℕ) (i d e : ℕ) → i < length xs → get_or xs i d ≡ get_or xs i e
get_any [] i d e lt = absurd (omega arith)
get_any (x ∷ xs) zero d e lt = refl
get_any (x ∷ xs) (suc i) d e lt = get_any xs i d e (omega arith)

-- the place behind an equal cell has the next one
pub follows : (v : Datum) (cells : List Datum) (at d : ℕ) (x : PlaceIndex) → (at ≢ 0) → IsIndexFrom 0 cells x → Follows v cells at
    → get_or x.next.items (at - 1) d ≡ first_place at v (drop at cells)
follows v cells zero d x ne h f = absurd (ne refl)
follows v cells (suc k) d x ne h f =
    let w = f k (omega arith) in
    let size = h.size in
    let lt = w.0 in
    let place : suc k - 1 ≡ 0 + k = omega arith in
    let less : 0 + k < length x.next.items = omega arith in
    ap (λ i. get_or x.next.items i d) place ∙ get_any x.next.items (0 + k) d 0 less ∙ h.nexts k lt
    ∙ ap (λ i. first_place i (cell cells k) (drop (k + 1) cells)) (let s : 0 + k + 1 ≡ suc k = omega arith in s)
    ∙ ap (λ c. first_place (suc k) c (drop (k + 1) cells)) (same_value v (cell cells k) w.1)
    ∙ ap (λ i. first_place (suc k) v (drop i cells)) (let s : k + 1 ≡ suc k = omega arith in s)
