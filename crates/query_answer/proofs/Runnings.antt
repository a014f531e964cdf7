-- What is kept of leaves, with one more row.
use Rattle.std.proofs.Common.{◌≡◌, ℕ, zero, suc, ◌+◌, ◌*◌, ◌^◌, ◌<◌, ◌≤◌, ℤ, pos, negsuc, ◌+ℤ◌, true, false, cond, List, [], ◌∷◌, ◌++◌, All, length, take, drop, get_or, set, refl, sym, ap, ◌∙◌, arith, subst}
use Rattle.std.proofs.Math.IntN.{+ℤ_comm, +ℤ_idr}
use Rattle.std.proofs.lemmas.List.{take_more, take_more_set, get_or-drop, drop-set-lt, drop_more}
use Rattle.std.proofs.lemmas.List.Elements.{All-get_or}
use Rattle.std.proofs.lemmas.Int.{ints}
use Rattle.med_value.specs.Prelude.{Datum, NoValue, Whole, Chars, Logic, Tuple, datum, is_missing}
use Rattle.tri_expr.specs.declared.expr.Expr.{Expr}
use Rattle.tri_expr.specs.declared.expr.SetFunction.{SetFunction}
use Rattle.tri_expr.specs.declared.expr.SetFunction.TheVariants.{Count, Sum, Min, Max}
use Rattle.tri_expr.specs.Prelude.{is_present, whole_of, total, lesser, greater, argument, meaning, OnClass, value_of, better_of, magnitude}
use Rattle.tri_expr.proofs.Shuffled.{same, filtered, as_long}
use Rattle.tri_expr.proofs.Tallies.{total_shuffled, to_front, best_more, count_one}
use Rattle.query_answer.specs.Leaves.{argument_values, leaf_beyond, leaf_value, leaf_values}
use Rattle.query_answer.specs.Running.{AllRun, Runs, TalliesIn, TalliesSoFar}
use Rattle.query_answer.specs.declared.leaves.Leaf.{Leaf}
use Rattle.query_answer.specs.declared.leaves.Leaf.TheVariants.{Aggregate, Total}
use Rattle.query_answer.specs.declared.running.Tally.{Tally}
use Rattle.query_answer.specs.declared.running.Running.{Running}
use Rattle.query_answer.specs.declared.running.Running.TheVariants.{Shared, Counted, Tallied}

lesser_none : (v : Datum) → lesser v NoValue ≡ v
lesser_none NoValue = refl
lesser_none (Whole n) = refl
lesser_none (Chars t) = refl
lesser_none (Logic b) = refl

greater_none : (v : Datum) → greater v NoValue ≡ v
greater_none NoValue = refl
greater_none (Whole n) = refl
greater_none (Chars t) = refl
greater_none (Logic b) = refl

best_without : (k : SetFunction) (best : Datum) → better_of k best NoValue ≡ best
best_without Count best = refl
best_without Sum best = refl
best_without Min best = lesser_none best
best_without Max best = greater_none best

added : (k : SetFunction) (vs : List Datum) (v : Datum) (old new : Tally) → new.count ≡ old.count + cond (is_missing v) 0 1 → new.total ≡ old.total +ℤ whole_of v → datum new.best ≡ better_of k (datum old.best) v → magnitude new.total ≤ new.count * 2 ^ 63
    → TalliesSoFar k vs old → TalliesSoFar k (vs ++ v ∷ []) new
added k vs v old new more sum better low t = record {
  count = more ∙ count_one v old.count vs t.count ∙ sym (as_long (filtered is_present (to_front vs v)));
  total = sum ∙ ap (λ z. z +ℤ whole_of v) t.total ∙ +ℤ_comm (total vs) (whole_of v) ∙ sym (total_shuffled (to_front vs v));
  best = better ∙ ap (λ b. better_of k b v) t.best ∙ best_more k vs v;
  small = low;
}

pub with_missing : (k : SetFunction) (vs : List Datum) (v : Datum) (t : Tally) → is_missing v ≡ true → TalliesSoFar k vs t → TalliesSoFar k (vs ++ v ∷ []) t
with_missing k vs NoValue t e h = added k vs NoValue t t (omega arith) (sym (+ℤ_idr t.total)) (sym (best_without k (datum t.best))) h.small h
with_missing k vs (Whole n) t e h = absurd cc
with_missing k vs (Chars s) t e h = absurd cc
with_missing k vs (Logic b) t e h = absurd cc

sum_small : (a b : ℤ) (n : ℕ) → magnitude a ≤ n * 2 ^ 63 → magnitude b ≤ 2 ^ 63 → magnitude (a +ℤ b) ≤ (n + 1) * 2 ^ 63
sum_small (pos a) (pos b) n p q = grind (arith, ints)
sum_small (pos a) (negsuc b) n p q = grind (arith, ints)
sum_small (negsuc a) (pos b) n p q = grind (arith, ints)
sum_small (negsuc a) (negsuc b) n p q = grind (arith, ints)

pub with_value : (k : SetFunction) (vs : List Datum) (v : Datum) (old new : Tally) → is_missing v ≡ false → new.count ≡ old.count + 1 → new.total ≡ old.total +ℤ whole_of v → datum new.best ≡ better_of k (datum old.best) v → magnitude (whole_of v) ≤ 2 ^ 63
    → TalliesSoFar k vs old → TalliesSoFar k (vs ++ v ∷ []) new
with_value k vs v old new e more sum better low t =
    added k vs v old new (rw e more) sum better (rw (more, sum) (sum_small old.total (whole_of v) old.count t.small low)) t

-- one more row of a leaf
argument_more : (f : OnClass) (c : List Tuple) (r : Tuple) → argument f (c ++ r ∷ []) ≡ argument f c ++ value_of (f (r ∷ [])) ∷ []
argument_more f [] r = refl
argument_more f (s ∷ c) r = ap (λ (vs : List Datum). value_of (f (s ∷ [])) ∷ vs) (argument_more f c r)

to_tally : (k : SetFunction) (a : Expr) (c : List Tuple) (r : Running) → Runs (Aggregate k a) c r → TalliesIn k (argument_values a c) r
to_tally k a c (Shared first same) h = h
to_tally k a c (Counted rows) h = h
to_tally k a c (Tallied t) h = h

from_tally : (k : SetFunction) (a : Expr) (c : List Tuple) (r : Running) → TalliesIn k (argument_values a c) r → Runs (Aggregate k a) c r
from_tally k a c (Shared first same) h = h
from_tally k a c (Counted rows) h = h
from_tally k a c (Tallied t) h = h

-- what one more row adds to a tally
abbrev pub TalliesMore : SetFunction → Expr → Tuple → Running → Running → Type 0
TalliesMore k a row old new = (vs : List Datum) → TalliesIn k vs old → TalliesIn k (vs ++ value_of (meaning [] a (row ∷ [])) ∷ []) new

pub aggregate_more : (k : SetFunction) (a : Expr) (row : Tuple) (old new : Running) → TalliesMore k a row old new → (c : List Tuple) → Runs (Aggregate k a) c old → Runs (Aggregate k a) (c ++ row ∷ []) new
aggregate_more k a row old new more c h =
    from_tally k a (c ++ row ∷ []) new (subst (λ vs. TalliesIn k vs new) (sym (argument_more (meaning [] a) c row)) (more (argument_values a c) (to_tally k a c old h)))

as_total : (a : Expr) (c : List Tuple) (r : Running) → Runs (Total a) c r → Runs (Aggregate Sum a) c r
as_total a c (Shared first same) h = h
as_total a c (Counted rows) h = h
as_total a c (Tallied t) h = h

of_total : (a : Expr) (c : List Tuple) (r : Running) → Runs (Aggregate Sum a) c r → Runs (Total a) c r
of_total a c (Shared first same) h = h
of_total a c (Counted rows) h = h
of_total a c (Tallied t) h = h

pub total_more : (a : Expr) (row : Tuple) (old new : Running) → TalliesMore Sum a row old new → (c : List Tuple) → Runs (Total a) c old → Runs (Total a) (c ++ row ∷ []) new
total_more a row old new more c h = of_total a (c ++ row ∷ []) new (aggregate_more Sum a row old new more c (as_total a c old h))

-- one leaf more
run_beside : (ls : List Leaf) (c : List Tuple) (rs : List Running) (l : Leaf) (r : Running) → AllRun ls c rs → Runs l c r → AllRun (ls ++ l ∷ []) c (rs ++ r ∷ [])
run_beside [] c [] l r all h = (h, tt)
run_beside [] c (s ∷ rs) l r all h = absurd all
run_beside (k ∷ ls) c [] l r all h = absurd all
run_beside (k ∷ ls) c (s ∷ rs) l r all h = (all.0, run_beside ls c rs l r all.1 h)

run_at : (ls : List Leaf) (c : List Tuple) (rs : List Running) (i : ℕ) (l : Leaf) (r : Running) → AllRun ls c rs → i < length ls → Runs (get_or ls i l) c (get_or rs i r)
run_at [] c rs i l r all lt = absurd (omega arith)
run_at (k ∷ ls) c [] i l r all lt = absurd all
run_at (k ∷ ls) c (s ∷ rs) zero l r all lt = all.0
run_at (k ∷ ls) c (s ∷ rs) (suc i) l r all lt = run_at ls c rs i l r all.1 (omega arith)

pub run_more : (ls : List Leaf) (c : List Tuple) (rs new : List Running) (r : Running) (i : ℕ) (l : Leaf) → i < length ls → l ≡ get_or ls i l → new ≡ rs ++ r ∷ [] → Runs l c r → AllRun (take i ls) c rs → AllRun (take (i + 1) ls) c new
run_more ls c rs new r i l lt e grown h all =
    subst (λ xs. AllRun xs c new) (sym (take_more ls i l lt ∙ ap (λ (x : Leaf). take i ls ++ x ∷ []) (sym e)))
    (subst (λ xs. AllRun (take i ls ++ l ∷ []) c xs) (sym grown) (run_beside (take i ls) c rs l r all h))

-- elements that stand where they stood
at_front : {X : Type 0} (xs : List X) (i : ℕ) (d : X) → get_or (drop i xs) 0 d ≡ get_or xs i d
at_front xs i d = get_or-drop i xs 0 d ∙ ap (λ n. get_or xs n d) (omega arith)

stands : {X : Type 0} (old now : List X) (i : ℕ) (d : X) → drop i now ≡ drop i old → get_or now i d ≡ get_or old i d
stands old now i d e = sym (at_front now i d) ∙ ap (λ xs. get_or xs 0 d) e ∙ at_front old i d

pub rest_stands : {X : Type 0} (old now : List X) (i : ℕ) (x : X) → length now ≡ length old → i < length old → drop i now ≡ drop i old → drop (i + 1) (set now i x) ≡ drop (i + 1) old
rest_stands old now i x long lt e = drop-set-lt (i + 1) now i x (omega arith) ∙ sym (ap (drop 1) (drop_more now i x (omega (arith, long)))) ∙ ap (drop 1) e ∙ ap (drop 1) (drop_more old i x lt)

pub holds_here : {X : Type 0} (P : X → Type 0) (old now : List X) (i : ℕ) (d : X) → All P old → i < length old → drop i now ≡ drop i old → d ≡ get_or now i d → P d
holds_here P old now i d all lt rest e = subst P (sym (e ∙ stands old now i d rest)) (All-get_or P old i d lt all)

pub row_more : (ls : List Leaf) (row : Tuple) (old now : List Running) (i : ℕ) (l : Leaf) (r s : Running) → i < length ls → i < length now → l ≡ get_or ls i l → r ≡ get_or now i r → drop i now ≡ drop i old
    → ((c : List Tuple) → Runs l c r → Runs l (c ++ row ∷ []) s)
    → ((c : List Tuple) → AllRun ls c old → AllRun (take i ls) (c ++ row ∷ []) (take i now))
    → (c : List Tuple) → AllRun ls c old → AllRun (take (i + 1) ls) (c ++ row ∷ []) (take (i + 1) (set now i s))
row_more ls row old now i l r s lt low e f rest more inv c all =
    let one : Runs (get_or ls i l) c (get_or old i r) = run_at ls c old i l r all lt in
    let here : Runs l c r = subst (λ x. Runs x c r) (sym e) (subst (λ x. Runs (get_or ls i l) c x) (sym (f ∙ stands old now i r rest)) one) in
    run_more ls (c ++ row ∷ []) (take i now) (take (i + 1) (set now i s)) s i l lt e (take_more_set now i s low) (more c here) (inv c all)

-- what one leaf more gives
pub values_append : (ls more : List Leaf) (c : List Tuple) → leaf_values (ls ++ more) c ≡ leaf_values ls c ++ leaf_values more c
values_append [] more c = refl
values_append (l ∷ ls) more c = ap (λ (vs : List Datum). leaf_value l c ∷ leaf_beyond l c ∷ vs) (values_append ls more c)

pub values_more : (ls : List Leaf) (rs : List Running) (old new : List Datum) (i : ℕ) (l : Leaf) (r : Running) → i < length ls → l ≡ get_or ls i l → r ≡ get_or rs i r
    → ((c : List Tuple) → Runs l c r → new ≡ old ++ leaf_value l c ∷ leaf_beyond l c ∷ [])
    → ((c : List Tuple) → AllRun ls c rs → old ≡ leaf_values (take i ls) c)
    → (c : List Tuple) → AllRun ls c rs → new ≡ leaf_values (take (i + 1) ls) c
values_more ls rs old new i l r lt e f is inv c all =
    let one : Runs (get_or ls i l) c (get_or rs i r) = run_at ls c rs i l r all lt in
    let here : Runs l c r = subst (λ x. Runs x c r) (sym e) (subst (λ x. Runs (get_or ls i l) c x) (sym f) one) in
    is c here ∙ ap (λ (vs : List Datum). vs ++ leaf_value l c ∷ leaf_beyond l c ∷ []) (inv c all)
    ∙ sym (ap (λ (xs : List Leaf). leaf_values xs c) (take_more ls i l lt ∙ ap (λ (x : Leaf). take i ls ++ x ∷ []) (sym e)) ∙ values_append (take i ls) (l ∷ []) c)
