-- A verdict, conjunct by conjunct: AND in which unknown counts as false.
use Rattle.std.proofs.Common.{◌≡◌, Bool, true, false, cond, List, [], ◌∷◌, map, refl, sym, ap, Option, Some, None, ◌∙◌, Ok, Err, Contains, ◌<◌, ◌≤◌, ◌+◌, ℕ, drop, length, get_or, add-one, drop-cons, arith}
use Rattle.std.specs.List.{list_any, list_all}
use Rattle.std.proofs.lemmas.List.{drop_all}
use Rattle.std.proofs.lemmas.Simd.{map-map}
use Rattle.med_value.specs.Datum.{Datum, NoValue, Whole, Chars, Logic, Tuple}
use Rattle.tri_expr.specs.declared.expr.Expr.{Expr}
use Rattle.tri_expr.specs.declared.expr.Fault.{Fault}
use Rattle.tri_expr.specs.Outcome.{Outcome, Is, Fails, first_fault, or_else, truth, is_truth, settled, over}
use Rattle.tri_expr.specs.Meaning.{OnClass, tree_meaning, meaning, means}
use Rattle.tri_expr.specs.Tree.{tree}
use Rattle.tri_expr.specs.Verdict.{is_refusal, is_met, fault_list, is_in, faults_told, Judges, or_some}
use Rattle.tri_expr.proofs.Chain.{or_told, resumed}

abbrev pub hardened : Outcome → Outcome
hardened (Is (Logic b)) = Is (Logic b)
hardened (Is v) = Is (Logic false)
hardened (Fails c) = Fails c

abbrev pub judged : List Outcome → Outcome
judged os = settled false (map hardened os)

any_hardened : (os : List Outcome) → list_any (is_truth false) (map hardened os) ≡ list_any is_refusal os
any_hardened [] = refl
any_hardened (Is NoValue ∷ os) = refl
any_hardened (Is (Whole n) ∷ os) = refl
any_hardened (Is (Chars t) ∷ os) = refl
any_hardened (Is (Logic true) ∷ os) = any_hardened os
any_hardened (Is (Logic false) ∷ os) = refl
any_hardened (Fails c ∷ os) = any_hardened os

fault_hardened : (os : List Outcome) → first_fault (map hardened os) ≡ first_fault os
fault_hardened [] = refl
fault_hardened (Is NoValue ∷ os) = fault_hardened os
fault_hardened (Is (Whole n) ∷ os) = fault_hardened os
fault_hardened (Is (Chars t) ∷ os) = fault_hardened os
fault_hardened (Is (Logic b) ∷ os) = fault_hardened os
fault_hardened (Fails c ∷ os) = refl

all_hardened : (os : List Outcome) → list_all (is_truth true) (map hardened os) ≡ is_in os
all_hardened [] = refl
all_hardened (Is NoValue ∷ os) = refl
all_hardened (Is (Whole n) ∷ os) = refl
all_hardened (Is (Chars t) ∷ os) = refl
all_hardened (Is (Logic true) ∷ os) = all_hardened os
all_hardened (Is (Logic false) ∷ os) = refl
all_hardened (Fails c ∷ os) = refl

judged_is : (os : List Outcome) → judged os ≡ cond (list_any is_refusal os) (truth false) (or_else (first_fault os) (cond (is_in os) (truth true) (Is NoValue)))
judged_is os = rw (any_hardened os, fault_hardened os, all_hardened os)

out_all : (os : List Outcome) → list_any is_refusal os ≡ true → is_in os ≡ false
out_all [] h = sym h
out_all (Is NoValue ∷ os) h = refl
out_all (Is (Whole n) ∷ os) h = refl
out_all (Is (Chars t) ∷ os) h = refl
out_all (Is (Logic true) ∷ os) h = out_all os h
out_all (Is (Logic false) ∷ os) h = refl
out_all (Fails c ∷ os) h = refl

in_all : (os : List Outcome) → list_any is_refusal os ≡ false → first_fault os ≡ None → (is_in os ≡ true) × (fault_list os ≡ [])
in_all [] h n = (refl, refl)
in_all (Is NoValue ∷ os) h n = absurd cc
in_all (Is (Whole k) ∷ os) h n = absurd cc
in_all (Is (Chars t) ∷ os) h n = absurd cc
in_all (Is (Logic true) ∷ os) h n = in_all os h n
in_all (Is (Logic false) ∷ os) h n = absurd cc
in_all (Fails c ∷ os) h n = absurd cc

told_all : (os : List Outcome) (c : Fault) → first_fault os ≡ Some c → Contains (fault_list os) c
told_all [] c e = absurd cc
told_all (Is v ∷ os) c e = told_all os c e
told_all (Fails d ∷ os) c e = (0, omega arith, cc)

-- the three answers of the loop
pub data Ending : List Outcome → Type 0 where
  ends_out : {os : List Outcome} → list_any is_refusal os ≡ true → Ending os
  ends_in : {os : List Outcome} → list_any is_refusal os ≡ false → first_fault os ≡ None → Ending os
  ends_told : {os : List Outcome} (c : Fault) → list_any is_refusal os ≡ false → first_fault os ≡ Some c → Ending os

ending_by_fault : (os : List Outcome) (o : Option Fault) → list_any is_refusal os ≡ false → first_fault os ≡ o → Ending os
ending_by_fault os None h e = ends_in h e
ending_by_fault os (Some c) h e = ends_told c h e

ending_by : (os : List Outcome) (b : Bool) → list_any is_refusal os ≡ b → Ending os
ending_by os true h = ends_out h
ending_by os false h = ending_by_fault os (first_fault os) h refl

pub ending : (os : List Outcome) → Ending os
ending os = ending_by os (list_any is_refusal os) refl

judged-out : (os : List Outcome) → list_any is_refusal os ≡ true → judged os ≡ truth false
judged-out os h = judged_is os ∙ rw h refl

judged-in : (os : List Outcome) → list_any is_refusal os ≡ false → first_fault os ≡ None → judged os ≡ truth true
judged-in os h n = let i : is_in os ≡ true = (in_all os h n).0 in judged_is os ∙ rw (h, n, i) refl

judged-told : (os : List Outcome) (c : Fault) → list_any is_refusal os ≡ false → first_fault os ≡ Some c → judged os ≡ Fails c
judged-told os c h n = judged_is os ∙ rw (h, n) refl

pub verdict_false : (os : List Outcome) → judged os ≡ truth false → Judges (Ok false) os
verdict_false os e = elim (ending os) [
  | ends_out h ↦ (sym (out_all os h), rw h refl)
  | ends_in h n ↦ let j = judged-in os h n in absurd cc
  | ends_told c h n ↦ let j = judged-told os c h n in absurd cc
]

pub verdict_true : (os : List Outcome) → judged os ≡ truth true → Judges (Ok true) os
verdict_true os e = elim (ending os) [
  | ends_out h ↦ let j = judged-out os h in absurd cc
  | ends_in h n ↦ (sym (in_all os h n).0, rw h (in_all os h n).1)
  | ends_told c h n ↦ let j = judged-told os c h n in absurd cc
]

told_contains : (os : List Outcome) (c : Fault) → judged os ≡ Fails c → Contains (faults_told os) c
told_contains os c e = elim (ending os) [
  | ends_out h ↦ let j = judged-out os h in absurd cc
  | ends_in h n ↦ let j = judged-in os h n in absurd cc
  | ends_told d h n ↦ let j = judged-told os d h n in rw h (told_all os c (let p : d ≡ c = cc in n ∙ ap Some p))
]

pub verdict_told : (os : List Outcome) (f : Fault) → judged os ≡ Fails f → Judges (Err f) os
verdict_told = told_contains

pub judged_step : {X C : Type 0} (m : X → C → Outcome) (c : C) (parts : List X) (i : ℕ) (d : X) → i < length parts → d ≡ get_or parts i d → map hardened (over (map m (drop i parts)) c) ≡ hardened (m d c) ∷ map hardened (over (map m (drop (i + 1) parts)) c)
judged_step m c parts i d lt e = rw (add-one, drop-cons parts i d, ← e) refl

pub hardened_is : (v : Datum) → hardened (Is v) ≡ truth (is_met (Is v))
hardened_is NoValue = refl
hardened_is (Whole n) = refl
hardened_is (Chars t) = refl
hardened_is (Logic b) = refl

-- a conjunct that is false or unknown ends the loop
pub step_refused : {X C : Type 0} (m : X → C → Outcome) (c : C) (parts : List X) (i : ℕ) (d : X) (told : Option Fault) (v : Datum) → i < length parts → d ≡ get_or parts i d → m d c ≡ Is v → is_met (Is v) ≡ false → judged (over (map m parts) c) ≡ resumed false told true (map hardened (over (map m (drop i parts)) c)) → judged (over (map m parts) c) ≡ truth false
step_refused m c parts i d told v lt e is refused inv = inv ∙ rw (judged_step m c parts i d lt e, is, hardened_is v, refused) refl

pub step_met : {X C : Type 0} (m : X → C → Outcome) (c : C) (parts : List X) (i : ℕ) (d : X) (told : Option Fault) (v : Datum) → i < length parts → d ≡ get_or parts i d → m d c ≡ Is v → is_met (Is v) ≡ true → judged (over (map m parts) c) ≡ resumed false told true (map hardened (over (map m (drop i parts)) c)) → judged (over (map m parts) c) ≡ resumed false told true (map hardened (over (map m (drop (i + 1) parts)) c))
step_met m c parts i d told v lt e is met inv = inv ∙ rw (judged_step m c parts i d lt e, is, hardened_is v, met) refl

pub step_told : {X C : Type 0} (m : X → C → Outcome) (c : C) (parts : List X) (i : ℕ) (d : X) (f : Fault) → i < length parts → d ≡ get_or parts i d → m d c ≡ Fails f → judged (over (map m parts) c) ≡ resumed false None true (map hardened (over (map m (drop i parts)) c)) → judged (over (map m parts) c) ≡ resumed false (Some f) true (map hardened (over (map m (drop (i + 1) parts)) c))
step_told m c parts i d f lt e is inv = inv ∙ rw (judged_step m c parts i d lt e, is) refl

pub step_told_before : {X C : Type 0} (m : X → C → Outcome) (c : C) (parts : List X) (i : ℕ) (d : X) (f g : Fault) → i < length parts → d ≡ get_or parts i d → m d c ≡ Fails f → judged (over (map m parts) c) ≡ resumed false (Some g) true (map hardened (over (map m (drop i parts)) c)) → judged (over (map m parts) c) ≡ resumed false (Some g) true (map hardened (over (map m (drop (i + 1) parts)) c))
step_told_before m c parts i d f g lt e is inv = inv ∙ rw (judged_step m c parts i d lt e, is) refl

pub at_end : {X C : Type 0} (m : X → C → Outcome) (c : C) (parts : List X) (i : ℕ) (told : Option Fault) → length parts ≤ i → judged (over (map m parts) c) ≡ resumed false told true (map hardened (over (map m (drop i parts)) c)) → judged (over (map m parts) c) ≡ or_told told (truth true)
at_end m c parts i told le inv = inv ∙ rw (drop_all i parts le) refl

pub step_fault : {X C : Type 0} (m : X → C → Outcome) (c : C) (parts : List X) (i : ℕ) (d : X) (f : Fault) (told : Option Fault) → i < length parts → d ≡ get_or parts i d → m d c ≡ Fails f → judged (over (map m parts) c) ≡ resumed false told true (map hardened (over (map m (drop i parts)) c)) → judged (over (map m parts) c) ≡ resumed false (or_some told f) true (map hardened (over (map m (drop (i + 1) parts)) c))
step_fault m c parts i d f None lt e is inv = step_told m c parts i d f lt e is inv
step_fault m c parts i d f (Some g) lt e is inv = step_told_before m c parts i d f g lt e is inv

-- expressions mean what their trees mean
pub by_trees : (ps : Tuple) (es : List Expr) (k : List Tuple) → over (map (meaning ps) es) k ≡ over (means ps (map tree es)) k
by_trees ps es k = ap (λ (fs : List OnClass). over fs k) (sym (map-map (tree_meaning ps) tree es))
