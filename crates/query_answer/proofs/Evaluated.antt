-- The values and the faults of expressions with parameters, one more at a time.
use Rattle.std.proofs.Common.{◌≡◌, ◌<◌, ◌+◌, ℕ, zero, suc, List, [], ◌∷◌, ◌++◌, map, take, length, get_or, sym, refl, ap, ◌∙◌, arith, subst, Contains, Err, append_assoc}
use Rattle.std.proofs.lemmas.List.{map-append, map_more}
use Rattle.std.proofs.lemmas.List.Elements.{Contains-append_left, Contains-append_right}
use Rattle.med_value.specs.Datum.{Datum, Tuple, datum}
use Rattle.med_value.specs.declared.value.Value.{Value}
use Rattle.tri_expr.specs.declared.expr.Expr.{Expr}
use Rattle.tri_expr.specs.declared.expr.Fault.{Fault}
use Rattle.tri_expr.specs.declared.expr.Fault.TheVariants.{Range, Zero}
use Rattle.tri_expr.specs.declared.expr.EvalFault.{EvalFault}
use Rattle.tri_expr.specs.declared.expr.EvalFault.TheVariants.{OutOfRange, ZeroDivisor, NoMemory}
use Rattle.tri_expr.specs.Prelude.{Outcome, Is, Fails, Answers, over, value_of, OnClass, tree_meaning, meaning, means, Tree, tree, fault_list}
use Rattle.med_query.specs.Query.{IsTold, senses}
use Rattle.med_query.proofs.Telling.{tells_more, fault_list-append}

-- the fault of one outcome
at_first : (c : Fault) → Contains (c ∷ []) c
at_first c = (0, omega arith, refl)

only : (o : Outcome) (c : Fault) → o ≡ Fails c → Contains (fault_list (o ∷ [])) c
only o c e = rw e (at_first c)

pub answer_tells : (f : EvalFault) (o : Outcome) → Answers (Err f) o → IsTold f (fault_list (o ∷ []))
answer_tells OutOfRange o h = only o Range h
answer_tells ZeroDivisor o h = only o Zero h
answer_tells NoMemory o h = tt

-- one expression among many
part_seen : (ps : Tuple) (parts : List Expr) (class : List Tuple) (i : ℕ) (d : Expr) (c : Fault) → i < length parts → d ≡ get_or parts i d → Contains (fault_list (meaning ps d class ∷ [])) c → Contains (fault_list (over (senses ps parts) class)) c
part_seen ps [] class i d c lt e h = absurd (omega arith)
part_seen ps (p ∷ parts) class zero d c lt e h =
    let rest = over (senses ps parts) class in
    subst (λ fs. Contains fs c) (sym (fault_list-append (meaning ps p class ∷ []) rest))
    (Contains-append_left (fault_list (meaning ps p class ∷ [])) (fault_list rest) c (subst (λ (x : Expr). Contains (fault_list (meaning ps x class ∷ [])) c) e h))
part_seen ps (p ∷ parts) class (suc i) d c lt e h =
    let rest = over (senses ps parts) class in
    subst (λ fs. Contains fs c) (sym (fault_list-append (meaning ps p class ∷ []) rest))
    (Contains-append_right (fault_list (meaning ps p class ∷ [])) (fault_list rest) c (part_seen ps parts class i d c (omega arith) e h))

pub part_tells : (f : EvalFault) (ps : Tuple) (parts : List Expr) (class : List Tuple) (i : ℕ) (d : Expr) → i < length parts → d ≡ get_or parts i d → IsTold f (fault_list (meaning ps d class ∷ [])) → IsTold f (fault_list (over (senses ps parts) class))
part_tells f ps parts class i d lt e h = tells_more f _ _ (λ c k. part_seen ps parts class i d c lt e k) h

-- the outcomes of expressions, one more at a time
outcomes_more : (ps : Tuple) (parts : List Expr) (class : List Tuple) (i : ℕ) (d : Expr) → i < length parts → d ≡ get_or parts i d → over (senses ps (take (i + 1) parts)) class ≡ over (senses ps (take i parts)) class ++ meaning ps d class ∷ []
outcomes_more ps parts class i d lt e = ap (λ (ts : List Tree). over (means ps ts) class) (map_more tree parts i d lt) ∙ ap (λ (fs : List OnClass). over fs class) (map-append (tree_meaning ps) (map tree (take i parts)) (tree (get_or parts i d) ∷ [])) ∙ map-append (λ (f : OnClass). f class) (senses ps (take i parts)) (meaning ps (get_or parts i d) ∷ []) ∙ ap (λ (x : Expr). over (senses ps (take i parts)) class ++ meaning ps x class ∷ []) (sym e)

pub part_quiet : (ps : Tuple) (parts : List Expr) (class : List Tuple) (i : ℕ) (d : Expr) → i < length parts → d ≡ get_or parts i d → fault_list (meaning ps d class ∷ []) ≡ [] → fault_list (over (senses ps (take i parts)) class) ≡ [] → fault_list (over (senses ps (take (i + 1) parts)) class) ≡ []
part_quiet ps parts class i d lt e here inv =
    ap fault_list (outcomes_more ps parts class i d lt e) ∙ fault_list-append (over (senses ps (take i parts)) class) (meaning ps d class ∷ []) ∙ ap (λ (fs : List Fault). fs ++ fault_list (meaning ps d class ∷ [])) inv ∙ here

pub part_value : (ps : Tuple) (parts : List Expr) (class : List Tuple) (front : List Datum) (old new : List Value) (v : Value) (i : ℕ) (d : Expr) → i < length parts → d ≡ get_or parts i d → meaning ps d class ≡ Is (datum v) → new ≡ old ++ v ∷ [] → map datum old ≡ front ++ map value_of (over (senses ps (take i parts)) class) → map datum new ≡ front ++ map value_of (over (senses ps (take (i + 1) parts)) class)
part_value ps parts class front old new v i d lt e is grown inv =
    let before = map value_of (over (senses ps (take i parts)) class) in
    rw (grown, outcomes_more ps parts class i d lt e, is) (map-append datum old (v ∷ []) ∙ ap (λ (vs : List Datum). vs ++ datum v ∷ []) inv ∙ append_assoc front before (datum v ∷ [])
    ∙ ap (λ (vs : List Datum). front ++ vs) (sym (map-append value_of (over (senses ps (take i parts)) class) (Is (datum v) ∷ []))))
