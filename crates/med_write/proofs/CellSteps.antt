-- The cells of a row that is written, one more at a time.
use Rattle.std.proofs.Common.{◌≡◌, ◌<◌, ◌+◌, ℕ, zero, suc, List, [], ◌∷◌, ◌++◌, map, take, length, get_or, sym, refl, ap, ◌∙◌, arith, subst, Contains, Option, Some, Result, add-one, add-zero}
use Rattle.std.proofs.lemmas.List.{map-append, map_more, length-map}
use Rattle.std.proofs.lemmas.List.Elements.{Contains-append_left, Contains-append_right}
use Rattle.med_value.specs.Datum.{Datum, NoValue, Tuple, datum}
use Rattle.med_value.specs.declared.value.Value.{Value}
use Rattle.tri_expr.specs.declared.expr.Fault.{Fault}
use Rattle.tri_expr.specs.declared.expr.EvalFault.{EvalFault}
use Rattle.tri_expr.specs.Prelude.{Tree, Outcome, Is, fault_list}
use Rattle.med_query.specs.Query.{IsTold}
use Rattle.med_query.proofs.Telling.{tells_more, fault_list-append}
use Rattle.med_write.specs.Writing.{outcomes_of, value_for, cell_after, cells_after}
use Rattle.med_write.specs.Making.{GivesOutcome}

-- an element that is there, seen by a view
pub get_mapped : {X Y : Type 0} (f : X → Y) (xs : List X) (i : ℕ) (x : X) (d : Y) → i < length xs → x ≡ get_or xs i x → get_or (map f xs) i d ≡ f x
get_mapped f [] i x d lt e = absurd (omega arith)
get_mapped f (y ∷ ys) zero x d lt e = ap f (sym e)
get_mapped f (y ∷ ys) (suc i) x d lt e = get_mapped f ys i x d (omega arith) e

-- one value more
grown : (os : List Outcome) (o : Outcome) (old new : List Value) (v : Value) → o ≡ Is (datum v) → new ≡ old ++ v ∷ [] → os ≡ outcomes_of (map datum old) → os ++ o ∷ [] ≡ outcomes_of (map datum new)
grown os o old new v is more inv = rw (more, is, inv) (sym (ap outcomes_of (map-append datum old (v ∷ [])) ∙ map-append (λ (d : Datum). Is d) (map datum old) (datum v ∷ [])))

pub step_cell : {X : Type 0} (f : X → Outcome) (xs : List X) (i : ℕ) (d : X) (old new : List Value) (v : Value) → i < length xs → d ≡ get_or xs i d → f d ≡ Is (datum v) → new ≡ old ++ v ∷ [] → map f (take i xs) ≡ outcomes_of (map datum old) → map f (take (i + 1) xs) ≡ outcomes_of (map datum new)
step_cell f xs i d old new v lt e is more inv = map_more f xs i d lt ∙ ap (λ x. map f (take i xs) ++ f x ∷ []) (sym e) ∙ grown (map f (take i xs)) (f d) old new v is more inv

-- the fault of a cell among those of its row
one_seen : (o : Outcome) (os : List Outcome) (c : Fault) → Contains (fault_list (o ∷ [])) c → Contains (fault_list (o ∷ os)) c
one_seen o os c h = rw (fault_list-append (o ∷ []) os) (Contains-append_left (fault_list (o ∷ [])) (fault_list os) c h)

later_seen : (o : Outcome) (os : List Outcome) (c : Fault) → Contains (fault_list os) c → Contains (fault_list (o ∷ os)) c
later_seen o os c h = rw (fault_list-append (o ∷ []) os) (Contains-append_right (fault_list (o ∷ [])) (fault_list os) c h)

cell_seen : {X : Type 0} (f : X → Outcome) (xs : List X) (i : ℕ) (d : X) (c : Fault) → i < length xs → d ≡ get_or xs i d → Contains (fault_list (f d ∷ [])) c → Contains (fault_list (map f xs)) c
cell_seen f [] i d c lt e h = absurd (omega arith)
cell_seen f (x ∷ xs) zero d c lt e h = one_seen (f x) (map f xs) c (subst (λ y. Contains (fault_list (f y ∷ [])) c) e h)
cell_seen f (x ∷ xs) (suc i) d c lt e h = later_seen (f x) (map f xs) c (cell_seen f xs i d c (omega arith) e h)

pub told_cell : {X : Type 0} (f : X → Outcome) (xs : List X) (i : ℕ) (d : X) (fault : EvalFault) → i < length xs → d ≡ get_or xs i d → IsTold fault (fault_list (f d ∷ [])) → IsTold fault (fault_list (map f xs))
told_cell f xs i d fault lt e t = tells_more fault _ _ (λ c h. cell_seen f xs i d c lt e h) t

-- the same of an UPDATE's cells, which see their places
after_more : {X : Type 0} (r : Tuple) (place : ℕ) (g : X → Option Tree) (xs : List X) (i : ℕ) (d : X) → i < length xs → cells_after r place (map g (take (suc i) xs)) ≡ cells_after r place (map g (take i xs)) ++ cell_after r (place + i) (g (get_or xs i d)) ∷ []
after_more r place g [] i d lt = absurd (omega arith)
after_more r place g (x ∷ xs) zero d lt = rw add-zero refl
after_more r place g (x ∷ xs) (suc i) d lt =
    let at : suc place + i ≡ place + suc i = omega arith in
    ap (λ (os : List Outcome). cell_after r place (g x) ∷ os) (after_more r (suc place) g xs i d (omega arith) ∙ ap (λ (n : ℕ). cells_after r (suc place) (map g (take i xs)) ++ cell_after r n (g (get_or xs i d)) ∷ []) at)

pub step_after : {X : Type 0} (r : Tuple) (g : X → Option Tree) (xs : List X) (i : ℕ) (d : X) (old new : List Value) (v : Value) → i < length xs → d ≡ get_or xs i d → cell_after r i (g d) ≡ Is (datum v) → new ≡ old ++ v ∷ [] → cells_after r 0 (map g (take i xs)) ≡ outcomes_of (map datum old) → cells_after r 0 (map g (take (i + 1) xs)) ≡ outcomes_of (map datum new)
step_after r g xs i d old new v lt e is more inv =
    let at : 0 + i ≡ i = omega arith in
    ap (λ (n : ℕ). cells_after r 0 (map g (take n xs))) (add-one i)
    ∙ after_more r 0 g xs i d lt
    ∙ ap (λ (n : ℕ). cells_after r 0 (map g (take i xs)) ++ cell_after r n (g (get_or xs i d)) ∷ []) at
    ∙ ap (λ x. cells_after r 0 (map g (take i xs)) ++ cell_after r i (g x) ∷ []) (sym e)
    ∙ grown (cells_after r 0 (map g (take i xs))) (cell_after r i (g d)) old new v is more inv

after_seen : {X : Type 0} (r : Tuple) (place : ℕ) (g : X → Option Tree) (xs : List X) (i : ℕ) (d : X) (c : Fault) → i < length xs → d ≡ get_or xs i d → Contains (fault_list (cell_after r (place + i) (g d) ∷ [])) c → Contains (fault_list (cells_after r place (map g xs))) c
after_seen r place g [] i d c lt e h = absurd (omega arith)
after_seen r place g (x ∷ xs) zero d c lt e h =
    let at : place + 0 ≡ place = add-zero place in
    one_seen (cell_after r place (g x)) (cells_after r (suc place) (map g xs)) c
    (subst (λ y. Contains (fault_list (cell_after r place (g y) ∷ [])) c) e (subst (λ (n : ℕ). Contains (fault_list (cell_after r n (g d) ∷ [])) c) at h))
after_seen r place g (x ∷ xs) (suc i) d c lt e h =
    let at : place + suc i ≡ suc place + i = omega arith in
    later_seen (cell_after r place (g x)) (cells_after r (suc place) (map g xs)) c
    (after_seen r (suc place) g xs i d c (omega arith) e (subst (λ (n : ℕ). Contains (fault_list (cell_after r n (g d) ∷ [])) c) at h))

pub told_after : {X : Type 0} (r : Tuple) (g : X → Option Tree) (xs : List X) (i : ℕ) (d : X) (fault : EvalFault) → i < length xs → d ≡ get_or xs i d → IsTold fault (fault_list (cell_after r i (g d) ∷ [])) → IsTold fault (fault_list (cells_after r 0 (map g xs)))
told_after r g xs i d fault lt e t =
    let at : i ≡ 0 + i = omega arith in
    tells_more fault _ _ (λ c h. after_seen r 0 g xs i d c lt e (subst (λ (n : ℕ). Contains (fault_list (cell_after r n (g d) ∷ [])) c) at h)) t

-- an element that is read, with another default
pub read_twice : {X : Type 0} (xs : List X) (i : ℕ) (d e : X) → i < length xs → get_or xs i d ≡ get_or xs i e
read_twice [] i d e lt = absurd (omega arith)
read_twice (x ∷ xs) zero d e lt = refl
read_twice (x ∷ xs) (suc i) d e lt = read_twice xs i d e (omega arith)

-- the value at a place that is there
pub value_found : {X Y : Type 0} (f : Y → Outcome) (g : X → Y) (xs : List X) (place : Option ℕ) (at : ℕ) (x : X) (r : Result Value EvalFault) → place ≡ Some at → at < length xs → x ≡ get_or xs at x → GivesOutcome r (f (g x)) → GivesOutcome r (value_for (map f (map g xs)) place)
value_found f g xs place at x r is lt e gives =
    let inner : g x ≡ get_or (map g xs) at (g x) = sym (get_mapped g xs at x (g x) lt e) in
    let long : at < length (map g xs) = rw (length-map xs g) lt in
    let found : get_or (map f (map g xs)) at (Is NoValue) ≡ f (g x) = get_mapped f (map g xs) at (g x) (Is NoValue) long inner in
    rw (is, found) gives
