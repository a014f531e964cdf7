-- Rows that are chosen or written, one more at a time.
use Rattle.std.proofs.Common.{◌≡◌, ◌<◌, ◌+◌, ℕ, zero, suc, Bool, true, false, ◌||◌, List, [], ◌∷◌, ◌++◌, map, filter, flat_map, take, length, get_or, sym, refl, ap, ◌∙◌, arith, subst, Result, Ok, Err, IfErr}
use Rattle.std.specs.List.{list_any}
use Rattle.std.proofs.lemmas.List.{map-append, map_more}
use Rattle.std.proofs.lemmas.List.Elements.{filter-append}
use Rattle.std.proofs.lemmas.List.Folds.{list_any-append}
use Rattle.std.proofs.lemmas.Grind.{flat_map-append}
use Rattle.med_value.specs.Datum.{Tuple}
use Rattle.tri_expr.specs.Prelude.{Outcome, value_of, fault_list}
use Rattle.med_query.proofs.Telling.{tells_more, contains_seen}
use Rattle.fdw_api.specs.Kinds.{Change}
use Rattle.med_write.specs.declared.write.WrittenColumn.{WrittenColumn}
use Rattle.med_write.specs.declared.write.WriteFault.{WriteFault}
use Rattle.med_write.specs.declared.write.WriteFault.TheVariants.{Evaluation, NotNull}
use Rattle.med_write.specs.Writing.{outcomes_of, lacks_value}
use Rattle.med_write.specs.Making.{IsRow, IsRowFault, IsFaultOf, Makes}

pub map_map : {X V Y : Type 0} (f : V → Y) (view : X → V) (xs : List X) → map f (map view xs) ≡ map (λ x. f (view x)) xs
map_map f view [] = refl
map_map f view (x ∷ xs) = ap (λ ys. f (view x) ∷ ys) (map_map f view xs)

-- a list that is filtered
pub chosen_more : {X V : Type 0} (view : X → V) (p : V → Bool) (xs : List X) (d : X) (old new : List V) → new ≡ old ++ filter p (view d ∷ []) → old ≡ filter p (map view xs) → new ≡ filter p (map view (xs ++ d ∷ []))
chosen_more view p xs d old new grown inv = grown ∙ ap (λ vs. vs ++ filter p (view d ∷ [])) inv ∙ sym (ap (filter p) (map-append view xs (d ∷ [])) ∙ filter-append p (map view xs) (view d ∷ []))

-- values as outcomes are these values, and have no fault
values_back : (r : Tuple) → map value_of (outcomes_of r) ≡ r
values_back [] = refl
values_back (v ∷ vs) = ap (λ (r : Tuple). v ∷ r) (values_back vs)

no_faults : (r : Tuple) → fault_list (outcomes_of r) ≡ []
no_faults [] = refl
no_faults (v ∷ vs) = no_faults vs

-- one change more
makes_push : {V : Type 0} (columns : List WrittenColumn) (made : V → List Outcome) (change : V → Tuple → Change) (ys : List V) (y : V) (old new : List Change) (r : Tuple) → Makes columns made change ys old → IsRow columns (made y) r → new ≡ old ++ change y r ∷ [] → Makes columns made change (ys ++ y ∷ []) new
makes_push columns made change ys y old new r inv row more =
    let back : map value_of (made y) ≡ r = ap (map value_of) row.values ∙ values_back r in
    let quiet : fault_list (made y) ≡ [] = ap fault_list row.values ∙ no_faults r in
    record {
      are = more ∙ ap (λ cs. cs ++ change y r ∷ []) inv.are ∙ ap (λ (v : Tuple). map (λ x. change x (map value_of (made x))) ys ++ change y v ∷ []) (sym back) ∙ sym (map-append (λ x. change x (map value_of (made x))) ys (y ∷ []));
      no_fault = ap (flat_map fault_list) (map-append made ys (y ∷ [])) ∙ flat_map-append fault_list (map made ys) (made y ∷ []) ∙ rw (inv.no_fault, quiet) refl;
      complete = ap (list_any (lacks_value columns)) (map-append made ys (y ∷ [])) ∙ list_any-append (lacks_value columns) (map made ys) (made y ∷ []) ∙ rw (inv.complete, row.complete) refl;
    }

pub makes_more : {X V : Type 0} (view : X → V) (columns : List WrittenColumn) (made : V → List Outcome) (change : V → Tuple → Change) (xs : List X) (i : ℕ) (d : X) (old new : List Change) (r : Tuple) → i < length xs → d ≡ get_or xs i d → IsRow columns (made (view d)) r → new ≡ old ++ change (view d) r ∷ [] → Makes columns made change (map view (take i xs)) old → Makes columns made change (map view (take (i + 1) xs)) new
makes_more view columns made change xs i d old new r lt e row more inv =
    let grown : map view (take (i + 1) xs) ≡ map view (take i xs) ++ view d ∷ [] = map_more view xs i d lt ∙ ap (λ x. map view (take i xs) ++ view x ∷ []) (sym e) in
    subst (λ ys. Makes columns made change ys new) (sym grown) (makes_push columns made change (map view (take i xs)) (view d) old new r inv row more)

-- a fault of one row among all
any_seen : {X : Type 0} (p : X → Bool) (xs : List X) (i : ℕ) (d : X) → i < length xs → d ≡ get_or xs i d → p d ≡ true → list_any p xs ≡ true
any_seen p [] i d lt e h = absurd (omega arith)
any_seen p (x ∷ xs) zero d lt e h = let first : p x ≡ true = subst (λ y. p y ≡ true) e h in rw first refl
any_seen p (x ∷ xs) (suc i) d lt e h = rw (any_seen p xs i d (omega arith) e h) (any_true (p x))
  where
    any_true : (b : Bool) → (b || true) ≡ true
    any_true true = refl
    any_true false = refl

any_map : {X Y : Type 0} (p : Y → Bool) (f : X → Y) (xs : List X) → list_any p (map f xs) ≡ list_any (λ x. p (f x)) xs
any_map p f [] = refl
any_map p f (x ∷ xs) = ap (λ (b : Bool). p (f x) || b) (any_map p f xs)

fault_of : {X : Type 0} (fault : WriteFault) (columns : List WrittenColumn) (made : X → List Outcome) (xs : List X) (i : ℕ) (d : X) → i < length xs → d ≡ get_or xs i d → IsRowFault fault columns (made d) → IsFaultOf fault columns (map made xs)
fault_of (Evaluation f) columns made xs i d lt e t = tells_more f _ _ (λ c h. contains_seen made fault_list xs i d c lt e h) t
fault_of NotNull columns made xs i d lt e t = any_map (lacks_value columns) made xs ∙ any_seen (λ x. lacks_value columns (made x)) xs i d lt e t

pub fault_seen : {X V : Type 0} (view : X → V) (fault : WriteFault) (columns : List WrittenColumn) (made : V → List Outcome) (xs : List X) (i : ℕ) (d : X) → i < length xs → d ≡ get_or xs i d → IsRowFault fault columns (made (view d)) → IsFaultOf fault columns (map made (map view xs))
fault_seen view fault columns made xs i d lt e t = subst (λ rows. IsFaultOf fault columns rows) (sym (map_map made view xs)) (fault_of fault columns (λ x. made (view x)) xs i d lt e t)

pub same_row_fault : {T : Type 0} (r : Result T WriteFault) (columns : List WrittenColumn) (os us : List Outcome) → os ≡ us → IfErr r (λ fault. IsRowFault fault columns us) → IfErr r (λ fault. IsRowFault fault columns os)
same_row_fault r columns os us e t = subst (λ (w : List Outcome). IfErr r (λ fault. IsRowFault fault columns w)) (sym e) t

-- another fact of the fault that a call answers
pub if_err_then : {T E : Type 0} (r : Result T E) (P Q : E → Type 0) → ((x : E) → P x → Q x) → IfErr r P → IfErr r Q
if_err_then (Ok x) P Q h p = tt
if_err_then (Err e) P Q h p = h e p
