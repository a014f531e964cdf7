-- The rows that a run gave, one after the other.
use Rattle.std.proofs.Common.{◌≡◌, ℕ, ◌+◌, true, false, List, [], ◌∷◌, ◌++◌, length, Option, Some, None, map, refl, ap, sym, subst, inl, inr, arith}
use Rattle.std.proofs.lemmas.Bool.{leb-true, leb-false}
use Rattle.std.proofs.lemmas.List.{append-nil, length-map}
use Rattle.med_value.specs.Datum.{Tuple, tuple}
use Rattle.med_value.specs.declared.value.Row.{Row}
use Rattle.fdw_api.specs.State.{BoxState}
use Rattle.med_syntax.specs.CursorTree.{CountTree, some_rows, all_rows}
use Rattle.med_exec.specs.Prelude.{GivesNext, EndsAt, Breaks, wants_memory, box_breaks}
use Rattle.med_exec.specs.Rests.{Rests}
use Rattle.med_exec.specs.declared.running.Run.{Run}
use Rattle.fdw_api.specs.declared.interface.Fault.{Fault}
use Rattle.med_world.specs.Fetching.{IsWithin, AreEnough, has_enough, GivesNone, no_memory, box_fails, cause_of}

-- these rows were given: followed by what the run may give now, they are what it could give first
abbrev pub HasGiven : Run → List (Option BoxState) → List Row → Run → List (Option BoxState) → Type 0
HasGiven first old rows run now = (rest : List Tuple) → Rests run now rest → Rests first old (map tuple rows ++ rest)

pub none_given : (first : Run) (old : List (Option BoxState)) (rows : List Row) → rows ≡ [] → HasGiven first old rows first old
none_given first old rows e rest h = subst (λ (rs : List Row). Rests first old (map tuple rs ++ rest)) (sym e) h

last_to_rest : (rows : List Row) (row : Row) (rest : List Tuple) → map tuple rows ++ (tuple row ∷ rest) ≡ map tuple (rows ++ (row ∷ [])) ++ rest
last_to_rest [] row rest = refl
last_to_rest (r ∷ rows) row rest = ap (λ (xs : List Tuple). tuple r ∷ xs) (last_to_rest rows row rest)

pub one_more : (first before after : Run) (old now next : List (Option BoxState)) (rows new : List Row) (row : Row) → new ≡ rows ++ (row ∷ []) → HasGiven first old rows before now → GivesNext (Rests before now) (Some (tuple row)) (Rests after next) → HasGiven first old new after next
one_more first before after old now next rows new row e given gives rest h =
    subst (λ (rs : List Row). Rests first old (map tuple rs ++ rest)) (sym e)
    (subst (λ (xs : List Tuple). Rests first old xs) (last_to_rest rows row rest) (given (tuple row ∷ rest) (gives rest h)))

pub all_given : (first before after : Run) (old now next : List (Option BoxState)) (rows : List Row) → HasGiven first old rows before now → GivesNext (Rests before now) None (Rests after next) → Rests first old (map tuple rows)
all_given first before after old now next rows given gives = subst (λ (xs : List Tuple). Rests first old xs) (append-nil (map tuple rows)) (given [] gives)

-- behind the end nothing is left
pub all_then : (first before after : Run) (old now next : List (Option BoxState)) (rows : List Row) → HasGiven first old rows before now → GivesNext (Rests before now) None (Rests after next) → EndsAt None (Rests after next)
    → (left : List Tuple) → Rests after next left → Rests first old (map tuple rows ++ left)
all_then first before after old now next rows given gives over left h =
    subst (λ (xs : List Tuple). Rests first old (map tuple rows ++ xs)) (sym (over left h)) (given [] gives)

-- ---- so many

pub within_none : (asked : CountTree) (rows : List Row) → rows ≡ [] → IsWithin asked (length rows)
within_none all_rows rows e = tt
within_none (some_rows n) rows e = let none : length rows ≡ 0 = ap (λ (rs : List Row). length rs) e in omega (arith, none)

pub within_more : (asked : CountTree) (given : ℕ) → has_enough asked given ≡ false → IsWithin asked (given + 1)
within_more all_rows given more = tt
within_more (some_rows n) given more = omega (arith, leb-false n given more)

-- as many as were asked for
pub enough_given : (asked : CountTree) (rows : List Row) (rests : List Tuple → Type 0) → IsWithin asked (length rows) → has_enough asked (length rows) ≡ true → AreEnough asked (map tuple rows) rests
enough_given all_rows rows rests most is = absurd cc
enough_given (some_rows n) rows rests most is = inl (omega (arith, length-map rows tuple, most, leb-true n (length rows) is))

-- fewer, and all that were left
pub all_there : (asked : CountTree) (rows : List Row) (rests : List Tuple → Type 0) → has_enough asked (length rows) ≡ false → rests (map tuple rows) → AreEnough asked (map tuple rows) rests
all_there all_rows rows rests more all = all
all_there (some_rows n) rows rests more all = inr (omega (arith, length-map rows tuple, leb-false n (length rows) more), all)

-- ---- what FETCH says

pub gives_none : (fault : Fault) (old new : List (Option BoxState)) → Breaks fault old new → GivesNone (cause_of fault) old new
gives_none fault old new (wants_memory e) = no_memory (ap cause_of e)
gives_none fault old new (box_breaks e failed) = box_fails (ap cause_of e) failed
