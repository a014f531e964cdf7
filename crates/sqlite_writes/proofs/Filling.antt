-- Cells of the database that are written one after another into the first places of a slice.
use Rattle.std.proofs.Common.{◌≡◌, ◌<◌, ℕ, zero, suc, List, [], ◌∷◌, map, take, set, length, get_or, refl, sym, ap, ap₂, ◌∙◌, arith}
use Rattle.std.proofs.lemmas.List.{length-map}
use Rattle.sqlite.specs.Values.{bound, bound_value}
use Rattle.sqlite_trees.proofs.ListLemmas.{map-map}
use Rattle.sqlite_value.specs.declared.value.ValueRef.{ValueRef}
use Rattle.sqlite_value.specs.Value.{owned}
use Rattle.med_value.specs.Datum.{Datum, NoValue, Whole, Chars, Logic, Tuple, datum}
use Rattle.med_value.specs.declared.value.Value.{Value}
use Rattle.sqlite_writes.specs.Stored.{stored}

pub filled_more : (cells : List ValueRef) (vs : List Value) (i : ℕ) (r : ValueRef) (v : Value) → i < length cells → i < length vs
    → v ≡ get_or vs i v → owned r ≡ stored (datum v) → map owned (take i cells) ≡ map stored (take i (map datum vs))
    → map owned (take (suc i) (set cells i r)) ≡ map stored (take (suc i) (map datum vs))
filled_more [] vs i r v room there is e before = absurd (omega (arith, room))
filled_more (c ∷ cells) [] i r v room there is e before = absurd (omega (arith, there))
filled_more (c ∷ cells) (w ∷ vs) zero r v room there is e before = ap (λ s. s ∷ []) (e ∙ ap (λ x. stored (datum x)) is)
filled_more (c ∷ cells) (w ∷ vs) (suc i) r v room there is e before =
    let one : owned c ≡ stored (datum w) = cc in
    let more : map owned (take i cells) ≡ map stored (take i (map datum vs)) = cc in
    ap₂ ◌∷◌ one (filled_more cells vs i r v (omega (arith, room)) (omega (arith, there)) is e more)

-- a cell is bound as it is
bound_cell : (d : Datum) → bound_value (stored d) ≡ stored d
bound_cell NoValue = refl
bound_cell (Whole n) = refl
bound_cell (Chars t) = refl
bound_cell (Logic b) = refl

bound_cells : (x : Tuple) → map bound_value (map stored x) ≡ map stored x
bound_cells [] = refl
bound_cells (d ∷ x) = ap₂ ◌∷◌ (bound_cell d) (bound_cells x)

-- as many of the places as a row has cells are its parameters
pub bound_row : (cells : List ValueRef) (vs : List Value) (n : ℕ) → n ≡ length vs
    → map owned (take (length (map datum vs)) cells) ≡ map stored (map datum vs) → bound (take n cells) ≡ map stored (map datum vs)
bound_row cells vs n is filled =
    ap (λ (m : ℕ). bound (take m cells)) (is ∙ sym (length-map vs datum))
    ∙ sym (map-map bound_value owned (take (length (map datum vs)) cells)) ∙ ap (map bound_value) filled ∙ bound_cells (map datum vs)
