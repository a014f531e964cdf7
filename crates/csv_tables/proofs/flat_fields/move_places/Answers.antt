use Rattle.std.proofs.Common.{◌≡◌, ◌<◌, ◌+◌, ◌∙◌, ap, get_or, length, suc, arith, slice_set, map, take, drop, ◌++◌, ℕ, List}
use Rattle.csv_tables.specs.Held.{moved}
use Rattle.csv_tables.proofs.Exchanging.{place_there, place_moved}
use Rattle.csv_tables.proofs.flat_fields.move_places.Goals as goal

pub loop-place-preserved : goal.loop-place-preserved
loop-place-preserved c =
    let xs = c.args.places.now in
    let i = c.loop-place.place-index in
    let f : ℕ → ℕ = moved c.args.from c.args.to in
    let is : c.loop-place.places ≡ map f (take i xs) ++ drop i xs = c.loop-place.invariant in
    let size = c.loop-place.auto.places in
    let lt : i < length xs = omega arith in
    let next : suc i ≡ i + 1 = omega arith in
    let here : get_or c.loop-place.places i 0 ≡ get_or xs i 0 = ap (λ (l : List ℕ). get_or l i 0) is ∙ place_there f xs i 0 lt in
    ap (λ (n : ℕ). slice_set c.loop-place.places i (f n)) here ∙ ap (λ (l : List ℕ). slice_set l i (f (get_or xs i 0))) is ∙ place_moved f xs i 0 lt
    ∙ ap (λ (k : ℕ). map f (take k xs) ++ drop k xs) next
