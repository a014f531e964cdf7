-- Places of outputs, one after the other, and the types of columns in view.
use Rattle.std.proofs.Common.{◌≡◌, ◌<◌, ◌≤◌, ◌+◌, ◌-◌, ℕ, suc, List, [], ◌∷◌, ◌++◌, ap, arith}
use Rattle.std.specs.List.{range_with_len}
use Rattle.std.proofs.lemmas.List.{map-append}
use Rattle.med_value.specs.Column.{Column}
use Rattle.bind_types.specs.TreeTypes.{column_kinds}

pub range_step : (i n : ℕ) → i < n → range_with_len i (n - i) ≡ i ∷ range_with_len (i + 1) (n - (i + 1))
range_step i n lt = let e : n - i ≡ suc (n - (i + 1)) = omega (arith, lt) in ap (range_with_len i) e

pub range_done : (i n : ℕ) → n ≤ i → range_with_len i (n - i) ≡ []
range_done i n le = let e : n - i ≡ 0 = omega (arith, le) in ap (range_with_len i) e

pub kinds_behind : (xs ys : List Column) → column_kinds (xs ++ ys) ≡ column_kinds xs ++ column_kinds ys
kinds_behind xs ys = map-append (λ (c : Column). c.kind) xs ys
