-- Values of places, those of one option behind those of another.
use Rattle.std.proofs.Common.{ℕ, List, [], ◌∷◌, ◌++◌, inl, inr}
use Rattle.fed_words.specs.Places.{AreGood, AreRefused}
use Rattle.fed_words.specs.declared.places.PlaceFault.{PlaceFault}

pub good_both : (xs ys : List (List ℕ)) → AreGood xs → AreGood ys → AreGood (xs ++ ys)
good_both [] ys p q = q
good_both (x ∷ xs) ys p q = (p.0, good_both xs ys p.1 q)

-- the first that is not taken is one of the first ones
pub refused_first : (xs ys : List (List ℕ)) (fault : PlaceFault) → AreRefused xs fault → AreRefused (xs ++ ys) fault
refused_first [] ys fault p = absurd p
refused_first (x ∷ xs) ys fault (inl p) = inl p
refused_first (x ∷ xs) ys fault (inr p) = inr (p.0, refused_first xs ys fault p.1)

-- or one of those behind them
pub refused_behind : (xs ys : List (List ℕ)) (fault : PlaceFault) → AreGood xs → AreRefused ys fault → AreRefused (xs ++ ys) fault
refused_behind [] ys fault p q = q
refused_behind (x ∷ xs) ys fault p q = inr (p.0, refused_behind xs ys fault p.1 q)
