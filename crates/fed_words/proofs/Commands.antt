-- What a command is made of.
use Rattle.std.proofs.Common.{◌≡◌, ◌&&◌, Bool, true, false, not, refl}

-- the third of four that all hold
pub third_is_not : (a b c d : Bool) → (a && (b && (not c && d))) ≡ true → c ≡ false
third_is_not true true false d e = refl
third_is_not true true true d e = absurd cc
third_is_not true false c d e = absurd cc
third_is_not false b c d e = absurd cc
