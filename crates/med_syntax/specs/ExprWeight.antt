-- How high an expression can be, by its terminals, and reading with room for it.
use Rattle.std.specs.Prelude.{ℕ, suc, Bool, true, false, cond, nat_le, List, [], ◌∷◌, Result, Ok, Err}
use Rattle.med_value.specs.Limits.{height_limit}
use Rattle.med_syntax.specs.Terminal.{Terminal}
use Rattle.med_syntax.specs.Terminal as t
use Rattle.med_syntax.specs.declared.refusal.Refusal.{Refusal}
use Rattle.med_syntax.specs.declared.refusal.Refusal.TheVariants.{Syntax, TooHigh}
use Rattle.med_syntax.specs.ExprTree.{ExprTree}
use Rattle.med_syntax.specs.ExprReading.{all_of}

-- the terminals with which an expression can get deeper without bound
abbrev pub is_heavy : Terminal → Bool
is_heavy t.LeftParen = true
is_heavy (t.Binary op) = true
is_heavy t.Not = true
is_heavy _ = false

abbrev pub weight : List Terminal → ℕ
weight [] = 0
weight (u ∷ us) = cond (is_heavy u) (suc (weight us)) (weight us)

-- what was found with room for any tree of few heavy terminals, where there was none with room 64
abbrev pub again : {X : Type 0} → Result X Refusal → Result X Refusal
again (Ok e) = Err TooHigh
again (Err f) = Err Syntax

abbrev pub judged : {X : Type 0} → Bool → Result X Refusal → Result X Refusal → Result X Refusal
judged few (Err TooHigh) wide = cond few (again wide) (Err TooHigh)
judged few (Err Syntax) wide = Err Syntax
judged few (Ok e) wide = Ok e

-- What a reader gives with room for 64 levels; with few heavy terminals, room for any tree that they can have: then no room left means no
-- tree.
abbrev pub bounded : {X : Type 0} → (ℕ → List Terminal → Result X Refusal) → List Terminal → Result X Refusal
bounded read ts = judged (nat_le (weight ts) height_limit) (read height_limit ts) (read 455 ts)

unfoldable pub bounded_of : List Terminal → Result ExprTree Refusal
bounded_of ts = bounded all_of ts
