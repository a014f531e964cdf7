-- Things added one after the other.
use Rattle.std.proofs.Common.{◌≡◌, List, [], ◌++◌, ap, ◌∙◌, append_assoc, append-nil}

-- these behind those
pub added_after : {X : Type 0} (all old new more rest : List X) → old ++ (more ++ rest) ≡ all → new ≡ old ++ more → new ++ rest ≡ all
added_after all old new more rest e h = ap (λ xs. xs ++ rest) h ∙ append_assoc old more rest ∙ e

pub added_end : {X : Type 0} (xs : List X) → xs ++ [] ≡ xs
added_end xs = append-nil xs
