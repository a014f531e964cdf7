use Rattle.std.proofs.Common.{ℕ, ◌≡◌, ◌==◌, drop}
use Rattle.std.specs.List.{list_any}
use Rattle.bind_types.proofs.forms.is_no_key.Given as goal

abbrev pub invariant-loop-key : goal.invariant-loop-key
invariant-loop-key l = list_any (λ (k : ℕ). k == l.place) l.keys ≡ list_any (λ (k : ℕ). k == l.place) (drop l.key-index l.keys)
