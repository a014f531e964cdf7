-- How often a run was asked for a row.
use Rattle.std.proofs.Common.{◌≡◌, ◌∙◌, ℕ, zero, suc, ◌<◌, ◌≤◌, ◌+◌, ◌-◌, ◌^◌, ◌⊎◌, inl, inr, min, true, false, ap, arith}
use Rattle.std.proofs.lemmas.Bool.{cases_lt, leb-true, leb-false}
use Rattle.med_syntax.specs.CursorTree.{CountTree, some_rows, all_rows}
use Rattle.med_world.specs.Fetching.{counted, has_enough, HasRisen}

-- once more
pub counts_on : (first times now after : ℕ) → now ≡ counted first times → after ≡ counted now 1 → after ≡ counted first (times + 1)
counts_on first zero now after e f = f ∙ ap (λ (n : ℕ). min (n + 1) (2 ^ 64 - 1)) e
counts_on first (suc n) now after e f = grind (arith, e, f)

-- then it has risen, and so has it after each of some times
pub risen_by : (before times after : ℕ) → 0 < times → after ≡ counted before times → HasRisen before after
risen_by before times after some e = split (cases_lt (before + times) (2 ^ 64 - 1))
  where
    split : (before + times < 2 ^ 64 - 1) ⊎ (2 ^ 64 - 1 ≤ before + times) → HasRisen before after
    split (inl few) = inl (grind (arith, e, few, some))
    split (inr many) = inr (grind (arith, e, many))

pub risen_on : (first times now after : ℕ) → now ≡ counted first times → after ≡ counted now 1 → HasRisen first after
risen_on first times now after e f = risen_by first (times + 1) after (omega arith) (counts_on first times now after e f)

-- as many as were asked for are some
pub some_given : (asked : CountTree) (given : ℕ) → has_enough asked 0 ≡ false → has_enough asked given ≡ true → 0 < given
some_given all_rows given more all = absurd cc
some_given (some_rows n) given more all =
    let some : 0 < n = leb-false n 0 more in
    let enough : n ≤ given = leb-true n given all in
    omega (arith, some, enough)
