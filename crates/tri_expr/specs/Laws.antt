-- What the laws of expressions say.
use Rattle.std.specs.Prelude.{◌≡◌, Contains, List}
use Rattle.std.specs.List.Sorted.{IsPermutation}
use Rattle.med_value.specs.Datum.{Tuple}
use Rattle.tri_expr.specs.declared.expr.Fault.{Fault}
use Rattle.tri_expr.specs.Outcome.{Outcome, Is, Fails}
use Rattle.tri_expr.specs.Meaning.{OnClass}
use Rattle.tri_expr.specs.Verdict.{is_in, faults_told}

-- a value, NULL among them, and no fault
abbrev pub HasValue : Outcome → Type 0
HasValue (Is v) = Unit {0}
HasValue (Fails c) = ⊥

-- the same over the rows of a class in any order
abbrev pub IgnoresOrder : OnClass → Type 0
IgnoresOrder f = (c d : List Tuple) → IsPermutation c d → f c ≡ f d

-- both in or both not, and each fault that may be told of the one may be told of the other
pub record SameVerdict (os us : List Outcome) : Type 0 where
  pub within : is_in os ≡ is_in us
  pub told : (c : Fault) → Contains (faults_told os) c → Contains (faults_told us) c
