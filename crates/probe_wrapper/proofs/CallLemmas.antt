-- How the calls of a wrapper go together.
use Rattle.std.proofs.Common.{◌≡◌, ℕ, Option, Some, IsSome, refl, ap, sym, ◌∙◌, subst, rules}
use Rattle.std.specs.Ordering.{nat_cmp}
use Rattle.std.specs.FinMap as finmap
use Rattle.std.specs.FinMap.{gets}
use Rattle.med_value.specs.Datum.{Tuple}
use Rattle.fdw_api.specs.Prelude.{Spec, BoxState, scan_of, Begins, IsOpen, CanRescan}

put_same : {X : Type 0} (m : finmap.FinMap nat_cmp X) (k : ℕ) (v : X) → finmap.get (finmap.insert m k v) k ≡ Some v
put_same m k v = grind (gets, rules)

some_is : {X : Type 0} (o : Option X) (x : X) → o ≡ Some x → IsSome o
some_is o x e = subst IsSome (sym e) refl

-- a scan that was just begun is open
pub begun_is_open : (old new : BoxState) (t : ℕ) (spec : Spec) (params : Tuple) (n : ℕ) → Begins old t spec params n new → IsOpen new n
begun_is_open old new t spec params n b = (_, ap (λ z. finmap.get z.live n) b.ledger ∙ put_same old.ledger.live n _, refl)

-- an open scan is live
pub open_is_live : (s : BoxState) (n : ℕ) → IsOpen s n → IsSome (scan_of s n)
open_is_live s n is_open = some_is _ _ is_open.1

-- an open scan may begin again where a scan of its table may begin
pub rescan_is_open : (s : BoxState) (n : ℕ) (params : Tuple) → CanRescan s n params → IsOpen s n
rescan_is_open s n params c = (c.scan, c.at, c.whole)
