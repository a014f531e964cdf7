-- A scan with a wish may begin by the wrapper's own answer, and a lifted wrapper is idle where its inner one is.
use Rattle.std.proofs.Common.{◌≡◌, ℕ, true, List, [], map}
use Rattle.med_value.specs.declared.value.ColType.{ColType}
use Rattle.fdw_api.specs.Prelude.{restriction_form, params_fit, BoxState, IsIdle, lifted, AllowsPromise, CanBegin2, wish_form, spec2_of, is_fair}
use Rattle.fdw_api.specs.declared.wishes.ScanSpec2.{ScanSpec2}

-- one whose restrictions name no parameter
pub wished_begins : (s : BoxState) (t : ℕ) (spec : ScanSpec2) → ((kinds : List ColType) → params_fit kinds (map restriction_form spec.base.offered.items) [] ≡ true) → AllowsPromise s t (spec2_of spec) → is_fair (wish_form spec.wish) spec.base.agreement.answers.items spec.ordered spec.limited ≡ true → CanBegin2 s t spec []
wished_begins s t spec fits a fair = record {
  bound = a.allows.bound;
  is = a.allows.is;
  allowed = a.allows.allowed;
  may = a.may;
  fair = fair;
  typed = fits a.allows.bound.kinds;
}

pub idle_lifted : (s : BoxState) → IsIdle s → IsIdle (lifted s)
idle_lifted s i = record { no_table = i.no_table; no_scan = i.no_scan; no_staging = i.no_staging }
