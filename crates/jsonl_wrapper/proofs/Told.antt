-- What is answered, told by the types of a bound table.
use Rattle.std.proofs.Common.{◌≡◌, List, Option, Some, None, IfSome, map, option_map}
use Rattle.fdw_api.specs.Prelude.{RestrictionForm, BoxTable}
use Rattle.fdw_api.specs.declared.scan.Agree.{Agree}
use Rattle.jsonl_wrapper.specs.Formats.{json_form, answer_to}
use Rattle.jsonl_wrapper.specs.declared.table.JsonTable.{JsonTable}

pub told : (o : Option JsonTable) (answers : List Agree) (fs : List RestrictionForm) → IfSome o (λ x. answers ≡ map (json_form.answer x) fs)
    → IfSome (option_map json_form.bound o) (λ (b : BoxTable). answers ≡ map (answer_to b.kinds) fs)
told None answers fs h = h
told (Some x) answers fs h = h
