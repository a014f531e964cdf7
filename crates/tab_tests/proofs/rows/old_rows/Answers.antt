use Rattle.std.proofs.Common.{◌≡◌, ◌∙◌, ap, map, rules}
use Rattle.std.proofs.lemmas.List.{nil_from_length}
use Rattle.med_value.specs.Datum.{tuple}
use Rattle.wrapper_parts.proofs.Weaves.{fates_end}
use Rattle.tab_tests.specs.Kept.{left_by}
use Rattle.tab_tests.proofs.rows.old_rows.Goals as goal

pub returns : goal.returns
returns c =
    let none = nil_from_length c.loop-fate.fate-iterator.rest.items (search rules) in
    let start : c.into_iter-fate-iterator.result.rest.items ≡ c.args.fates.items = search rules in
    fates_end tuple _ _ _ c.loop-fate.fate-iterator.rest.items c.loop-fate.invariant none ∙ ap (λ fs. left_by fs (map tuple c.args.rows.now)) start
