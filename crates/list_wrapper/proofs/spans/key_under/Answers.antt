use Rattle.std.proofs.Common.{map, ap, sym, ◌∙◌, w64}
use Rattle.std.proofs.lemmas.Int.{to_z-of_z}
use Rattle.med_value.specs.Datum.{cell, datum, tuple}
use Rattle.med_value.specs.declared.value.Row.{Row}
use Rattle.wrapper_parts.specs.Halves.{is_under}
use Rattle.list_wrapper.proofs.RisingLists.{key_read}
use Rattle.list_wrapper.proofs.spans.key_under.Goals as goal

pub returns : goal.returns
returns c =
    rw (to_z-of_z w64 c.args.key c.ranges.key) at c.is_under.ensures
    ∙ ap (is_under c.args.key) (c.value_at.ensures ∙ ap (λ l. cell (map datum l) 0) c.deref.ensures.value
    ∙ ap (λ (r : Row). cell (tuple r) 0) c.at.ensures ∙ sym (key_read c.args.at c.args.rows.now.items c.at.result.now c.requires))
