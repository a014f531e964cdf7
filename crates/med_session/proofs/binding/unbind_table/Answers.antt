use Rattle.std.proofs.Common.{ap, sym, ◌∙◌, Some, subst}
use Rattle.std.proofs.lemmas.Option.{slice_get-get_or, same_Some}
use Rattle.fdw_api.specs.Calls.{Unbinds}
use Rattle.med_exec.specs.Slots.{states, ChangesAt}
use Rattle.med_session.proofs.binding.unbind_table.Goals as goal

pub unbind_at-requires : goal.unbind_at-requires
unbind_at-requires g c = c.requires.unbinds c.remove-table.result (slice_get-get_or c.args.bound.now.items c.args.place c.remove-table.result c.requires.within ∙ ap Some (sym c.remove-table.ensures.value))

pub returns-clause-unbound : goal.returns-clause-unbound
returns-clause-unbound g c t at =
    let here = slice_get-get_or c.args.bound.now.items c.args.place c.remove-table.result c.requires.within ∙ ap Some (sym c.remove-table.ensures.value) in
    subst (λ x. ChangesAt (states g.W.Wrapper.meaning c.args.slots.now.items) x.source (λ old new. Unbinds old x.number.number new) (states g.W.Wrapper.meaning c.unbind_at.new.slots.items))
    (same_Some c.remove-table.result t (sym here ∙ at)) c.unbind_at.ensures
