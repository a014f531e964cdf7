use Rattle.std.proofs.Common.{List, map, not, ap, sym, ◌∙◌, subst}
use Rattle.std.specs.List.{position}
use Rattle.med_world.specs.declared.cursors.OpenCursor.{OpenCursor}
use Rattle.med_world.specs.Open.{opened, has_name, AreNamedApart}
use Rattle.med_world.proofs.Names.{taken_named, none_named, still_apart}
use Rattle.med_world.proofs.named.take.Goals as goal

pub returns-in-Some-clause-left : goal.returns-in-Some-clause-left
returns-in-Some-clause-left c =
    let there = ap (λ (cs : List OpenCursor). position (has_name c.args.name.now) (map opened cs)) c.as_slice.ensures.value in
    taken_named c.args.name.now c.args.cursors.now.items c.remove.new.self.items c.in-Some.place (c.in-Some.ensures.place ∙ there) c.remove.ensures.items c.requires

pub returns-in-Some-clause-apart : goal.returns-in-Some-clause-apart
returns-in-Some-clause-apart c = subst AreNamedApart (sym (returns-in-Some-clause-left c)) (still_apart (λ o. not (has_name c.args.name.now o)) (map opened c.args.cursors.now.items) c.requires)

pub returns-in-None-clause-left : goal.returns-in-None-clause-left
returns-in-None-clause-left c =
    let there = ap (λ (cs : List OpenCursor). position (has_name c.args.name.now) (map opened cs)) c.as_slice.ensures.value in
    sym (none_named c.args.name.now (map opened c.args.cursors.now.items) (sym (c.in-None.ensures.place ∙ there)) c.requires)
