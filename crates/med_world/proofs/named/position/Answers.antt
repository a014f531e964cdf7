use Rattle.std.proofs.Common.{◌≡◌, map, rules, tests, sym, ◌∙◌}
use Rattle.std.specs.List.{position}
use Rattle.std.proofs.lemmas.Iterator.{YieldsList-from_slice}
use Rattle.std.proofs.lemmas.Iterator.Search.{position_from_yields_List}
use Rattle.med_world.specs.declared.cursors.OpenCursor.{OpenCursor}
use Rattle.med_world.specs.Open.{opened, has_name}
use Rattle.med_world.proofs.Names.{position_mapped, first_there}
use Rattle.med_world.proofs.named.position.Goals as goal

pub returns-clause-place : goal.returns-clause-place
returns-clause-place c =
    let found : c.position.result ≡ position (λ (o : OpenCursor). has_name c.args.name.now (opened o)) c.args.cursors.now =
    position_from_yields_List (λ (o : OpenCursor). has_name c.args.name.now (opened o)) _ _ c.position.result c.position.ensures.ran (YieldsList-from_slice c.args.cursors.now cc) (λ x b q k. search (rules, tests)) in
    found ∙ sym (position_mapped (has_name c.args.name.now) opened c.args.cursors.now)

pub returns-clause-there : goal.returns-clause-there
returns-clause-there c = first_there (has_name c.args.name.now) (map opened c.args.cursors.now) c.position.result (returns-clause-place c)
