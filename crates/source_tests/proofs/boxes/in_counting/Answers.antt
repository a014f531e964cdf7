use Rattle.std.proofs.Common.{◌∙◌, ap, subst, sym, []}
use Rattle.fdw_api.specs.State.{BoxState, IsIdle}
use Rattle.source_tests.proofs.Writing.{idle_counted}
use Rattle.source_tests.proofs.boxes.in_counting.Goals as goal

pub returns-clause-idle : goal.returns-clause-idle
returns-clause-idle g c = subst (λ (s : BoxState). IsIdle s) (sym c.new.ensures) (idle_counted (g.W.Wrapper.meaning c.args.inner) 0 c.requires.idle)

pub returns-clause-free : goal.returns-clause-free
returns-clause-free g c = λ columns. ap (λ (s : BoxState). s.nature.kind.objections columns []) c.new.ensures ∙ c.requires.free columns
