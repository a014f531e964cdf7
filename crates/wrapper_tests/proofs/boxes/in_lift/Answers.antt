use Rattle.std.proofs.Common.{ap, subst, sym, ◌∙◌, []}
use Rattle.fdw_api.specs.Prelude.{BoxState, IsIdle, lifted}
use Rattle.wrapper_tests.proofs.Wished.{idle_lifted}
use Rattle.wrapper_tests.proofs.boxes.in_lift.Goals as goal

pub returns-clause-idle : goal.returns-clause-idle
returns-clause-idle g c = subst (λ (s : BoxState). IsIdle s) (sym (ap (λ w. lifted (g.W.Wrapper.meaning w)) c.new.ensures)) (idle_lifted (g.W.Wrapper.meaning c.args.inner) c.requires.idle)

pub returns-clause-free : goal.returns-clause-free
returns-clause-free g c = λ columns. ap (λ w. (g.W.Wrapper.meaning w).nature.kind.objections columns []) c.new.ensures ∙ c.requires.free columns
