use Rattle.std.proofs.Common.{refl}
use Rattle.wrapper_tests.proofs.CallLemmas.{idle_can_bind}
use Rattle.wrapper_tests.proofs.refusals.refusal.Goals as goal

pub bind-requires : goal.bind-requires
bind-requires c = idle_can_bind _ _ _ _ c.in_ok-source.ensures.idle refl
