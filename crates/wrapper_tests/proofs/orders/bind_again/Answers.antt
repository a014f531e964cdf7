use Rattle.std.proofs.Common.{◌∙◌, [], ap}
use Rattle.fdw_api.specs.State.{Nature}
use Rattle.wrapper_tests.proofs.CallLemmas.{idle_can_bind, bound_can_unbind, unbound_is_idle}
use Rattle.wrapper_tests.proofs.orders.bind_again.Goals as goal

pub bind-requires : goal.bind-requires
bind-requires g c = idle_can_bind _ _ _ _ c.requires.idle (c.requires.free _)

pub unbind-requires : goal.unbind-requires
unbind-requires g c = bound_can_unbind _ _ _ _ _ _ c.requires.idle c.in_ok-unused.ensures.ok

pub bind_orders-requires-clause-idle : goal.bind_orders-requires-clause-idle
bind_orders-requires-clause-idle g c = unbound_is_idle _ _ _ _ _ _ _ c.requires.idle c.in_ok-unused.ensures.ok c.unbind.ensures

pub bind_orders-requires-clause-free : goal.bind_orders-requires-clause-free
bind_orders-requires-clause-free g c =
    λ columns. ap (λ (n : Nature). n.kind.objections columns []) (c.unbind.ensures.nature ∙ c.in_ok-unused.ensures.ok.nature) ∙ c.requires.free columns
