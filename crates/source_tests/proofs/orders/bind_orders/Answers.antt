use Rattle.std.proofs.Common.{◌≡◌, ◌∙◌, ◌∷◌, [], List, map, ap}
use Rattle.med_value.specs.declared.value.ColType.TheVariants.{Int}
use Rattle.med_value.specs.declared.value.ColumnDef.{ColumnDef}
use Rattle.fdw_api.specs.Kinds.{column_of, kinds_of}
use Rattle.probe_wrapper.proofs.CountingLemmas.{if_ok}
use Rattle.source_tests.proofs.CallLemmas.{idle_can_bind, bound_can_modify, bound_kinds}
use Rattle.source_tests.proofs.orders.bind_orders.Goals as goal

pub bind-requires : goal.bind-requires
bind-requires g c = idle_can_bind _ _ _ _ c.requires.idle (c.requires.free _)

pub returns-clause-modify : goal.returns-clause-modify
returns-clause-modify g c = if_ok _ _ c.bind.result (λ t b. bound_can_modify _ _ _ _ _ _ c.requires.idle b) c.bind.ensures.ok

pub returns-clause-kinds : goal.returns-clause-kinds
returns-clause-kinds g c =
    let three : kinds_of (map column_of c.deref.result.now) ≡ Int ∷ Int ∷ Int ∷ [] = ap (λ (l : List ColumnDef). kinds_of (map column_of l)) c.deref.ensures.value ∙ c.in_ok-columns.ensures in
    if_ok _ _ c.bind.result (λ t b. bound_kinds _ _ _ _ _ (Int ∷ Int ∷ Int ∷ []) _ b three) c.bind.ensures.ok
