use Rattle.std.proofs.Common.{◌≡◌, replicate}
use Rattle.wrapper_parts.specs.declared.fates.Fate.TheVariants.{Keep}
use Rattle.wrapper_parts.proofs.fates.keep_all.Given as goal

abbrev pub invariant-loop : goal.invariant-loop
invariant-loop g l = l.fates.items ≡ replicate l.counter Keep
