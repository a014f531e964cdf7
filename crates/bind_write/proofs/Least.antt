-- The phase of what is told.
use Rattle.std.proofs.Common.{◌≡◌, ◌≤◌, ◌⊎◌, inl, inr, arith}
use Rattle.med_value.specs.declared.cause.Cause.{Cause}
use Rattle.med_value.specs.declared.cause.Cause.TheVariants.{OutOfMemory}
use Rattle.med_syntax.specs.Prelude.{Name, WriteTree}
use Rattle.med_catalog.specs.Prelude.{phase, Objects}
use Rattle.bind_write.specs.Naming.{WriteNames}
use Rattle.bind_write.specs.Typing.{WriteTypes}
use Rattle.bind_write.proofs.Phases.{names, types}
use Rattle.bind_write.specs.Binding.{IsLeast, NotBound}

least_name : (o : Objects) (user : Name) (t : WriteTree) (c d : Cause) → WriteNames o user t c → WriteNames o user t d ⊎ WriteTypes o t d → phase c ≤ phase d
least_name o user t c d h (inl i) = omega (arith, names o user t c h, names o user t d i)
least_name o user t c d h (inr i) = omega (arith, names o user t c h, types o t d i)

least_type : (o : Objects) (user : Name) (t : WriteTree) (c d : Cause) → WriteTypes o t c → ((e : Cause) → WriteNames o user t e → ⊥) → WriteNames o user t d ⊎ WriteTypes o t d → phase c ≤ phase d
least_type o user t c d h clear (inl i) = absurd (clear d i)
least_type o user t c d h clear (inr i) = omega (arith, types o t c h, types o t d i)

pub least_told : (o : Objects) (user : Name) (t : WriteTree) (c : Cause) → NotBound o user t c → (c ≡ OutOfMemory) ⊎ IsLeast o user t c
least_told o user t c (inl e) = inl e
least_told o user t c (inr (inl h)) = inr (record { stands = inl h; least = λ d i. least_name o user t c d h i })
least_told o user t c (inr (inr (h, clear))) = inr (record { stands = inr h; least = λ d i. least_type o user t c d h clear i })
