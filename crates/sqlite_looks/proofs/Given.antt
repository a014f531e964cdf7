-- What a look at a compiled text says of the text.
use Rattle.std.proofs.Common.{◌≡◌, ◌≢◌, Bool, false, Ok, Err, Result, IfOk, sym, ap, ◌∙◌}
use Rattle.sqlite.specs.Command.{Command}
use Rattle.sqlite_resolve.specs.Lowering.{Gives}
use Rattle.sqlite_resolve.specs.declared.compiled.Compiled.{Compiled}
use Rattle.sqlite_resolve.specs.declared.error.CompileError.{CompileError}
use Rattle.sqlite_resolve.specs.declared.error.CompileError.TheVariants.{OutOfMemory}
use Rattle.sqlite_looks.specs.Looks.{passes}

module _ {E : Type 0} (test : Command → Bool) (o : Result Compiled CompileError) where
  pub looked : (c : Compiled) (r : Result Bool E) → Gives o (Ok c) → IfOk r (λ is. is ≡ passes test (Ok c))
      → IfOk r (λ is. is ≡ passes test o)
  looked c (Ok is) e h = h ∙ sym (ap (passes test) e)
  looked c (Err x) e h = tt

  pub unread : (e : CompileError) (r : Result Bool E) → Gives o (Err e) → IfOk r (λ is. (is ≡ false) × (e ≢ OutOfMemory))
      → IfOk r (λ is. is ≡ passes test o)
  unread e (Ok is) g h = h.0 ∙ sym (ap (passes test) (g h.1))
  unread e (Err x) g h = tt
