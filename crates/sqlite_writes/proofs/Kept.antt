-- A statement inside a transaction leaves the last commit alone.
use Rattle.std.proofs.Common.{◌≡◌, ◌≤◌, ◌⊎◌, inl, inr, ℕ, Bool, true, false, List, Ok, Err, Result, IsTrue, refl, sym, subst, ◌∙◌, arith}
use Rattle.sqlite_trees.specs.View.{doubt}
use Rattle.sqlite_tables.specs.Steady.{IsCleanAfter}
use Rattle.sqlite.specs.Order.{Row}
use Rattle.sqlite.specs.declared.error.Error.{Error}
use Rattle.sqlite.specs.Steps.{FailsToCommit}
use Rattle.sqlite.specs.State.{State, ExecutesInside, IsUnchanged, IsRolledBack}

unchanged_kept : (old new : State) → IsUnchanged old new ⊎ IsRolledBack old new → IsTrue new.is_open → new.committed ≡ old.committed
unchanged_kept old new (inl h) up = h.0.committed_is
unchanged_kept old new (inr h) up = (h.undone up).1

pub inside_kept : (sql : List ℕ) (params : Row) (old new : State) (r : Result ℕ Error) → ExecutesInside 0 sql params old new r
    → IsTrue new.is_open → new.committed ≡ old.committed
inside_kept sql params old new (Ok count) h up = h.1.committed_is
inside_kept sql params old new (Err e) (inl h) up = unchanged_kept old new h.1 up
inside_kept sql params old new (Err e) (inr h) up = unchanged_kept old new (inl h.2) up

unchanged_open : (old new : State) → IsUnchanged old new ⊎ IsRolledBack old new → IsTrue new.is_open → IsTrue old.is_open
unchanged_open old new (inl h) up = h.0.was_open
unchanged_open old new (inr h) up = h.was_open up

-- a connection that is open after a statement was open before it
pub inside_open : (sql : List ℕ) (params : Row) (old new : State) (r : Result ℕ Error) → ExecutesInside 0 sql params old new r
    → IsTrue new.is_open → IsTrue old.is_open
inside_open sql params old new (Ok count) h up = h.1.was_open
inside_open sql params old new (Err e) (inl h) up = unchanged_open old new h.1 up
inside_open sql params old new (Err e) (inr h) up = h.2.0.was_open

-- and one that is open after a COMMIT that failed
pub commit_open : (old new : State) (e : Error) → FailsToCommit old new e → IsTrue new.is_open → IsTrue old.is_open
commit_open old new e (inl h) up = h.3.was_open up
commit_open old new e (inr h) up = h.2.0.was_open

pub clean_before : (old new : State) → doubt old.is_clean ≤ doubt new.is_clean → (IsTrue new.is_open → IsTrue old.is_open)
    → IsCleanAfter new → IsCleanAfter old
clean_before old new least was_open after = record {
  clean = let clean = after.clean in omega (arith, least, clean);
  is_open =
      was_open after.is_open;
}

-- a statement inside a transaction, or after its end, where none is run
pub step_clean : (old new : State) → doubt old.is_clean ≤ doubt new.is_clean → (IsTrue old.in_transaction → IsTrue new.is_open
    → IsTrue old.is_open)
    → (old.in_transaction ≡ false → new.is_open ≡ old.is_open) → IsCleanAfter new → IsCleanAfter old
step_clean old new least inside ended after = clean_before old new least (go old.in_transaction refl) after
  where
    go : (b : Bool) → old.in_transaction ≡ b → IsTrue new.is_open → IsTrue old.is_open
    go true e up = inside e up
    go false e up = subst (λ (b : Bool). IsTrue b) (ended e) up

-- a COMMIT that failed undoes its transaction
pub commit_undone : (old new : State) (e : Error) → FailsToCommit old new e → IsTrue old.in_transaction → IsTrue new.is_open
    → new.now ≡ old.committed
commit_undone old new e (inl h) inside up = (h.3.undone up).0
commit_undone old new e (inr h) inside up = absurd (let e = sym h.1 ∙ inside in cc)
