-- Why a write fails, from what its calls say of their failures.
use Rattle.std.proofs.Common.{
  ◌≡◌,
  ◌≢◌,
  ◌∙◌,
  ◌⊎◌,
  inl,
  inr,
  ℤ,
  pos,
  Bool,
  true,
  List,
  None,
  Option,
  Some,
  IfSome,
  option_map,
  Result,
  Ok,
  Err,
  IfErr,
  refl,
  sym,
  subst,
}
use Rattle.sqlite.specs.Effect.{Database}
use Rattle.sqlite.specs.Held.{Held, state}
use Rattle.sqlite.specs.State.{State}
use Rattle.sqlite_trees.specs.declared.store.Store.{Ghosts}
use Rattle.med_value.specs.Datum.{Tuple}
use Rattle.med_value.specs.declared.cause.Cause.{Cause}
use Rattle.med_value.specs.declared.cause.Cause.TheVariants.{TableNotFound}
use Rattle.fdw_api.specs.declared.interface.Fault.{Fault}
use Rattle.fdw_api.specs.declared.interface.Fault.TheVariants.{NoMemory, Source, Refused}
use Rattle.sqlite_tables.specs.Prelude.{
  FailsToCount,
  IsCleanAfter,
  IsKnown,
  IsReportedPage,
  IsSure,
  IsUnfit,
  Layout,
  OnlyBy,
  ReadsOnly,
  entries_of,
  tree_found,
}
use Rattle.sqlite_tables.proofs.Settled.{reads_none, reads_then, sure_same, sure_then}
use Rattle.sqlite_writes.specs.Failing.{FailsToRewrite}
use Rattle.sqlite_wrapper.specs.Failing.{FailsToFind}

module _ {S : Type 0} (g : Ghosts S) (honest : Bool) (l : Layout) (old new : Held S) where
  -- what is not known of an error that was reported of the first page is that the table is not there
  abbrev Finds : Fault → Type 0
  Finds f = (f ≡ Refused TableNotFound) ⊎ IsReportedPage l (pos 1) (pos 0) (state g old) (state g new) f

  at_page : (f : Fault) → IsReportedPage l (pos 1) (pos 0) (state g old) (state g new) f
      → FailsToFind g honest l (state g old) (state g new) f
  at_page f h = inl (inl (old, pos 1, pos 0, reads_none (state g old) l, h))

  -- a table is not found, out of memory
  pub find_memory : (f : Fault) → f ≡ NoMemory → Finds f → FailsToFind g honest l (state g old) (state g new) NoMemory
  find_memory f is (inl h) = absurd (let e = sym is ∙ h in cc)
  find_memory f is (inr h) = subst (FailsToFind g honest l (state g old) (state g new)) is (at_page f h)

  -- or otherwise
  pub find_source : (f : Fault) → f ≢ NoMemory → Finds f
      → OnlyBy (λ c. (c ≡ TableNotFound) × (honest ≡ true → tree_found (state g old).now.schema l ≡ None)) f
      → OnlyBy (λ c. IsCleanAfter (state g new) → ∥ IsKnown (state g old).now.schema l ∥₁ → tree_found (state g old).now.schema l ≡ None) f
      → FailsToFind g honest l (state g old) (state g new) Source
  find_source NoMemory not h by sure = absurd (not refl)
  find_source Source not (inl h) by sure = absurd (cc)
  find_source Source not (inr h) by sure = at_page Source h
  find_source (Refused c) not h by sure = inr (refl, by.1, λ k. sure k.after k.known)

  -- its rows are not counted, after it was found
  pub count_fails : (mid : State) (f : Fault) → ReadsOnly (state g old) mid l → ReadsOnly mid (state g new) l
      → (honest ≡ true → mid.now ≡ (state g old).now)
      → FailsToCount g honest l mid (state g new) f → FailsToFind g honest l (state g old) (state g new) f
  count_fails mid f first next same (inl h) = inl (inl (h.0, h.1, h.2, reads_then first h.3, h.4))
  count_fails mid f first next same (inr h) = inl (inr (
    h.0,
    (λ yes. subst (λ (d : Database). IsUnfit l (entries_of d l)) (same yes) (h.1 yes)),
    λ sure. subst (λ (d : Database). IsUnfit l (entries_of d l)) (sure_same first next sure) (h.2 (sure_then first next sure)),
  ))

  -- the same where it does
  pub counts_or_fails : {T : Type 0} (r : Result T Fault) (mid : State) → ReadsOnly (state g old) mid l → ReadsOnly mid (state g new) l
      → (honest ≡ true → mid.now ≡ (state g old).now) → IfErr r (FailsToCount g honest l mid (state g new))
      → IfErr r (FailsToFind g honest l (state g old) (state g new))
  counts_or_fails (Ok x) mid first next same h = tt
  counts_or_fails (Err f) mid first next same h = count_fails mid f first next same h

-- a rewrite of the same keys and rows fails as it does
pub rewrite_same : {S : Type 0} (g : Ghosts S) (l : Layout) (old new : State) (fault : Fault) (a b : List ℤ) (c d : List Tuple) → a ≡ b
    → c ≡ d
    → FailsToRewrite g l a c old new fault → FailsToRewrite g l b d old new fault
rewrite_same g l old new fault a b c d e f h =
    subst (λ (gone : List ℤ). FailsToRewrite g l gone d old new fault) e
    (subst (λ (fresh : List Tuple). FailsToRewrite g l a fresh old new fault) f h)

-- what is said of a write holds of the one that is there
pub of_write : {X Y : Type 0} (o : Option X) (f : X → Y) (x : X) (P : Y → Type 0) → o ≡ Some x → P (f x) → IfSome (option_map f o) P
of_write {X} o f x P is h = subst (λ (z : Option X). IfSome (option_map f z) P) (sym is) h
