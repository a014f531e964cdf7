-- How far a rewrite came inside its transaction.
use Rattle.std.proofs.Common.{◌≡◌, ◌<◌, inl, inr, ℕ, ℤ, zero, suc, not, true, false, List, [], ◌∷◌, map, take, length, get_or, slice_get}
use Rattle.std.proofs.Common.{Some, refl, sym, ap, subst, ◌∙◌, arith}
use Rattle.sqlite.specs.Edit.{put_all, are_fresh, without_all}
use Rattle.sqlite.specs.State.{State, IsLive}
use Rattle.sqlite.specs.Held.{Held, state}
use Rattle.sqlite_trees.specs.declared.store.Store.{Ghosts}
use Rattle.fdw_api.specs.declared.interface.Fault.{Fault}
use Rattle.med_value.specs.Prelude.{Tuple}
use Rattle.sqlite_tables.specs.Prelude.{IsSteady, IsCleanAfter, Layout, entries_of}
use Rattle.sqlite_writes.specs.Writable.{IsWritable, IsSureWrite, StepsTo}
use Rattle.sqlite_writes.specs.Rewriting.{rewritten, repeats_key, stored_cells}
use Rattle.sqlite_writes.specs.Failing.{GoesOn, Reaches, FailsToChange}
use Rattle.sqlite_writes.proofs.Changed.{keeps_more, entries_ordered}

-- an element at its place
pub got : {A : Type 0} (xs : List A) (i : ℕ) (x d : A) → i < length xs → x ≡ get_or xs i d → slice_get xs i ≡ Some x
got [] i x d lt is = absurd (omega (arith, lt))
got (y ∷ xs) zero x d lt is = ap Some (sym is)
got (y ∷ xs) (suc i) x d lt is = got xs i x d (omega (arith, lt)) is

pub got_map : {A B : Type 0} (f : A → B) (xs : List A) (i : ℕ) (x d : A) → i < length xs → x ≡ get_or xs i d
    → slice_get (map f xs) i ≡ Some (f x)
got_map f [] i x d lt is = absurd (omega (arith, lt))
got_map f (y ∷ xs) zero x d lt is = ap (λ z. Some (f z)) (sym is)
got_map f (y ∷ xs) (suc i) x d lt is = got_map f xs i x d (omega (arith, lt)) is

pub goes_then : {a b c : State} → GoesOn a b → GoesOn b c → GoesOn a c
goes_then {a} {b} {c} one two =
    let p = one.faults in
    let q = two.faults in
    record { faults = omega (arith, p, q); limit = two.limit ∙ one.limit }

-- the rows of some keys are out and rows are in
pub reached : (old mid : State) (t : Layout) (gone : List ℤ) (fresh : List Tuple) → IsCleanAfter mid → StepsTo old mid t
    → entries_of mid.now t ≡ rewritten t gone fresh (entries_of old.now t) → repeats_key t gone fresh (entries_of old.now t) ≡ false
    → mid.committed ≡ old.committed → GoesOn old mid → Reaches old mid t gone fresh
reached old mid t gone fresh clean steps rows free kept on = record {
  clean = clean;
  inside = steps.inside;
  schema = steps.schema;
  free = free;
  rows = rows;
  others = steps.others;
  kept = kept;
  goes_on = on;
}

pub deleted : (old mid : State) (t : Layout) (gone : List ℤ) → IsCleanAfter mid → StepsTo old mid t
    → entries_of mid.now t ≡ without_all (entries_of old.now t) gone → mid.committed ≡ old.committed → GoesOn old mid
    → Reaches old mid t gone []
deleted old mid t gone clean steps rows kept on = reached old mid t gone [] clean steps rows refl kept on

pub inserted : (old mid : State) (t : Layout) (fresh : List Tuple) → IsCleanAfter mid → StepsTo old mid t
    → entries_of mid.now t ≡ put_all (entries_of old.now t) (map (stored_cells t) fresh)
    → are_fresh (entries_of old.now t) (map (stored_cells t) fresh) ≡ true → mid.committed ≡ old.committed → GoesOn old mid
    → Reaches old mid t [] fresh
inserted old mid t fresh clean steps rows free kept on = reached old mid t [] fresh clean steps rows (ap not free) kept on

-- first the rows of some keys are out, then rows are in
pub reaches_then : (old mid new : State) (t : Layout) (gone : List ℤ) (fresh : List Tuple) → Reaches old mid t gone []
    → Reaches mid new t [] fresh → Reaches old new t gone fresh
reaches_then old mid new t gone fresh one two = record {
  clean = two.clean;
  inside = two.inside;
  schema = two.schema ∙ one.schema;
  free = ap (λ es. not (are_fresh es (map (stored_cells t) fresh))) (sym one.rows) ∙ two.free;
  rows = two.rows ∙ ap (λ es. put_all es (map (stored_cells t) fresh)) one.rows;
  others = keeps_more old.now mid.now new.now t one.schema one.others two.others;
  kept = two.kept ∙ one.kept;
  goes_on = goes_then one.goes_on two.goes_on;
}

-- a call over a store that always returns what was written is sure
pub honest_write : {S : Type 0} (g : Ghosts S) (old new : Held S) (t : Layout) → IsSteady (g.view old.store) → IsSteady (g.view new.store)
    → IsLive (state g old) → ∥ IsWritable old.schema t ∥₁ → IsSureWrite (state g old) (state g new) t
honest_write g old new t before after live writable = record {
  after = record { clean = after.clean; is_open = after.is_open };
  writable = writable;
  ordered = entries_ordered g old t before live writable;
}

-- what was reached since the transaction began was reached since the write began
module _ {S : Type 0} (g : Ghosts S) (t : Layout) (old tx : Held S) (begun : tx ≡ record old { in_transaction = true }) where
  pub from_begun : (mid : State) (gone : List ℤ) (fresh : List Tuple) → Reaches (state g tx) mid t gone fresh
      → Reaches (state g old) mid t gone fresh
  from_begun mid gone fresh r =
      let h = subst (λ (k : Held S). Reaches (state g k) mid t gone fresh) begun r in
      record {
        clean = h.clean;
        inside = h.inside;
        schema = h.schema;
        free = h.free;
        rows = h.rows;
        others = h.others;
        kept = h.kept;
        goes_on = record { faults = h.goes_on.faults; limit = h.goes_on.limit };
      }

  pub change_begun : (new : State) (gone : List ℤ) (fresh : List Tuple) (fault : Fault)
      → FailsToChange g t (state g tx) new gone fresh fault → FailsToChange g t (state g old) new gone fresh fault
  change_begun new gone fresh fault (inl f) = inl (f.0, f.1, f.2, f.3, from_begun (state g f.0) (take f.1 gone) [] f.4, f.5)
  change_begun new gone fresh fault (inr f) = inr (f.0, f.1, f.2, f.3, from_begun (state g f.0) gone (take f.1 fresh) f.4, f.5)
