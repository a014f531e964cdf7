-- Parts of a write that is sure.
use Rattle.std.proofs.Common.{◌≡◌, Result, Ok, Err, OnOk, sym, subst}
use Rattle.std.proofs.Math.Logic.{∥∥₁_map}
use Rattle.sqlite.specs.Effect.{Database}
use Rattle.sqlite.specs.State.{State}
use Rattle.sqlite.specs.View.{IsShaped}
use Rattle.sqlite_trees.specs.declared.store.Shape.TheVariants as shape
use Rattle.sqlite_tables.specs.Prelude.{IsCleanAfter, Layout, IsSure, entries_of}
use Rattle.sqlite_writes.specs.Writable.{IsSureWrite, IsWritable}
use Rattle.sqlite_wrapper.proofs.Giving.{known_by}

-- what it reads first
pub write_first : {a b c : State} {l : Layout} → (IsCleanAfter c → IsCleanAfter b) → IsSureWrite a c l → IsSure a b l
write_first {a} {b} {c} {l} was_clean h = record {
  after = was_clean h.after;
  known = ∥∥₁_map h.writable (known_by a.now.schema l);
  ordered = h.ordered;
}

-- and what it then writes
pub write_then : {a b c : State} {l : Layout} → b.now ≡ a.now → IsSureWrite a c l → IsSureWrite b c l
write_then {a} {b} {c} {l} same h = record {
  after = h.after;
  writable = subst (λ (d : Database). ∥ IsWritable d.schema l ∥₁) (sym same) h.writable;
  ordered = subst (λ (d : Database). IsShaped shape.Table (entries_of d l)) (sym same) h.ordered;
}

-- a write that ends where it has read
pub write_read : {a b : State} {l : Layout} → IsSureWrite a b l → IsSure a b l
write_read {a} {b} {l} h = record { after = h.after; known = ∥∥₁_map h.writable (known_by a.now.schema l); ordered = h.ordered }

-- what holds anyway holds where a call returns no fault
pub on_ok : {T F : Type 0} (r : Result T F) (P : Type 0) → P → OnOk r P
on_ok (Ok x) P p = p
on_ok (Err f) P p = tt
