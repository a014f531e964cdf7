-- What a write leaves that was refused for want of memory.
use Rattle.std.proofs.Common.{◌≡◌, ℕ, List, [], Option, Some, None, Err, refl, sym, ap, ◌∙◌, arith}
use Rattle.std.proofs.lemmas.List.{append-nil}
use Rattle.blob_store.specs.Drives.{Drive, Entry, Writes, IsRegularFile}
use Rattle.blob_store.specs.declared.disk.DiskFault.TheVariants.{NoMemory}

module _ {T : Type 0} (old new : Drive) (path bytes : List ℕ) (at : new.at ≡ old.at) (held : new.held ≡ old.held) (locked : new.locked ≡ old.locked) (making : new.making ≡ old.making) (faults : new.faults ≡ old.faults) where
  by_entry : (entry : Option Entry) → old.at path ≡ entry → IsRegularFile entry → Writes {T = T} old new path bytes (Err NoMemory)
  by_entry None is file = elim file [ ]
  by_entry (Some was) is file = record {
    was = was;
    now = was;
    front = [];
    there = is;
    puts = record { there = ap (λ f. f path) at ∙ is; others = λ other ne. ap (λ f. f other) at };
    content = sym (append-nil was.bytes);
    kind = refl;
    mode = refl;
    whole = tt;
    held = held;
    locked = locked;
    making = making;
    faults = omega (arith, faults);
  }

  pub refused_write : IsRegularFile (old.at path) → Writes {T = T} old new path bytes (Err NoMemory)
  refused_write file = by_entry (old.at path) refl file
