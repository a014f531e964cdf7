-- A box in a list changes, and the list of states with it.
pub use Rattle.scan_loops.proofs.SlotLemmas.{changes_at, read_at, held_at, not_dropped, ok_changes, err_changes, ok_at}
