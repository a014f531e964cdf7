use Rattle.std.proofs.Common.{◌≡◌, IsTrue, take, true, map}
use Rattle.sqlite.specs.Held.{state}
use Rattle.sqlite.specs.View.{IsShaped}
use Rattle.sqlite.specs.Edit.{put_all, are_fresh}
use Rattle.sqlite_trees.specs.declared.store.Shape.TheVariants as shape
use Rattle.med_value.specs.Datum.{tuple}
use Rattle.sqlite_tables.specs.Prelude.{IsCleanAfter, entries_of}
use Rattle.sqlite_writes.specs.Writable.{IsSureStep, KeepsTables, StepsTo}
use Rattle.sqlite_writes.specs.Rewriting.{stored_cells}
use Rattle.sqlite_writes.specs.Failing.{GoesOn}
use Rattle.sqlite_writes.proofs.rewriting.insert_all.Given as goal

abbrev pub invariant-loop-row : goal.invariant-loop-row
invariant-loop-row g l =
    let old = state g.S.Store l.initial.tx.conn.now in
    let now = state g.S.Store l.tx.conn.now in
    record {
      ref : l.tx.conn.ghost_name ≡ l.initial.tx.conn.ghost_name;
      schema : g.S.SourceStore.honest ≡ true → now.now.schema ≡ old.now.schema;
      inside : g.S.SourceStore.honest ≡ true → IsTrue now.in_transaction;
      ordered : g.S.SourceStore.honest ≡ true → IsShaped shape.Table (entries_of now.now l.shape);
      others : g.S.SourceStore.honest ≡ true → KeepsTables old.now now.now l.shape;
      kept : g.S.SourceStore.honest ≡ true → now.committed ≡ old.committed;
      rows : g.S.SourceStore.honest ≡ true →
          entries_of now.now l.shape ≡
          put_all (entries_of old.now l.shape) (map (stored_cells l.shape) (map tuple (take l.row-index l.fresh)));
      free : g.S.SourceStore.honest ≡ true →
          are_fresh (entries_of old.now l.shape) (map (stored_cells l.shape) (map tuple (take l.row-index l.fresh))) ≡ true;
      was_clean : IsCleanAfter now → IsCleanAfter old;
      goes_on : GoesOn old now;
      sure_steps : IsSureStep old now l.shape → StepsTo old now l.shape;
      sure_kept : IsSureStep old now l.shape → now.committed ≡ old.committed;
      sure_rows : IsSureStep old now l.shape →
          entries_of now.now l.shape ≡
          put_all (entries_of old.now l.shape) (map (stored_cells l.shape) (map tuple (take l.row-index l.fresh)));
      sure_free : IsSureStep old now l.shape →
          are_fresh (entries_of old.now l.shape) (map (stored_cells l.shape) (map tuple (take l.row-index l.fresh))) ≡ true;
    }
