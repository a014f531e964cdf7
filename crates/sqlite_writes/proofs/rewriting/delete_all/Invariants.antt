use Rattle.std.proofs.Common.{◌≡◌, IsTrue, take, true}
use Rattle.sqlite.specs.Held.{state}
use Rattle.sqlite.specs.View.{IsShaped}
use Rattle.sqlite.specs.Edit.{without_all}
use Rattle.sqlite_trees.specs.declared.store.Shape.TheVariants as shape
use Rattle.sqlite_tables.specs.Prelude.{IsCleanAfter, entries_of}
use Rattle.sqlite_writes.specs.Writable.{IsSureStep, KeepsTables, StepsTo}
use Rattle.sqlite_writes.specs.Failing.{GoesOn}
use Rattle.sqlite_writes.proofs.rewriting.delete_all.Given as goal

abbrev pub invariant-loop-key : goal.invariant-loop-key
invariant-loop-key g l =
    let old = state g.S.Store l.initial.tx.conn.now in
    let now = state g.S.Store l.tx.conn.now in
    record {
      ref : l.tx.conn.ghost_name ≡ l.initial.tx.conn.ghost_name;
      schema : g.S.SourceStore.honest ≡ true → now.now.schema ≡ old.now.schema;
      inside : g.S.SourceStore.honest ≡ true → IsTrue now.in_transaction;
      ordered : g.S.SourceStore.honest ≡ true → IsShaped shape.Table (entries_of now.now l.shape);
      others : g.S.SourceStore.honest ≡ true → KeepsTables old.now now.now l.shape;
      kept : g.S.SourceStore.honest ≡ true → now.committed ≡ old.committed;
      rows : g.S.SourceStore.honest ≡ true → entries_of now.now l.shape ≡ without_all (entries_of old.now l.shape)
          (take l.key-index l.gone);
      was_clean : IsCleanAfter now → IsCleanAfter old;
      goes_on : GoesOn old now;
      sure_steps : IsSureStep old now l.shape → StepsTo old now l.shape;
      sure_kept : IsSureStep old now l.shape → now.committed ≡ old.committed;
      sure_rows : IsSureStep old now l.shape → entries_of now.now l.shape ≡ without_all (entries_of old.now l.shape)
          (take l.key-index l.gone);
    }
