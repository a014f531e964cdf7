use Rattle.std.proofs.Common.{refl, rules}
use Rattle.sqlite_writes.proofs.Named.{none_named}
use Rattle.sqlite_wrapper.proofs.Counted.{none_counts, none_few}
use Rattle.sqlite_wrapper.proofs.Kept.{some_there}
use Rattle.sqlite_wrapper.proofs.LiveScans.{none_is}
use Rattle.sqlite.specs.Held.{state}
use Rattle.sqlite_wrapper.proofs.NewSources.{new_source}
use Rattle.sqlite_wrapper.proofs.wrapper.SqliteWrapper.new.Goals as goal

pub returns-clause-new : goal.returns-clause-new
returns-clause-new g c = new_source g.S.SourceStore.honest (state g.S.Store c.args.conn).now c.in_ok-bound.bound.items c.new.result
    (search rules) (λ q. search rules)

pub invariant_of-result : goal.invariant_of-result
invariant_of-result g c = record {
  shaped = c.in_ok-shapes.ensures;
  counted = search rules;
  idle = c.requires.idle;
  writable = c.requires.writable;
  apart = c.requires.apart;
  named = none_named;
  there = λ h. refl;
  typed_write = refl;
  counts = λ h. none_counts (state g.S.Store c.args.conn).now c.in_ok-row_counts.row_counts.items (λ q. search rules);
  few = none_few c.in_ok-row_counts.row_counts.items (λ q. search rules);
  allowed = λ k s e. absurd (none_is _ (search rules) (some_there _ _ e));
  fresh = λ k le. search rules;
  looked = λ h k s e. absurd (none_is _ (search rules) (some_there _ _ e));
}
