use Rattle.list_wrapper.specs.Scans.{rows_at, ScanFits}
use Rattle.list_wrapper.proofs.Calls.{open_there, at_some, if_some, some_if, keeps_fresh, keeps_fitting, list_gives, list_gives_none, list_breaks}
use Rattle.list_wrapper.proofs.list.ListWrapperWrapper.iterate.Goals as goal

pub row_of_scan-requires-clause-live : goal.row_of_scan-requires-clause-live
row_of_scan-requires-clause-live c =
    let s = c.args.self.now in
    let number = c.args.ticket.now.number in
    let is = open_there s.tables.items s.bound.items s.scans s.staged s.next s.pulled number _ c.requires.1 in
    is

pub spoil-requires : goal.spoil-requires
spoil-requires c =
    let s = c.args.self.now in
    let number = c.args.ticket.now.number in
    let is = open_there s.tables.items s.bound.items s.scans s.staged s.next s.pulled number _ c.requires.1 in
    is

pub advance-requires : goal.advance-requires
advance-requires c =
    let s = c.args.self.now in
    let number = c.args.ticket.now.number in
    let is = open_there s.tables.items s.bound.items s.scans s.staged s.next s.pulled number _ c.requires.1 in
    is

pub row_of_scan-requires-clause-fits : goal.row_of_scan-requires-clause-fits
row_of_scan-requires-clause-fits c =
    let s = c.args.self.now in
    let number = c.args.ticket.now.number in
    let is = open_there s.tables.items s.bound.items s.scans s.staged s.next s.pulled number _ c.requires.1 in
    let w = at_some _ is in
    some_if _ (λ z. ScanFits (rows_at s.tables.items z.table) z) w.0 w.1 (s.fitting number w.0 w.1)

pub invariant_of-self : goal.invariant_of-self
invariant_of-self c =
    let s = c.args.self.now in
    let number = c.args.ticket.now.number in
    let is = open_there s.tables.items s.bound.items s.scans s.staged s.next s.pulled number _ c.requires.1 in
    let w = at_some _ is in
    record {
      marked = s.marked;
      noted = s.noted;
      rises = s.rises;
      distinct = s.distinct;
      typed = s.typed;
      fitting = keeps_fitting s.tables.items s.scans c.spoil.new.scans number _ s.fitting (s.fitting number w.0 w.1) (if_some _ _ w.0 w.1 c.spoil.ensures);
      typed_write = s.typed_write;
      fresh = keeps_fresh s.scans c.spoil.new.scans number s.next _ s.fresh is (if_some _ _ w.0 w.1 c.spoil.ensures);
    }

pub invariant_of-self-in-Ok-Some : goal.invariant_of-self-in-Ok-Some
invariant_of-self-in-Ok-Some c =
    let s = c.args.self.now in
    let number = c.args.ticket.now.number in
    let is = open_there s.tables.items s.bound.items s.scans s.staged s.next s.pulled number _ c.requires.1 in
    let w = at_some _ is in
    record {
      marked = s.marked;
      noted = s.noted;
      rises = s.rises;
      distinct = s.distinct;
      typed = s.typed;
      fitting = keeps_fitting s.tables.items s.scans c.advance.new.scans number _ s.fitting ((s.fitting number w.0 w.1).0, if_some _ _ w.0 w.1 (rw c.in-Ok-Some.field-0-is at c.in-Ok-Some.ensures.on), (s.fitting number w.0 w.1).2) (if_some _ _ w.0 w.1 c.advance.ensures);
      typed_write = s.typed_write;
      fresh = keeps_fresh s.scans c.advance.new.scans number s.next _ s.fresh is (if_some _ _ w.0 w.1 c.advance.ensures);
    }

pub returns-in-Err-clause-err : goal.returns-in-Err-clause-err
returns-in-Err-clause-err c =
    let s = c.args.self.now in
    let number = c.args.ticket.now.number in
    let is = open_there s.tables.items s.bound.items s.scans s.staged s.next s.pulled number _ c.requires.1 in
    let w = at_some _ is in
    list_breaks s.tables.items s.bound.items s.scans c.spoil.new.scans s.staged s.next s.pulled number w.0 w.1 (if_some _ _ w.0 w.1 c.spoil.ensures)

pub returns-in-Ok-Some-clause-ok : goal.returns-in-Ok-Some-clause-ok
returns-in-Ok-Some-clause-ok c =
    let s = c.args.self.now in
    let number = c.args.ticket.now.number in
    let is = open_there s.tables.items s.bound.items s.scans s.staged s.next s.pulled number _ c.requires.1 in
    let w = at_some _ is in
    rw c.saturating_add-self.ensures
    (list_gives s.tables.items s.bound.items s.scans c.advance.new.scans s.staged s.next s.pulled number w.0 c.in-Ok-Some.step c.rows_are_typed.ensures.shown s.typed w.1 (if_some _ _ w.0 w.1 (rw c.in-Ok-Some.field-0-is at c.in-Ok-Some.ensures.next)) (if_some _ _ w.0 w.1 c.advance.ensures))

pub returns-in-Ok-None-clause-ok : goal.returns-in-Ok-None-clause-ok
returns-in-Ok-None-clause-ok c =
    let s = c.args.self.now in
    let number = c.args.ticket.now.number in
    let is = open_there s.tables.items s.bound.items s.scans s.staged s.next s.pulled number _ c.requires.1 in
    let w = at_some _ is in
    list_gives_none s.tables.items s.bound.items s.scans s.staged s.next s.pulled number w.0 w.1 (if_some _ _ w.0 w.1 (rw c.in-Ok-None.field-0-is at c.in-Ok-None.ensures.next))
