use Rattle.std.proofs.Common.{map, refl, sym, subst}
use Rattle.med_value.specs.Datum.{Tuple, datum}
use Rattle.list_wrapper.specs.Scans.{numbered, rows_at, spec_is, newer, Bounds}
use Rattle.list_wrapper.proofs.Calls.{open_there, at_some, if_some, keeps_fresh, keeps_fitting, starts_fitting, is_whole, list_rescans, list_breaks}
use Rattle.list_wrapper.proofs.Walks.{arranged_comes}
use Rattle.list_wrapper.proofs.list.ListWrapperWrapper.rescan.Goals as goal

pub spoil-requires : goal.spoil-requires
spoil-requires c =
    let s = c.args.self.now in
    let number = c.args.ticket.now.number in
    let is = open_there s.tables.items s.bound.items s.scans s.staged s.next s.pulled number _ c.requires.at in
    is

pub new_walk-requires-clause-live : goal.new_walk-requires-clause-live
new_walk-requires-clause-live c =
    let s = c.args.self.now in
    let number = c.args.ticket.now.number in
    let is = open_there s.tables.items s.bound.items s.scans s.staged s.next s.pulled number _ c.requires.at in
    is

pub spoil-requires-in-Err : goal.spoil-requires-in-Err
spoil-requires-in-Err c =
    let s = c.args.self.now in
    let number = c.args.ticket.now.number in
    let is = open_there s.tables.items s.bound.items s.scans s.staged s.next s.pulled number _ c.requires.at in
    is

pub restart-requires : goal.restart-requires
restart-requires c =
    let s = c.args.self.now in
    let number = c.args.ticket.now.number in
    let is = open_there s.tables.items s.bound.items s.scans s.staged s.next s.pulled number _ c.requires.at in
    is

pub invariant_of-self : goal.invariant_of-self
invariant_of-self c =
    let s = c.args.self.now in
    let number = c.args.ticket.now.number in
    let is = open_there s.tables.items s.bound.items s.scans s.staged s.next s.pulled number _ c.requires.at in
    let w = at_some _ is in
    record {
      marked = s.marked;
      noted = s.noted;
      rises = s.rises;
      distinct = s.distinct;
      typed = s.typed;
      fitting = keeps_fitting s.tables.items s.scans c.spoil.new.scans number _ s.fitting (s.fitting number w.0 w.1) (if_some _ _ w.0 w.1 c.spoil.ensures);
      typed_write = s.typed_write;
      fresh = keeps_fresh s.scans c.spoil.new.scans number s.next _ s.fresh is (if_some _ _ w.0 w.1 c.spoil.ensures);
    }

pub invariant_of-self-in-Err : goal.invariant_of-self-in-Err
invariant_of-self-in-Err c =
    let s = c.args.self.now in
    let number = c.args.ticket.now.number in
    let is = open_there s.tables.items s.bound.items s.scans s.staged s.next s.pulled number _ c.requires.at in
    let w = at_some _ is in
    record {
      marked = s.marked;
      noted = s.noted;
      rises = s.rises;
      distinct = s.distinct;
      typed = s.typed;
      fitting = keeps_fitting s.tables.items s.scans c.spoil-in-Err.new.scans number _ s.fitting (s.fitting number w.0 w.1) (if_some _ _ w.0 w.1 c.spoil-in-Err.ensures);
      typed_write = s.typed_write;
      fresh = keeps_fresh s.scans c.spoil-in-Err.new.scans number s.next _ s.fresh is (if_some _ _ w.0 w.1 c.spoil-in-Err.ensures);
    }

pub invariant_of-self-in-Ok-new_walk : goal.invariant_of-self-in-Ok-new_walk
invariant_of-self-in-Ok-new_walk c =
    let s = c.args.self.now in
    let number = c.args.ticket.now.number in
    let is = open_there s.tables.items s.bound.items s.scans s.staged s.next s.pulled number _ c.requires.at in
    let w = at_some _ is in
    let rows = numbered 0 (rows_at s.tables.items w.0.table) in
    let walk = c.in-Ok-new_walk.walk in
    let bounds : Bounds (spec_is w.0) (map datum c.in-Ok.copies.items) rows (newer walk w.0.walk) =
    subst (λ (z : Tuple). Bounds (spec_is w.0) z rows (newer walk w.0.walk)) (sym c.in-Ok.ensures) (if_some _ _ w.0 w.1 c.in-Ok-new_walk.ensures.arranges).bounds in
    record {
      marked = s.marked;
      noted = s.noted;
      rises = s.rises;
      distinct = s.distinct;
      typed = s.typed;
      fitting = keeps_fitting s.tables.items s.scans c.restart.new.scans number _ s.fitting (starts_fitting rows (spec_is w.0) (map datum c.in-Ok.copies.items) walk w.0.walk (s.fitting number w.0 w.1).0 (if_some _ _ w.0 w.1 c.in-Ok-new_walk.ensures.serves) bounds) (if_some _ _ w.0 w.1 c.restart.ensures);
      typed_write = s.typed_write;
      fresh = keeps_fresh s.scans c.restart.new.scans number s.next _ s.fresh is (if_some _ _ w.0 w.1 c.restart.ensures);
    }

pub returns-in_default-clause-err : goal.returns-in_default-clause-err
returns-in_default-clause-err c =
    let s = c.args.self.now in
    let number = c.args.ticket.now.number in
    let is = open_there s.tables.items s.bound.items s.scans s.staged s.next s.pulled number _ c.requires.at in
    let w = at_some _ is in
    list_breaks s.tables.items s.bound.items s.scans c.spoil.new.scans s.staged s.next s.pulled number w.0 w.1 (if_some _ _ w.0 w.1 c.spoil.ensures)

pub returns-in-Err-clause-err : goal.returns-in-Err-clause-err
returns-in-Err-clause-err c =
    let s = c.args.self.now in
    let number = c.args.ticket.now.number in
    let is = open_there s.tables.items s.bound.items s.scans s.staged s.next s.pulled number _ c.requires.at in
    let w = at_some _ is in
    list_breaks s.tables.items s.bound.items s.scans c.spoil-in-Err.new.scans s.staged s.next s.pulled number w.0 w.1 (if_some _ _ w.0 w.1 c.spoil-in-Err.ensures)

pub returns-in-Ok-new_walk-clause-ok : goal.returns-in-Ok-new_walk-clause-ok
returns-in-Ok-new_walk-clause-ok c =
    let s = c.args.self.now in
    let number = c.args.ticket.now.number in
    let is = open_there s.tables.items s.bound.items s.scans s.staged s.next s.pulled number _ c.requires.at in
    let w = at_some _ is in
    let whole = is_whole s.tables.items s.bound.items s.scans s.staged s.next s.pulled number w.0 _ w.1 c.requires.at c.requires.whole in
    list_rescans s.tables.items s.bound.items s.scans c.restart.new.scans s.staged s.next s.pulled number _ w.0 _ w.1 whole (if_some _ _ w.0 w.1 c.restart.ensures) refl refl c.in-Ok.ensures refl refl refl
    (arranged_comes (spec_is w.0) _ (numbered 0 (rows_at s.tables.items w.0.table)) _ (if_some _ _ w.0 w.1 c.in-Ok-new_walk.ensures.arranges))
