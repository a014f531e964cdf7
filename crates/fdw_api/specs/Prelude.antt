-- The names of this crate that the crates above cite most, passed on from one place. Declares nothing.
pub use Rattle.fdw_api.specs.Calls.{Allows, BeginCause, Begins, BindCause, Binds, Breaks, CanBegin, CanBind, CanRescan, CanUnbind, Ends, GivesNone, GivesRow, IsLeast, IsOpen, Iterates, Leaves, LeavesAll, LeavesOthers, NoScan, Picks, Refuses, RefusesBegin, RefusesBind, Rescans, Unbinds, bumped, faults_after, new_scan, none_of, not_refused, row_of}
pub use Rattle.fdw_api.specs.Kinds.{Arrangement, Bytes, Change, Column, Deletes, Entry, Held, Holding, Inserts, Kind, Known, OptionForm, Reading, Refusals, Stored, Unknown, Updates, all_fit, as_they_come, column_of, held, is_late, is_of_run, kinds_of, option_form}
pub use Rattle.fdw_api.specs.Lifting.{lifted}
pub use Rattle.fdw_api.specs.Scan.{Compares, Given, GivenRow, IsComing, KeyForm, Missing, Present, RestrictionForm, Slot, Spec, TableRow, TestForm, cell_fits, cells_fit, checks, first_of, given_row, has_kind, is_clean, kind_is, meets, meets_all, meets_exact, params_fit, pick, plain_spec, restriction_form, row_cmp, row_fits, shown_cells, shown_fits, spec_by, spec_of, test_fits, test_form}
pub use Rattle.fdw_api.specs.Sound.{IsSoundBox, IsTableOf}
pub use Rattle.fdw_api.specs.State.{BoxState, BoxTable, Content, IsIdle, Ledger, Nature, Scan, Staging, is_honest, rows_of, scan_of, set_at, table_of, whole_asks_rest}
pub use Rattle.fdw_api.specs.Wishes.{AllowsPromise, CanBegin2, WishForm, all_exact, has_no_order, is_fair, is_unpromised, key_form, spec2_by, spec2_of, wish_form, with_promise}
pub use Rattle.fdw_api.specs.Writes.{CanChange, CanClose, CanModify, ChangeCause, CloseCause, Closes, HoldsImage, Opens, Outcome, RefusesChange, RefusesClose, RefusesModify, Stages, Written, has_id, id_is_there, inserted, is_first, names_id, row_after, row_of_change_fits, rows_after}
