-- The names of this crate that the crates above cite most, passed on from one place. Declares nothing.
pub use Rattle.sql_meaning.specs.Causes.{CursorCauses, DeclareCauses, IsPick, IsPickOf, IsRowPick, IsStatementOf, IsTarget, IsTold, MayShow, NoneBeforeRun, NoneBeforeState, NoneStands, ObjectCauses, OfQuery, PicksEntry, Reads, RestsOnShared, RowCauses, SelectCauses, SourceCauses, Stands, TreeCauses, exists, is_risky, meant_over, of_query, query_of, reads_shared, rows_held, too_many, writes_shared}
pub use Rattle.sql_meaning.specs.Cursors.{AreFetched, Fetched, Fetches, IsBareQuery, IsEnough, IsLast, cursor_named, hand_out, handing, is_cursor, rows_fetched, rows_leased, with_cursor, with_handed, without_cursor}
pub use Rattle.sql_meaning.specs.Picks.{Pick, PicksAnswer, answers, as_given, has_none, no_pick}
pub use Rattle.sql_meaning.specs.Replies.{Reply, answered, done, header, line, refusal, refused, reply_text, row_line, rows_tag, tag_line}
pub use Rattle.sql_meaning.specs.Requests.{AskedLine, IsSid, IsUser, bye, opening, sql}
pub use Rattle.sql_meaning.specs.Sizes.{is_large_form}
pub use Rattle.sql_meaning.specs.Steps.{Changes, HasRows, Step, TakesMemory, Trouble, Turns, Writes, WritesIn, any_rows, as_read, ddl_tag, fetch_lacks_memory, holding_after, is_done, is_unseen, is_written, leased_now, new_cursor, numbers_end, source_fails, with_catalog, write_tag}
pub use Rattle.sql_meaning.specs.World.{Cursor, IsFree, IsOpen, IsStanding, Leased, Serves, Session, Source, SourceState, World, any_session, beside_without, cells_of, drop_source, drop_source_of, dropped, empty_world, has_shared, holding_at, holds_at, is_leased, is_shared, is_shared_server, is_shared_source, is_shared_state, is_taken, leases, new_session, reads_table, rows_named, rows_of_place, rows_with, shared, source_named, standing, with_session, with_source, with_state, without_sessions}
