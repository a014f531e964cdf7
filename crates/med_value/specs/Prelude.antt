-- The names of this crate that the crates above cite most, passed on from one place. Declares nothing.
pub use Rattle.med_value.specs.Causes.{code_of, name_of, phase_of}
pub use Rattle.med_value.specs.Column.{Column, column_of}
pub use Rattle.med_value.specs.Datum.{Chars, Datum, Logic, NoValue, Tuple, Whole, cell, datum, is_text, tuple}
pub use Rattle.med_value.specs.Limits.{byte_limit, column_limit, cursor_limit, entry_limit, group_limit, mapping_limit, row_limit, server_limit, session_count, table_limit, wrapper_limit}
pub use Rattle.med_value.specs.Order.{compares_true, datum_cmp, holds, is_missing, key_cmp, type_of}
pub use Rattle.med_value.specs.Text.{HasGrown, escaped, escaped_text, field_text, row_text}
