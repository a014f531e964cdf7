-- What an outcome tells, and how it is written.
use Rattle.std.specs.Prelude.{◌≡◌, Bool, true, false, ℕ, List, ◌++◌, map, codes, string_bytes}
use Rattle.med_value.specs.Datum.{tuple}
use Rattle.med_value.specs.declared.cause.Cause.TheVariants.{OutOfMemory}
use Rattle.med_syntax.specs.DdlView.{ddl_tree}
use Rattle.sql_meaning.specs.Prelude.{Reply, done, answered, refused, reply_text, rows_tag, ddl_tag}
use Rattle.med_statements.specs.declared.replies.RowsWord.{RowsWord}
use Rattle.med_statements.specs.declared.replies.RowsWord.TheVariants.{Insert, Update, Delete}
use Rattle.med_statements.specs.declared.replies.Outcome.{Outcome}
use Rattle.med_statements.specs.declared.replies.Outcome.TheVariants.{Opened, Closed, Changed, Written, Rows, Declared, Fetched, Ended, Refused}

-- with what the tag of a write begins
abbrev pub word_text : RowsWord → List ℕ
word_text Insert = codes "INSERT 0"
word_text Update = codes "UPDATE"
word_text Delete = codes "DELETE"

abbrev pub reply_of : Outcome → Reply
reply_of Opened = done (codes "OPEN")
reply_of Closed = done (codes "BYE")
reply_of (Changed d) = done (ddl_tag (ddl_tree d))
reply_of (Written word count) = done (rows_tag (word_text word) count)
reply_of (Rows set) = answered (codes "SELECT") (map string_bytes set.names.items) (map tuple set.rows.items)
reply_of Declared = done (codes "DECLARE CURSOR")
reply_of (Fetched name set) = answered (codes "FETCH") (map string_bytes set.names.items) (map tuple set.rows.items)
reply_of Ended = done (codes "CLOSE CURSOR")
reply_of (Refused c) = refused c

-- rows, for whose text memory may be refused
abbrev pub RepliesRows : Reply → Type 0
RepliesRows (done tag) = ⊥
RepliesRows (answered word names rows) = Unit {0}
RepliesRows (refused c) = ⊥

-- the text of the reply stands behind what was there, or that of want of memory in place of rows
abbrev pub TellsReply : ℕ → Reply → Bool → List ℕ → List ℕ → Type 0
TellsReply sid meant true old new = new ≡ old ++ reply_text sid meant
TellsReply sid meant false old new = RepliesRows meant × (new ≡ old ++ reply_text sid (refused OutOfMemory))
