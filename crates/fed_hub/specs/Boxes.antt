-- What was read from a connection and not answered yet, and what is to be sent to it and was not written yet.
use Rattle.std.specs.Prelude.{◌≡◌, ℕ, List, ◌++◌, drop, string_bytes}
use Rattle.session_wire.specs.Lines.{Lines, line, rest, closed, lines_of}
use Rattle.session_wire.specs.declared.lines.FoundLine.{FoundLine}
use Rattle.session_wire.specs.declared.lines.FoundLine.TheVariants as found
use Rattle.fed_hub.specs.declared.inbox.Inbox.{Inbox}
use Rattle.fed_hub.specs.declared.outbox.Outbox.{Outbox}

-- the bytes that were read and not taken yet
abbrev pub unread_in : Inbox → List ℕ
unread_in inbox = inbox.unread.items

-- the bytes that were put in and not written yet
abbrev pub unsent_in : Outbox → List ℕ
unsent_in outbox = drop outbox.sent outbox.bytes.items

-- this is the first line of the old bytes, and leaves the new ones
abbrev pub Takes : FoundLine → List ℕ → List ℕ → Type 0
Takes (found.Line text) old new = lines_of old ≡ line (string_bytes text) (lines_of new)
Takes found.Nothing old new = (lines_of old ≡ rest old) × (new ≡ old)
Takes found.Closing old new = lines_of old ≡ closed
