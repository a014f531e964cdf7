-- What is seen of a server.
use Rattle.std.specs.Prelude.{ℕ, Bool, if◌then◌else◌, Option, Some, None, List}
use Rattle.session_wire.specs.declared.server.Server.{Server}

-- what answers its requests
abbrev pub handler_of : {H : Type 0} → Server H → H
handler_of server = server.handler

-- whether the stream is closed
abbrev pub is_closed : {H : Type 0} → Server H → Bool
is_closed server = server.is_closed

-- the bytes that are held back, the front of a line
abbrev pub held_back : {H : Type 0} → Server H → List ℕ
held_back server = server.unread.items

-- for how many more bytes there is room
abbrev pub spare_of : {H : Type 0} → Server H → ℕ
spare_of server = server.unread.spare

-- the bytes held back, where the stream goes on
abbrev pub unread_of : {H : Type 0} → Server H → Option (List ℕ)
unread_of server = if is_closed server then None else Some (held_back server)
