-- How the lines of a piece end.
use Rattle.std.specs.Prelude.{◌≡◌, ℕ, Some, None, List}
use Rattle.session_wire.specs.Lines.{Lines, unread_after}
use Rattle.session_wire.specs.declared.answers.End.{End}
use Rattle.session_wire.specs.declared.answers.End.TheVariants as ends

-- these bytes are left unread, or the stream is closed
abbrev pub Leaves : End → Lines → List ℕ → Type 0
Leaves ends.Open lines left = unread_after lines ≡ Some left
Leaves ends.Closed lines left = unread_after lines ≡ None
