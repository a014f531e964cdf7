-- The replies that are no handler's.
use Rattle.std.specs.Prelude.{ℕ, List, ◌++◌, codes}
use Rattle.std.specs.Fmt.{decimal}

-- the reply to a line that is not in the grammar
abbrev pub refusal : ℕ → List ℕ
refusal sid = decimal sid ++ codes " E 08P01 protocol_violation\n"

-- the two replies to a line that closes the stream
abbrev pub closing_replies : List ℕ
closing_replies = codes "0 E 08P01 protocol_violation\n0 T CLOSED\n"
