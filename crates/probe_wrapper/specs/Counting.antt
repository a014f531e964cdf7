-- What a counting wrapper shows: what its inner one shows, but for its own count of the rows given.
use Rattle.std.specs.Prelude.{ℕ}
use Rattle.fdw_api.specs.State.{BoxState}

abbrev pub counted : BoxState → ℕ → BoxState
counted s pulled = record { nature = s.nature; ledger = record s.ledger { pulled = pulled }; content = s.content }
