-- Fields of which a range is about to be replaced by others.
use Rattle.std.specs.Prelude.{◌≡◌, ℕ, List, []}
use Rattle.csv.specs.Records.{Row, IsRecord, partial_of}
use Rattle.csv_tables.specs.Held.{CanMove}

-- fields as they are, and with others in the range's place
pub record Exchange : Type 0 where
  pub before : Row
  pub after : Row

-- both are fields, nothing is left behind the last one afterwards, and these places of theirs can be counted from another one
pub record IsExchange (e : Exchange) (old new : ℕ) (behind : List ℕ) : Type 0 where
  pub before : IsRecord e.before
  pub after : IsRecord e.after
  pub whole : partial_of e.after ≡ []
  pub can_move : CanMove old new behind
