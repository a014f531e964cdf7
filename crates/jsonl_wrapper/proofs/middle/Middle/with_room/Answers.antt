use Rattle.std.proofs.Common.{refl}
use Rattle.jsonl_wrapper.proofs.MiddleLaws.{lead_none}
use Rattle.jsonl_wrapper.proofs.middle.Middle.with_room.Goals as goal

pub returns-clause-none : goal.returns-clause-none
returns-clause-none c = lead_none c.args.table.now _ refl refl c.in_ok-made.ensures
