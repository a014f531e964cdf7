use Rattle.std.proofs.lemmas.Result.{IfOk-weaker}
use Rattle.jsonl_wrapper.specs.Tables.{readers_in}
use Rattle.jsonl_wrapper.proofs.middle.room_for.Goals as goal

pub returns : goal.returns
returns c = IfOk-weaker c.with_room.result _ _ (λ made all. all (readers_in c.args.table.now)) c.with_room.ensures
