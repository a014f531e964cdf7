use Rattle.med_world.proofs.Sessions.{seat_may_close, all_may_close}
use Rattle.med_world.proofs.law.cursors_may_close.Goals as goal

pub returns : goal.returns
returns c = record { one = seat_may_close; all = all_may_close }
