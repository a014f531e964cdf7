use Rattle.std.proofs.Common.{◌≡◌, ◌-◌, None, option_map, rules}
use Rattle.std.proofs.lemmas.List.{map-set}
use Rattle.med_world.specs.Open.{seated}
use Rattle.med_session.proofs.places.take_seat.Goals as goal

pub returns-clause-left : goal.returns-clause-left
returns-clause-left c =
    let e : c.from.result ≡ c.args.sid.number = search rules in
    rw (e, c.take.ensures.after) (map-set (option_map seated) c.args.seats.now.items (c.args.sid.number - 1) None)
