use Rattle.std.proofs.Common.{◌≡◌, ◌-◌, Some, option_map, rules}
use Rattle.std.proofs.lemmas.List.{map-set}
use Rattle.med_world.specs.Open.{seated}
use Rattle.med_session.proofs.places.put_seat.Goals as goal

pub returns : goal.returns
returns c =
    let e : c.from.result ≡ c.args.sid.number = search rules in
    rw e (map-set (option_map seated) c.args.seats.now.items (c.args.sid.number - 1) (Some c.args.seat))
