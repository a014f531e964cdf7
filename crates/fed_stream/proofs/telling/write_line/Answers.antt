use Rattle.fed_stream.proofs.Fronts.{front_then, front_of_more}
use Rattle.fed_stream.proofs.telling.write_line.Goals as goal

pub returns-in-Err : goal.returns-in-Err
returns-in-Err g c = front_of_more c.in-Err.fault _ _ _ _ _ _ c.in-Err.ensures

pub returns-in-Err-write_parts : goal.returns-in-Err-write_parts
returns-in-Err-write_parts g c =
    front_then tt _ _ _ _ _ _ _ _ _ c.in-Ok.ensures (front_of_more c.in-Err-write_parts.fault _ _ _ _ _ _ c.in-Err-write_parts.ensures)

pub returns : goal.returns
returns g c =
    front_then tt _ _ _ _ _ _ _ _ _ c.in-Ok.ensures (front_then tt _ _ _ _ _ _ _ _ _ c.in-Ok-write_parts.ensures c.write_front-2.ensures)
