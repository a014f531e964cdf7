use Rattle.fed_stream.proofs.Fronts.{no_part, parts_then, part_failed}
use Rattle.fed_stream.proofs.telling.+write_parts.Goals as goal

-- no part is left
pub returns-in_default : goal.returns-in_default
returns-in_default g t c = no_part c.args.parts.now _ _ c.in_default.ensures.cases

-- the first was written, and then the others
pub returns-in-Ok : goal.returns-in-Ok
returns-in-Ok g t c =
    parts_then c.write_parts.result _ _ _ _ _ _ c.args.parts.now c.in-Some.others.now c.in-Some.part.now c.as_bytes.result.now c.in-Some.ensures.cases.0 c.as_bytes.ensures.value
    c.in-Ok.ensures c.write_parts.ensures

-- the first could not be written
pub returns-in-Err : goal.returns-in-Err
returns-in-Err g t c =
    part_failed c.in-Err.fault _ _ _ _ c.args.parts.now c.in-Some.others.now c.in-Some.part.now c.as_bytes.result.now c.in-Some.ensures.cases.0 c.as_bytes.ensures.value c.in-Err.ensures
