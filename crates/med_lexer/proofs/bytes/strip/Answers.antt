use Rattle.std.proofs.Common.{arith, ap, length, false-eqb, get_or}
use Rattle.med_lexer.proofs.Runs.{one_boundary}
use Rattle.med_lexer.proofs.bytes.strip.Goals as goal

pub split_at-requires : goal.split_at-requires
split_at-requires c =
    let e = c.as_bytes-bytes.ensures.value in
    one_boundary c.args.text.now c.utf8.text (omega (arith, ap length e, false-eqb _ 0 c.if-not-is_empty.ensures)) (omega (arith, ap (λ l. get_or l 0 0) e, c.if-bytes-b.true, c.requires))
