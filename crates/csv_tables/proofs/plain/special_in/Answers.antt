use Rattle.std.proofs.Common.{◌≡◌, ◌+◌, ◌∙◌, take, get_or, ap, arith}
use Rattle.csv_tables.specs.Held.{special, special_in}
use Rattle.csv_tables.proofs.Shown.{special_next, special_few}
use Rattle.csv_tables.proofs.plain.special_in.Goals as goal

pub loop-byte-preserved : goal.loop-byte-preserved
loop-byte-preserved c =
    let text = c.args.text.now in
    let at = c.loop-byte.byte-index in
    let it : c.special-count.result ≡ special (get_or text at 0) = c.special-count.ensures in
    let one = special_few c.special-count.result (get_or text at 0) it in
    let few = c.loop-byte.invariant.few in
    record {
      counted = ap (λ n. n + c.special-count.result) c.loop-byte.invariant.counted ∙ ap (λ n. special_in (take at text) + n) it
          ∙ special_next text at 0 (omega (arith, c.loop-byte-test.true));
      few = omega arith;
    }
