use Rattle.std.proofs.Common.{sym, take_all, arith}
use Rattle.fed_stream.proofs.guarded.counted.Goals as goal

pub returns-then-bytes-lt-MOST : goal.returns-then-bytes-lt-MOST
returns-then-bytes-lt-MOST c = sym (take_all 1048577 c.args.bytes.now (omega (arith, c.if-bytes-lt-MOST.true)))
