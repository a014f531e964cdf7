use Rattle.std.proofs.Common.{◌<◌, length, rules, arith}
use Rattle.fed_stream.proofs.Bytes.{bytes_parted, first_byte}
use Rattle.fed_stream.proofs.memory.MemorySourceSource.read_some.Goals as goal

pub copy_bytes-count-requires-clause-first : goal.copy_bytes-count-requires-clause-first
copy_bytes-count-requires-clause-first c =
    let room : 0 < length c.args.piece.now = search rules in
    first_byte _ _ _ _ _ c.in-Some.ensures.cases.0 c.in-Byte.is room

pub returns-in-Byte-clause-bytes : goal.returns-in-Byte-clause-bytes
returns-in-Byte-clause-bytes c = (bytes_parted _ _ _ c.copy_bytes-count.ensures.copied, λ none _. absurd (omega (arith, none, c.copy_bytes-count.ensures.some)))
