use Rattle.std.proofs.Common.{◌≤◌, ◌≤ℤ◌, length, to_z, w64, FitsSigned, arith}
use Rattle.std.proofs.lemmas.Int.{ints, to_z-of_z}
use Rattle.wrapper_parts.proofs.KeptRise.{up_to_more, up_to_all}
use Rattle.jsonl_wrapper.specs.Tables.{readers_in, lines_in}
use Rattle.jsonl_wrapper.specs.Rises.{first_column}
use Rattle.jsonl_wrapper.proofs.RisingKeys.{keys_count}
use Rattle.jsonl_wrapper.proofs.rises.first_rises.Goals as goal

pub loop-at-preserved : goal.loop-at-preserved
loop-at-preserved c =
    let t = c.args.table.now in
    let key = c.in-Some.key in
    let low = to_z w64 c.loop-at.low-bits in
    let fits : FitsSigned w64 key = c.in-Some.ensures.fits in
    let order : low ≤ℤ key = omega (arith, ints) in
    rw (to_z-of_z w64 key fits)
    (up_to_more (first_column (readers_in t) (lines_in t)) low key c.loop-at.at c.loop-at.invariant c.in-Some.ensures order)

pub returns : goal.returns
returns c =
    let t = c.args.table.now in
    let many = keys_count t in
    let test = c.loop-at-test.false in
    let all : length (first_column (readers_in t) (lines_in t)) ≤ c.loop-at.at = omega arith in
    λ told. up_to_all (first_column (readers_in t) (lines_in t)) _ c.loop-at.at c.loop-at.invariant all
