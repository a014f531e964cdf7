use Rattle.std.proofs.Common.{refl}
use Rattle.fed_cli.proofs.Begun.{by_script, not_begun}
use Rattle.fed_cli.proofs.program.run_asked.Goals as goal

-- the program did not begin
pub returns-in-Err : goal.returns-in-Err
returns-in-Err g c =
    not_begun _ _ c.args.asked _ _ _ _ _ _ c.not_begun.ensures.came c.not_begun.ensures.sources
    (by_script _ c.args.asked _ _ c.in-Err.refused.fault c.not_begun.ensures.script c.in-Err.ensures.refused) refl refl

-- the input was served
pub returns : goal.returns
returns g c = (
  _,
  c.told.ensures,
  c.in-Ok.ensures.read,
  let begun = c.in-Ok.ensures.begins in
      record {
        world = begun.world;
        engine = _;
        begins = begun.begins;
        agrees = begun.agrees;
        serves = c.serve_engine-ended.ensures.worlds begun.world begun.agrees;
      },
  c.serve_engine-ended.ensures.at_rest,
)
