use Rattle.std.proofs.Common.{ap, ◌∙◌, drop}
use Rattle.fed_stream.proofs.Guards.{given_parts}
use Rattle.fed_stream.proofs.guarded.Guarded.give.Goals as goal

pub returns-clause-given : goal.returns-clause-given
returns-clause-given g c =
    given_parts c.args.self.now.held.items c.split_at.result.1.now c.copy_from_slice.new.self c.args.piece.now c.args.self.now.given c.min-count.result _
    (c.split_at.ensures.back ∙ ap (drop c.args.self.now.given) c.as_slice.ensures.value) c.min-count.ensures c.copy_from_slice.ensures.after
