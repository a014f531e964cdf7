use Rattle.std.proofs.Common.{ap, ◌∙◌}
use Rattle.std.specs.List.{before_first}
use Rattle.fed_stream.specs.Guards.{is_feed, is_request_line}
use Rattle.fed_stream.proofs.guarded.begins_with_request.Goals as goal

pub returns : goal.returns
returns c = c.is_request_line.ensures ∙ ap is_request_line (c.parted.ensures.before ∙ ap (before_first is_feed) c.counted.ensures)
