use Rattle.med_lexer.proofs.Runs.{one_boundary}
use Rattle.med_lexer.proofs.bytes.behind.Goals as goal

pub split_at-requires : goal.split_at-requires
split_at-requires c = one_boundary c.args.text.now c.utf8.text c.requires.0 c.requires.1
