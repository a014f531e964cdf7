-- What one function of the reader reads.
use Rattle.std.specs.Prelude.{ℕ, List, length}
use Rattle.med_syntax.specs.Terminal.{Terminal}
use Rattle.med_syntax.specs.declared.symbols.Separator.{Separator}
use Rattle.med_syntax.specs.ExprReading.{Parser, Reads, Below, ◌>>=◌, closed, others_after}
use Rattle.med_syntax.specs.ExprSteps.{is_mark, item_of}

-- behind (
abbrev pub parens_of : Below → Parser
parens_of b ts = b.whole ts >>= λ x. closed x.0 x.1

-- each further item, behind its separator
abbrev pub others_of : Separator → Below → ℕ → List Terminal → Reads
others_of mark b room ts = others_after (is_mark mark) (item_of mark b room) (length ts) ts
