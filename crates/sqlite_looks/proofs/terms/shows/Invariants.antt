use Rattle.std.proofs.Common.{◌≡◌, length}
use Rattle.sqlite_sql.specs.Syntax.{terms_of}
use Rattle.sqlite_looks.specs.Terms.{shows}
use Rattle.sqlite_looks.proofs.terms.shows.Given as goal

-- what is left to compare decides
abbrev pub invariant-loop-term : goal.invariant-loop-term
invariant-loop-term l = shows l.initial.wanted (terms_of l.nodes l.initial.terms) ≡ shows l.wanted (terms_of l.nodes l.terms)

abbrev pub decreases-loop-term : goal.decreases-loop-term
decreases-loop-term l = length l.terms
