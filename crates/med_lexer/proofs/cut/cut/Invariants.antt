use Rattle.std.proofs.Common.{length}
use denote.Text.{Utf8}
use denote.Shadow.{shadow}
use Rattle.med_lexer.specs.View.{views}
use Rattle.med_lexer.proofs.CutLoop.{CutLoop}
use Rattle.med_lexer.proofs.cut.cut.Given as goal

abbrev pub invariant-loop-out : goal.invariant-loop-out
invariant-loop-out l = record { text : shadow (Utf8 l.rest); loop : CutLoop l.text (views l.out.items) l.rest }

abbrev pub decreases-loop-out : goal.decreases-loop-out
decreases-loop-out l = length l.rest
