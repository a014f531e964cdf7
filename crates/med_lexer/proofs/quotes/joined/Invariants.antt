use Rattle.std.proofs.Common.{◌≡◌, length}
use denote.Text.{Utf8}
use denote.Shadow.{shadow}
use Rattle.std.specs.String.{string_bytes}
use Rattle.med_lexer.specs.Cutting.{quote, ahead}
use Rattle.med_lexer.proofs.quotes.joined.Given as goal

abbrev pub invariant-loop-out : goal.invariant-loop-out
invariant-loop-out l = record { text : shadow (Utf8 l.rest); same : quote l.quote l.text ≡ ahead (string_bytes l.out) (quote l.quote l.rest) }

abbrev pub decreases-loop-out : goal.decreases-loop-out
decreases-loop-out l = length l.rest
