use Rattle.std.proofs.Common.{ℕ, List, ◌++◌, length, ap, sym, ◌∙◌}
use Rattle.std.proofs.Math.Utf8.{encode}
use Rattle.tri_expr.proofs.Texts.{no_chars, char_first}
use Rattle.tri_expr.proofs.like.split_char.Goals as goal

pub returns-in-None : goal.returns-in-None
returns-in-None c = no_chars c.args.text.now (ap length (sym c.chars-rest.ensures.rest) ∙ c.in-None.ensures.steps.0.0)

pub returns-in-Some : goal.returns-in-Some
returns-in-Some c = char_first c.args.text.now c.as_str.result.now c.in-Some.first c.utf8.text (sym c.chars-rest.ensures.rest ∙ c.in-Some.ensures.steps.0 ∙ ap (λ (l : List ℕ). encode c.in-Some.first ++ l) (sym c.as_str.ensures))
