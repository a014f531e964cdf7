use Rattle.std.proofs.Common.{◌&&◌, nat_lt, ℕ, List, length, ap, ◌∙◌}
use Rattle.std.specs.List.{before_first, after_first}
use Rattle.fed_stream.specs.Guards.{is_method, is_space, is_version}
use Rattle.fed_stream.proofs.guarded.is_request_line.Goals as goal

pub returns : goal.returns
returns c =
    let method = c.is_method.ensures ∙ ap is_method c.parted.ensures.before in
    let rest = c.parted.ensures.after in
    let target = c.is_word.ensures ∙ ap (λ (l : List ℕ). nat_lt 0 (length l)) (c.parted-2.ensures.before ∙ ap (before_first is_space) rest) in
    let version = c.is_version.ensures ∙ ap is_version (c.parted-2.ensures.after ∙ ap (after_first is_space) rest) in
    ap (λ b. b && (c.is_word.result && c.is_version.result)) method
    ∙ ap (λ b. is_method (before_first is_space c.args.line.now) && (b && c.is_version.result)) target
    ∙ ap (λ b. is_method (before_first is_space c.args.line.now) && (nat_lt 0 (length (before_first is_space (after_first is_space c.args.line.now))) && b)) version
