use Rattle.std.proofs.Common.{◌∙◌, ap₂, refl}
use Rattle.std.proofs.lemmas.Result.{IfOk-weaker}
use Rattle.clap.specs.Words.{with_rule}
use Rattle.fed_words.proofs.words.with_beginning.Goals as goal

pub returns : goal.returns
returns c =
    let one = c.in_ok-arg.ensures.shape c.text_option.ensures.own ∙ ap₂ with_rule refl c.text_option.ensures.rule in
    let two = c.in_ok-arg-2.ensures.shape c.text_option-2.ensures.own ∙ ap₂ with_rule one c.text_option-2.ensures.rule in
    let three = c.in_ok-arg-3.ensures.shape c.texts_option.ensures.own ∙ ap₂ with_rule two c.texts_option.ensures.rule in
    let four = c.in_ok-arg-4.ensures.shape c.texts_option-2.ensures.own ∙ ap₂ with_rule three c.texts_option-2.ensures.rule in
    let five = c.in_ok-arg-5.ensures.shape c.texts_option-3.ensures.own ∙ ap₂ with_rule four c.texts_option-3.ensures.rule in
    IfOk-weaker c.arg-6.result _ _ (λ r h. h.shape c.text_option-3.ensures.own ∙ ap₂ with_rule five c.text_option-3.ensures.rule) c.arg-6.ensures
