use Rattle.std.proofs.Common.{◌≡◌, ℕ, List, [], ◌++◌, Result, Ok, Err, OnOk, refl, sym, ap, ◌∙◌, subst, inl, inr}
use Rattle.med_session.specs.Requests.{AskedLine}
use Rattle.session_wire.specs.Frames.{IsFrame, IsReplySid}
use Rattle.session_wire.specs.Replies.{refusal}
use Rattle.session_wire.specs.Run.{Steps, IsAnswered}
use Rattle.fed_hub.proofs.requests.ask.Goals as goal

-- a request is answered by all that stands in an output that was empty
answered_whole : {W T E : Type 0} (step : Steps W) (old new : W) (line text before after : List ℕ) (sid : ℕ) (request : AskedLine)
    (r : Result T E) → line ≡ text → before ≡ [] → IsFrame line sid request
    → OnOk r ((reply : List ℕ) × (after ≡ before ++ reply) × step old sid request reply new) → OnOk r (IsAnswered step old text after new)
answered_whole step old new line text before after sid request (Ok x) e none f h =
    inl (
      sid,
      request,
      subst (λ t. IsFrame t sid request) e f,
      subst (λ r. step old sid request r new) (sym (h.1
          ∙ ap (λ b. b ++ h.0) none)) h.2,
    )
answered_whole step old new line text before after sid request (Err x) e none f h = tt

-- a line that asks nothing is refused
refused_whole : {W T E : Type 0} (step : Steps W) (old : W) (line text before after : List ℕ) (sid : ℕ) (r : Result T E) → line ≡ text
    → before ≡ []
    → ((n : ℕ) (request : AskedLine) → IsFrame line n request → ⊥) → IsReplySid line sid → OnOk r (after ≡ before ++ refusal sid)
    → OnOk r (IsAnswered step old text after old)
refused_whole step old line text before after sid (Ok x) e none other is h =
    inr (
      subst (λ t. (n : ℕ) (request : AskedLine) → IsFrame t n request → ⊥) e other,
      (
        sid,
        subst (λ t. IsReplySid t sid) e is,
        h
            ∙ ap (λ b. b ++ refusal sid) none,
      ),
      refl,
    )
refused_whole step old line text before after sid (Err x) e none other is h = tt

pub returns-in-Ok-clause-ok : goal.returns-in-Ok-clause-ok
returns-in-Ok-clause-ok g c =
    answered_whole g.H.Handler.step _ _ _ _ _ _ _ _ _ (c.as_str.ensures.value
    ∙ c.in_ok-line.ensures) c.clear.ensures.items c.in-Ok.ensures.ok c.request.ensures.ok

pub returns-clause-ok : goal.returns-clause-ok
returns-clause-ok g c =
    refused_whole g.H.Handler.step _ _ _ _ _ _ _ (c.as_str.ensures.value
    ∙ c.in_ok-line.ensures) c.clear.ensures.items c.in-Err.ensures.bad c.in-Err.ensures.sid c.write_refusal.ensures
