-- Requests that are done one after another.
use Rattle.std.proofs.Common.{ℕ, List, [], ◌∷◌, ◌++◌, refl, subst}
use Rattle.med_session.specs.Requests.{AskedLine}
use Rattle.fed_setup.specs.Replays.{Answers, IsDone, AreDone}

-- one more
pub done_more : {W : Type 0} (step : Answers W) (old : W) (rs : List (ℕ × AskedLine)) (mid : W) (r : ℕ × AskedLine) (new : W)
    → AreDone step old rs mid → IsDone step mid r.1 new → AreDone step old (rs ++ r ∷ []) new
done_more step old [] mid r new h k = (new, subst (λ s. IsDone step s r.1 new) h k, refl)
done_more step old (q ∷ qs) mid r new h k = (h.0, h.1, done_more step h.0 qs mid r new h.2 k)
