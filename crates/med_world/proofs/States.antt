-- What a world has of a source, by its box.
use Rattle.std.proofs.Common.{◌≡◌, Bool, true, false, cond, Some, refl, ap, sym, ◌∙◌}
use Rattle.med_syntax.specs.Tree.{Name}
use Rattle.fdw_api.specs.State.{Nature, BoxState, is_honest}
use Rattle.sql_meaning.specs.World.{SourceState, standing, shared}
use Rattle.med_world.specs.Engine.{state_of}

abbrev state_if : BoxState → Bool → SourceState
state_if b honest = cond honest (standing b.nature.kind b.content.holdings) (shared b.nature.kind)

pub honest_state : (b : BoxState) → is_honest b → state_of (Some b) ≡ standing b.nature.kind b.content.holdings
honest_state b honest = ap (state_if b) honest

pub shared_state : (b : BoxState) → b.nature.honest ≡ false → state_of (Some b) ≡ shared b.nature.kind
shared_state b lies = ap (state_if b) lies

pub honest_since : (b c : BoxState) → c.nature ≡ b.nature → is_honest c → is_honest b
honest_since b c same h = sym (ap (λ (n : Nature). n.honest) same) ∙ h

-- it is the same where the nature is, and what an honest box holds
pub same_state : (b c : BoxState) → c.nature ≡ b.nature → (is_honest b → (r : Name) → c.content.holdings r ≡ b.content.holdings r) → state_of (Some c) ≡ state_of (Some b)
same_state b c same holdings = by b.nature.honest refl
  where
    by : (h : Bool) → b.nature.honest ≡ h → state_of (Some c) ≡ state_of (Some b)
    by true is = honest_state c (ap (λ (n : Nature). n.honest) same ∙ is) ∙ (λ i. standing (same i).kind (λ r. holdings is r i)) ∙ sym (honest_state b is)
    by false is = shared_state c (ap (λ (n : Nature). n.honest) same ∙ is) ∙ ap (λ (n : Nature). shared n.kind) same ∙ sym (shared_state b is)
