-- Request lines that lead from engine to engine lead from each world that agrees with the first to one that agrees with the last.
use Rattle.std.proofs.Common.{◌≡◌, ℕ, Option, List, [], ◌∷◌, refl, sym, ap, subst, inl, inr}
use Rattle.fdw_api.specs.State.{BoxState}
use Rattle.med_session.specs.Prelude.{World, Agrees, Befell, EachRises, shown}
use Rattle.med_session.specs.declared.engine.Engine.{Engine}
use Rattle.session_wire.specs.Engines.{EngineSteps}
use Rattle.session_wire.specs.Run.{IsAnswered}
use Rattle.session_wire.specs.Exchanges.{Exchange, Exchanged}
use Rattle.session_wire.specs.Worlds.{Scene, scene_of, SceneSteps}

one_follows : {W : Type 0} (meaning : W → BoxState) (old new : Engine W) (text reply : List ℕ)
    → IsAnswered (EngineSteps meaning) old text reply new → (w : World) → Agrees (shown meaning old) w
    → (after : World) × IsAnswered SceneSteps (scene_of meaning old w) text reply (scene_of meaning new after)
    × Agrees (shown meaning new) after
one_follows meaning old new text reply (inl h) w agrees =
    let leads = h.3.leads in
    let one = leads.step w agrees in
    (one.0, inl (h.0, h.1, h.2, (leads.trouble, leads.befell, leads.rises, (h.3.reply, h.3.is, one.1))), one.2)
one_follows meaning old new text reply (inr h) w agrees =
    (w, inr (h.0, h.1, ap (λ e. scene_of meaning e w) h.2), subst (λ e. Agrees (shown meaning e) w) (sym h.2) agrees)

pub all_follow : {W : Type 0} (meaning : W → BoxState) (old new : Engine W) (es : List Exchange)
    → Exchanged (EngineSteps meaning) old es new → (w : World) → Agrees (shown meaning old) w
    → (after : World) × Exchanged SceneSteps (scene_of meaning old w) es (scene_of meaning new after) × Agrees (shown meaning new) after
all_follow meaning old new [] h w agrees = (w, ap (λ e. scene_of meaning e w) h, subst (λ e. Agrees (shown meaning e) w) (sym h) agrees)
all_follow meaning old new (e ∷ es) h w agrees =
    let one = one_follows meaning old h.0 e.text e.reply h.1 w agrees in
    let others = all_follow meaning h.0 new es h.2 one.0 one.2 in
    (others.0, (scene_of meaning h.0 one.0, one.1, others.1), others.2)
