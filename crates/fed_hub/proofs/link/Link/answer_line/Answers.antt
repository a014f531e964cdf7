use Rattle.std.proofs.Common.{◌≡◌, ◌++◌, ◌∙◌, true, false, [], ◌∷◌, refl, sym, ap}
use Rattle.fed_hub.specs.Bare.{bare}
use Rattle.fed_hub.specs.Said.{Said, Opens}
use Rattle.fed_hub.specs.Boxes.{unsent_in}
use Rattle.fed_hub.specs.Guests.{HasParted, Turns}
use Rattle.fed_hub.specs.declared.link.Link.{Link}
use Rattle.fed_hub.proofs.Links.{broke, answered, answered_last}
use Rattle.fed_hub.proofs.Turning.{none_more, closes_at_first}
use Rattle.fed_hub.proofs.link.Link.answer_line.Goals.{else-not-self-via-then-not-self+else-not-opens, else-not-self-via-else-not-self}
use Rattle.fed_hub.proofs.link.Link.answer_line.Goals as goal

pub returns-then-not-opens-clause-said : goal.returns-then-not-opens-clause-said
returns-then-not-opens-clause-said g c = (
  [],
  tt,
  refl,
  λ taken part h.
      let other : Opens c.args.text.now → ⊥ = λ o. (let no : false ≡ true = sym c.if-not-opens.true ∙ c.opens.ensures.1 o in absurd cc) in
      none_more (λ l. Turns g.P.Peer.remaining g.P.Peer.contents c.close.result taken c.close.new.self l) part
      (closes_at_first _ _ c.close.result taken c.args.self.now _ c.args.text.now _ part c.close.ensures.told (ap (λ
      (k : Link _). k.peer) c.close.ensures.same) c.close.ensures.parts c.if-not-self.true other h),
)

pub returns-in-Err-clause-said : goal.returns-in-Err-clause-said
returns-in-Err-clause-said g c = (
  [],
  tt,
  c.in-Err.ensures.refused,
  λ taken part h.
      none_more (λ l. HasParted g.P.Peer.remaining g.P.Peer.contents taken c.args.self.now l) part
      (broke _ _ taken c.args.self.now c.args.self.now _ part refl h),
)

pub returns-in-Ok-put_bare-clause-said : goal.returns-in-Ok-put_bare-clause-said
returns-in-Ok-put_bare-clause-said g c =
    let s : Said = record { sid = c.args.sid.number; text = c.args.text.now; reply = c.ask.new.reply.items } in
    let opens : c.args.self.now.is_opened ≡ false → Opens c.args.text.now = elim c.else-not-self.branch [
      | else-not-self-via-then-not-self+else-not-opens w ↦ λ _. w.opens.ensures.0 w.if-not-opens.false
      | else-not-self-via-else-not-self w ↦ λ e.
          (let was : c.args.self.now.is_opened ≡ true = w.if-not-self.false in let no : true ≡ false = sym was ∙ e in absurd cc)
    ] in
    let put : unsent_in c.put_bare.new.self ≡ unsent_in c.args.self.now.outbox ++ bare c.ask.new.reply.items =
    c.in-Ok-put_bare.ensures ∙ ap (λ bs. unsent_in c.args.self.now.outbox ++ bare bs) c.as_slice.ensures.value in (
      s ∷ [],
      (refl, tt),
      (c.ask.new.handler, c.in-Ok.ensures.ok, refl),
      λ taken part h. answered _ _ taken c.args.self.now _ s _ part opens refl put refl refl h,
    )

pub returns-in-Err-put_bare-clause-said : goal.returns-in-Err-put_bare-clause-said
returns-in-Err-put_bare-clause-said g c =
    let s : Said = record { sid = c.args.sid.number; text = c.args.text.now; reply = c.ask.new.reply.items } in
    let opens : c.args.self.now.is_opened ≡ false → Opens c.args.text.now = elim c.else-not-self.branch [
      | else-not-self-via-then-not-self+else-not-opens w ↦ λ _. w.opens.ensures.0 w.if-not-opens.false
      | else-not-self-via-else-not-self w ↦ λ e.
          (let was : c.args.self.now.is_opened ≡ true = w.if-not-self.false in let no : true ≡ false = sym was ∙ e in absurd cc)
    ] in (
      s ∷ [],
      (refl, tt),
      (c.ask.new.handler, c.in-Ok.ensures.ok, refl),
      λ taken part h. answered_last _ _ taken c.args.self.now _ s _ part opens refl h,
    )
