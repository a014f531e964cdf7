-- Cursors that are closed one after the other.
use Rattle.std.proofs.Common.{◌≡◌, ℕ, List, [], ◌∷◌, ◌++◌, slice_index_or, Option, Contains, map, ap, sym, ◌∙◌, subst, arith, append_assoc}
use Rattle.std.proofs.lemmas.List.{append-nil, map-append}
use Rattle.std.proofs.lemmas.List.Elements.{All-head, All-tail, All-nil, All-cons, Contains-append_left, Contains-append_right}
use Rattle.std.specs.List.{All}
use Rattle.fdw_api.specs.State.{BoxState}
use Rattle.med_exec.specs.Prelude.{Held, ServesRun, none_held, AreApart}
use Rattle.med_exec.specs.Rests.{held, IsHeld}
use Rattle.med_exec.specs.declared.running.Run.{Run}
use Rattle.med_exec.proofs.Leaving.{with_held, serves_beside}
use Rattle.med_world.specs.declared.cursors.OpenCursor.{OpenCursor}
use Rattle.med_world.specs.Open.{Opened, opened, held_by, AreHeld, AreOwn}

none_in : (number : ℕ) → Contains [] number → ⊥
none_in number h = let n = h.1 in omega arith

-- what a run holds that gives none is apart from all
pub apart_none : (own : Held) → AreApart own none_held
apart_none own slot number a b = none_in number b

held_push : (cursors : List Opened) (c : Opened) (slot : ℕ) → held_by (cursors ++ c ∷ []) slot ≡ held_by cursors slot ++ held c.run slot
held_push [] c slot = append-nil (held c.run slot)
held_push (d ∷ cursors) c slot = ap (λ (ns : List ℕ). held d.run slot ++ ns) (held_push cursors c slot) ∙ sym (append_assoc (held d.run slot) (held_by cursors slot) (held c.run slot))

-- all but the last, which is apart from each of them
pub own_front : (cursors : List Opened) (c : Opened) → AreOwn (cursors ++ c ∷ []) → AreOwn cursors × All (λ (d : Opened). AreApart (held d.run) (held c.run)) cursors
own_front [] c h = (tt, All-nil (λ (d : Opened). AreApart (held d.run) (held c.run)))
own_front (d ∷ cursors) c h =
    let rest = own_front cursors c h.1 in (
      ((λ slot number a b. h.0 slot number a (subst (λ (ns : List ℕ). Contains ns number) (sym (held_push cursors c slot)) (Contains-append_left (held_by cursors slot) (held c.run slot) number b))), rest.0),
      All-cons (λ (x : Opened). AreApart (held x.run) (held c.run)) d cursors
          (λ slot number a b. h.0 slot number a (subst (λ (ns : List ℕ). Contains ns number) (sym (held_push cursors c slot)) (Contains-append_right (held_by cursors slot) (held c.run slot) number b))) rest.1,
    )

held_front : (cursors : List Opened) (c : Opened) (boxes : List (Option BoxState)) → AreHeld (cursors ++ c ∷ []) boxes → AreHeld cursors boxes
held_front [] c boxes h = All-nil (λ (d : Opened). IsHeld d.run boxes)
held_front (d ∷ cursors) c boxes h =
    All-cons (λ (x : Opened). IsHeld x.run boxes) d cursors (All-head (λ (x : Opened). IsHeld x.run boxes) d (cursors ++ c ∷ []) h) (held_front cursors c boxes (All-tail (λ (x : Opened). IsHeld x.run boxes) d (cursors ++ c ∷ []) h))

held_last : (cursors : List Opened) (c : Opened) (boxes : List (Option BoxState)) → AreHeld (cursors ++ c ∷ []) boxes → IsHeld c.run boxes
held_last [] c boxes h = All-head (λ (x : Opened). IsHeld x.run boxes) c [] h
held_last (d ∷ cursors) c boxes h = held_last cursors c boxes (All-tail (λ (x : Opened). IsHeld x.run boxes) d (cursors ++ c ∷ []) h)

-- ---- the last of a list

-- the law of med_exec
abbrev pub StaysHeld : Type 0
StaysHeld = (other : Run) (first last : Held) (old new : List (Option BoxState)) → IsHeld other old → AreApart (held other) first → AreApart (held other) last → ServesRun first last old new → IsHeld other new

stay_held : StaysHeld → (cursors : List Opened) (c : Opened) (old new : List (Option BoxState)) → AreHeld cursors old → All (λ (d : Opened). AreApart (held d.run) (held c.run)) cursors → ServesRun (held c.run) none_held old new → AreHeld cursors new
stay_held law cursors c old new good apart h k d lt =
    let run = (slice_index_or cursors k d).run in law run (held c.run) none_held old new (good k d lt) (apart k d lt) (apart_none (held run)) h

module _ (before after : List OpenCursor) (c : OpenCursor) (popped : before ≡ after ++ c ∷ []) where
  shown : map opened before ≡ map opened after ++ opened c ∷ []
  shown = ap (map opened) popped ∙ map-append opened after (c ∷ [])

  pub last_held : (boxes : List (Option BoxState)) → AreHeld (map opened before) boxes → IsHeld c.run boxes
  last_held boxes h = held_last (map opened after) (opened c) boxes (subst (λ (cs : List Opened). AreHeld cs boxes) shown h)

  pub front_own : AreOwn (map opened before) → AreOwn (map opened after)
  front_own h = (own_front (map opened after) (opened c) (subst AreOwn shown h)).0

  pub front_held : StaysHeld → (old new : List (Option BoxState)) → AreOwn (map opened before) → AreHeld (map opened before) old → ServesRun (held c.run) none_held old new → AreHeld (map opened after) new
  front_held law old new own good h =
      stay_held law (map opened after) (opened c) old new (held_front (map opened after) (opened c) old (subst (λ (cs : List Opened). AreHeld cs old) shown good))
      (own_front (map opened after) (opened c) (subst AreOwn shown own)).1 h

  all : held_by (map opened before) ≡ with_held (held_by (map opened after)) (held c.run)
  all = λ i slot. (ap (λ (cs : List Opened). held_by cs slot) shown ∙ held_push (map opened after) (opened c) slot) i

  -- what its close does to the boxes, told of all that are left
  pub front_served : (old new : List (Option BoxState)) → ServesRun (held c.run) none_held old new → ServesRun (held_by (map opened before)) (held_by (map opened after)) old new
  front_served old new h =
      subst (λ (own : Held). ServesRun own (held_by (map opened after)) old new) (sym all)
      (subst (λ (own : Held). ServesRun (with_held (held_by (map opened after)) (held c.run)) own old new) (λ i slot. append-nil (held_by (map opened after) slot) i)
      (serves_beside (held_by (map opened after)) (held c.run) none_held old new h))
