-- A reader that is tried with room for 64 levels, and once more with all the room that 64 heavy terminals can ask for.
use Rattle.std.proofs.Common.{◌≡◌, ℕ, ◌+◌, ◌*◌, ◌≤◌, ◌<◌, ◌⊎◌, inl, inr, Bool, true, false, cond, List, refl, sym, ◌∙◌, ap, subst, arith}
use Rattle.std.specs.Prelude.{Result, Ok, Err, nat_le}
use Rattle.std.proofs.lemmas.Bool.{le-leb, lt-leb}
use Rattle.med_syntax.specs.declared.refusal.Refusal.{Refusal}
use Rattle.med_syntax.specs.declared.refusal.Refusal.TheVariants.{Syntax, TooHigh}
use Rattle.med_syntax.specs.Terminal.{Terminal}
use Rattle.med_syntax.specs.ExprWeight.{weight, again, judged, bounded}
use Rattle.med_syntax.proofs.ExprChains.{low_or_high}
use Rattle.med_syntax.proofs.ExprSound.{ok_same}

-- With each room a reader gives exactly what the terminals spell, as far as it is no higher than the room; what is higher it tells. What
-- they spell is no higher than their heavy terminals make it.
pub record ReadsInRoom {X : Type 0} (Spells : List Terminal → X → Type 0) (high : X → ℕ) (read : ℕ → List Terminal → Result X Refusal) : Type 0 where
  pub reads : (room : ℕ) (ts : List Terminal) (x : X) → Spells ts x → high x ≤ room → read room ts ≡ Ok x
  pub refuses : (room : ℕ) (ts : List Terminal) (x : X) → Spells ts x → room < high x → read room ts ≡ Err TooHigh
  pub sound : (room : ℕ) (ts : List Terminal) (x : X) → read room ts ≡ Ok x → Spells ts x × (high x ≤ room)
  pub low : (ts : List Terminal) (x : X) → Spells ts x → high x ≤ 7 * weight ts + 7

tried_high : {X : Type 0} (read : ℕ → List Terminal → Result X Refusal) (ts : List Terminal) → read 64 ts ≡ Err TooHigh
    → bounded read ts ≡ cond (nat_le (weight ts) 64) (again (read 455 ts)) (Err TooHigh)
tried_high read ts h = rw h refl

tried_reads : {X : Type 0} (Spells : List Terminal → X → Type 0) (high : X → ℕ) (read : ℕ → List Terminal → Result X Refusal) → ReadsInRoom Spells high read
    → (ts : List Terminal) (x : X) → Spells ts x → high x ≤ 64 → bounded read ts ≡ Ok x
tried_reads Spells high read r ts x s low = rw (r.reads 64 ts x s low) refl

tried_refuses : {X : Type 0} (Spells : List Terminal → X → Type 0) (high : X → ℕ) (read : ℕ → List Terminal → Result X Refusal) → ReadsInRoom Spells high read
    → (ts : List Terminal) (x : X) → Spells ts x → 64 < high x → bounded read ts ≡ Err TooHigh
tried_refuses Spells high read r ts x s above =
    tried_high read ts (r.refuses 64 ts x s above) ∙ elim (low_or_high (weight ts) 64) [
      | inl h ↦ rw (le-leb (weight ts) 64 h) (ap again (r.reads 455 ts x s (omega (arith, r.low ts x s, h))))
      | inr h ↦ rw (lt-leb (weight ts) 64 h) refl
    ]

pub tried_sound : {X : Type 0} (Spells : List Terminal → X → Type 0) (high : X → ℕ) (read : ℕ → List Terminal → Result X Refusal) → ReadsInRoom Spells high read
    → (ts : List Terminal) (x : X) → bounded read ts ≡ Ok x → Spells ts x × (high x ≤ 64)
tried_sound {X} Spells high read r ts x g =
    let again_no : (a : Result X Refusal) → ◌≡◌ {A = Result X Refusal} (again a) (Ok x) → ⊥ = elim [ Ok y ↦ (λ h. absurd (cc)) | Err f ↦ (λ h. absurd (cc)) ] in
    let few_no : (b : Bool) → ◌≡◌ {A = Result X Refusal} (cond b (again (read 455 ts)) (Err TooHigh)) (Ok x) → ⊥ = elim [ true ↦ again_no (read 455 ts) | false ↦ (λ h. absurd (cc)) ] in
    let go : (a : Result X Refusal) → read 64 ts ≡ a → judged (nat_le (weight ts) 64) a (read 455 ts) ≡ Ok x → Spells ts x × (high x ≤ 64) = elim [
      | Ok d ↦ (λ p q. subst (λ y. Spells ts y × (high y ≤ 64)) (ok_same d x q) (r.sound 64 ts d p))
      | Err Syntax ↦ (λ p q. absurd (cc))
      | Err TooHigh ↦ (λ p q. absurd (few_no (nat_le (weight ts) 64) q))
    ]
    in go (read 64 ts) refl g

-- what is refused as not spelled is not
pub tried_out : {X : Type 0} (Spells : List Terminal → X → Type 0) (high : X → ℕ) (read : ℕ → List Terminal → Result X Refusal) → ReadsInRoom Spells high read
    → (ts : List Terminal) → bounded read ts ≡ Err Syntax → (x : X) → Spells ts x → ⊥
tried_out {X} Spells high read r ts g x s =
    elim (low_or_high (high x) 64) [
      | inl h ↦ (let p : ◌≡◌ {A = Result X Refusal} (Ok x) (Err Syntax) = sym (tried_reads Spells high read r ts x s h) ∙ g in absurd (cc))
      | inr h ↦ (let p : ◌≡◌ {A = Result X Refusal} (Err TooHigh) (Err Syntax) = sym (tried_refuses Spells high read r ts x s h) ∙ g in absurd (cc))
    ]

wide_told : {X : Type 0} (Spells : List Terminal → X → Type 0) (high : X → ℕ) (read : ℕ → List Terminal → Result X Refusal) → ReadsInRoom Spells high read
    → (ts : List Terminal) → ((x : X) → Spells ts x → ⊥) → (w : Result X Refusal) → read 455 ts ≡ w → again w ≡ Err TooHigh → ⊥
wide_told Spells high read r ts outside (Ok d) p h = outside d (r.sound 455 ts d p).0
wide_told {X} Spells high read r ts outside (Err f) p h = absurd (let bad : ◌≡◌ {A = Result X Refusal} (Err Syntax) (Err TooHigh) = h in cc)

few_told : {X : Type 0} (Spells : List Terminal → X → Type 0) (high : X → ℕ) (read : ℕ → List Terminal → Result X Refusal) → ReadsInRoom Spells high read
    → (ts : List Terminal) → ((x : X) → Spells ts x → ⊥) → (a : Result X Refusal) → judged true a (read 455 ts) ≡ Err TooHigh → ⊥
few_told Spells high read r ts outside (Ok d) h = absurd (cc)
few_told {X} Spells high read r ts outside (Err Syntax) h = absurd (let bad : ◌≡◌ {A = Result X Refusal} (Err Syntax) (Err TooHigh) = h in cc)
few_told Spells high read r ts outside (Err TooHigh) h = wide_told Spells high read r ts outside (read 455 ts) refl h

many_of : {X : Type 0} (Spells : List Terminal → X → Type 0) (high : X → ℕ) (read : ℕ → List Terminal → Result X Refusal) → ReadsInRoom Spells high read
    → (ts : List Terminal) → ((x : X) → Spells ts x → ⊥) → bounded read ts ≡ Err TooHigh → 64 < weight ts
many_of Spells high read r ts outside g =
    elim (low_or_high (weight ts) 64) [
      | inl h ↦ absurd (few_told Spells high read r ts outside (read 64 ts) (ap (λ b. judged b (read 64 ts) (read 455 ts)) (sym (le-leb (weight ts) 64 h)) ∙ g))
      | inr h ↦ h
    ]

high_of : {X : Type 0} (Spells : List Terminal → X → Type 0) (high : X → ℕ) (read : ℕ → List Terminal → Result X Refusal) → ReadsInRoom Spells high read
    → (ts : List Terminal) (d : X) → Spells ts d → bounded read ts ≡ Err TooHigh → 64 < high d
high_of {X} Spells high read r ts d s g =
    elim (low_or_high (high d) 64) [
      | inl h ↦ absurd (let p : ◌≡◌ {A = Result X Refusal} (Ok d) (Err TooHigh) = sym (tried_reads Spells high read r ts d s h) ∙ g in cc)
      | inr h ↦ h
    ]

-- what is refused as too high is so, or is not spelled and has many heavy terminals
pub tried_told : {X : Type 0} (Spells : List Terminal → X → Type 0) (high : X → ℕ) (read : ℕ → List Terminal → Result X Refusal) → ReadsInRoom Spells high read
    → (ts : List Terminal) → bounded read ts ≡ Err TooHigh → ((x : X) × Spells ts x × (64 < high x)) ⊎ (((x : X) → Spells ts x → ⊥) × (64 < weight ts))
tried_told {X} Spells high read r ts g =
    let room : ℕ = 7 * weight ts + 7 in
    let go : (a : Result X Refusal) → read room ts ≡ a → ((x : X) × Spells ts x × (64 < high x)) ⊎ (((x : X) → Spells ts x → ⊥) × (64 < weight ts)) = elim [
      | Ok d ↦ (λ p. let s = (r.sound room ts d p).0 in inl (d, s, high_of Spells high read r ts d s g))
      | Err f ↦ (λ p.
          let outside : (x : X) → Spells ts x → ⊥ = λ x s. (let q : ◌≡◌ {A = Result X Refusal} (Ok x) (Err f) = sym (r.reads room ts x s (r.low ts x s)) ∙ p in absurd (cc)) in
          inr (outside, many_of Spells high read r ts outside g))
    ]
    in go (read room ts) refl
