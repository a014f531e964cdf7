-- Which cause of a statement is told: what every statement shares. Each kind of statement then speaks of its own causes alone.
use Rattle.std.proofs.Common.{◌≡◌, ℕ, ◌<◌, ◌≤◌, ◌⊎◌, List, Some, is_some, refl, ap, sym, ◌∙◌, subst, arith, inl, inr, lit≤}
use Rattle.std.proofs.lemmas.Option.{same_Some}
use Rattle.med_value.specs.declared.cause.Cause.{Cause}
use Rattle.med_value.specs.declared.cause.Cause.TheVariants.{Protocol, NoConnection, Syntax, LiteralOutOfRange, NameTooLong, TooDeep, FetchZero}
use Rattle.med_parser.specs.CommandCauses.{SyntaxCauses}
use Rattle.sql_meaning.specs.Prelude.{opening, sql, bye, IsUser, Pick, World, Session, IsOpen, TreeCauses, IsStatementOf, Stands, IsPick, IsPickOf, IsTold, NoneStands, NoneBeforeState, NoneBeforeRun}
use Rattle.med_parser.specs.CommandTree.{CommandTree}
use Rattle.med_parser.specs.CommandGrammar.{HasCommand}
use Rattle.med_catalog.specs.DdlCauses.{phase}

-- a cause of the phase of syntax is of phase 2
pub syntax_phase : (text : List ℕ) (c : Cause) → SyntaxCauses text c → phase c ≡ 2
syntax_phase text Syntax h = refl
syntax_phase text LiteralOutOfRange h = refl
syntax_phase text NameTooLong h = refl
syntax_phase text TooDeep h = refl
syntax_phase text FetchZero h = refl
syntax_phase text _ h = absurd h.2

-- what a tree shows is of phase 3 and later: the laws of the crates that say which causes stand
abbrev pub AreLater : Type 0
AreLater = (w : World) (s : Session) (p : Pick) (tree : CommandTree) (c : Cause) → TreeCauses w s p tree c → 3 ≤ phase c

le_by : (a b n : ℕ) → a ≡ n → b ≡ n → a ≤ b
le_by a b n p q = omega arith

le_two : (a b m n : ℕ) → a ≡ m → b ≡ n → m ≤ n → a ≤ b
le_two a b m n p q h = omega arith

-- ---- the frame

pub told_protocol : (w : World) (sid : ℕ) (p : Pick) (user : List ℕ) → (IsOpen w sid ⊎ (IsUser user → ⊥)) → IsTold w sid p (opening user) Protocol
told_protocol w sid p user h = record { stands = inl (refl, h); least = least }
  where
    least : (d : Cause) → Stands w sid p (opening user) d → 1 ≤ phase d
    least d (inl s) = le_by 1 (phase d) 1 refl (ap phase s.0)
    least d (inr s) = absurd s

pub told_bye : (w : World) (sid : ℕ) (p : Pick) → (IsOpen w sid → ⊥) → IsTold w sid p bye NoConnection
told_bye w sid p h = record { stands = inl (refl, h); least = least }
  where
    least : (d : Cause) → Stands w sid p bye d → 1 ≤ phase d
    least d (inl s) = le_by 1 (phase d) 1 refl (ap phase s.0)
    least d (inr s) = absurd s

open_by : (w : World) (sid : ℕ) (s : Session) → w.sessions sid ≡ Some s → IsOpen w sid
open_by w sid s e = ap is_some e

-- ---- a statement

-- In this world the session is open as this one, and the text is a statement with this one tree, against which no cause of syntax stands.
pub record IsKnownAs (w : World) (sid : ℕ) (text : List ℕ) (s : Session) (tree : CommandTree) : Type 0 where
  pub is : IsStatementOf w sid (sql text) s tree
  pub clear : (d : Cause) → SyntaxCauses text d → ⊥
  pub one : (a b : CommandTree) → HasCommand text a → HasCommand text b → a ≡ b

-- what stands is shown by the tree
pub shown_by : (w : World) (sid : ℕ) (p : Pick) (text : List ℕ) (s : Session) (tree : CommandTree) → IsKnownAs w sid text s tree → (d : Cause) → Stands w sid p (sql text) d → TreeCauses w s p tree d
shown_by w sid p text s tree k d (inl f) = absurd (f.1 (open_by w sid s k.is.0))
shown_by w sid p text s tree k d (inr (inl f)) = absurd (k.clear d f)
shown_by w sid p text s tree k d (inr (inr (s2, t2, is, h))) =
    let es : s2 ≡ s = same_Some s2 s (sym is.0 ∙ k.is.0) in
    let et : t2 ≡ tree = k.one t2 tree is.1 k.is.1 in
    subst (λ (x : Session). TreeCauses w x p tree d) es (subst (λ (t : CommandTree). TreeCauses w s2 p t d) et h)

pub told_tree : (w : World) (sid : ℕ) (p : Pick) (text : List ℕ) (s : Session) (tree : CommandTree) (c : Cause) → IsKnownAs w sid text s tree → TreeCauses w s p tree c
    → ((d : Cause) → TreeCauses w s p tree d → phase c ≤ phase d) → IsTold w sid p (sql text) c
told_tree w sid p text s tree c k h least = record { stands = inr (inr (s, tree, k.is, h)); least = λ d x. least d (shown_by w sid p text s tree k d x) }

pub none_tree : (w : World) (sid : ℕ) (p : Pick) (text : List ℕ) (s : Session) (tree : CommandTree) → IsKnownAs w sid text s tree → ((d : Cause) → TreeCauses w s p tree d → ⊥) → NoneStands w sid p (sql text)
none_tree w sid p text s tree k none d x = none d (shown_by w sid p text s tree k d x)

pub before_tree : (w : World) (sid : ℕ) (text : List ℕ) (s : Session) (tree : CommandTree) → IsKnownAs w sid text s tree → ((p : Pick) (d : Cause) → TreeCauses w s p tree d → 4 < phase d) → NoneBeforeState w sid (sql text)
before_tree w sid text s tree k late p d x = late p d (shown_by w sid p text s tree k d x)

pub run_before : (w : World) (sid : ℕ) (text : List ℕ) (s : Session) (tree : CommandTree) → IsKnownAs w sid text s tree → ((p : Pick) (d : Cause) → TreeCauses w s p tree d → 5 < phase d) → NoneBeforeRun w sid (sql text)
run_before w sid text s tree k late p d x = late p d (shown_by w sid p text s tree k d x)

pub pick_tree : (w : World) (sid : ℕ) (p : Pick) (text : List ℕ) (s : Session) (tree : CommandTree) → IsKnownAs w sid text s tree → IsPick w s tree p → IsPickOf w sid (sql text) p
pick_tree w sid p text s tree k h s2 t2 is formed =
    let es : s ≡ s2 = same_Some s s2 (sym k.is.0 ∙ is.0) in
    let et : tree ≡ t2 = k.one tree t2 k.is.1 is.1 in
    subst (λ (x : Session). IsPick w x t2 p) es (subst (λ (t : CommandTree). IsPick w s t p) et h)

-- ---- a text that is no statement, or of a closed session

pub told_syntax : AreLater → (w : World) (sid : ℕ) (p : Pick) (text : List ℕ) (c : Cause) → IsOpen w sid → SyntaxCauses text c → IsTold w sid p (sql text) c
told_syntax law w sid p text c is_open h = record { stands = inr (inl h); least = least }
  where
    least : (d : Cause) → Stands w sid p (sql text) d → phase c ≤ phase d
    least d (inl s) = absurd (s.1 is_open)
    least d (inr (inl s)) = le_two (phase c) (phase d) 2 2 (syntax_phase text c h) (syntax_phase text d s) (lit≤ tt)
    least d (inr (inr (s, t, is, x))) = let q : phase c ≡ 2 = syntax_phase text c h in let r : 3 ≤ phase d = law w s p t d x in omega arith

pub told_closed : AreLater → (w : World) (sid : ℕ) (p : Pick) (text : List ℕ) → (IsOpen w sid → ⊥) → IsTold w sid p (sql text) NoConnection
told_closed law w sid p text h = record { stands = inl (refl, h); least = least }
  where
    least : (d : Cause) → Stands w sid p (sql text) d → 1 ≤ phase d
    least d (inl s) = le_by 1 (phase d) 1 refl (ap phase s.0)
    least d (inr (inl s)) = le_two 1 (phase d) 1 2 refl (syntax_phase text d s) (lit≤ tt)
    least d (inr (inr (s, t, is, x))) = let r : 3 ≤ phase d = law w s p t d x in omega arith

-- ---- what is picked

late : (a b : ℕ) → 3 ≤ a → a ≤ b → b ≡ 2 → ⊥
late a b h le e = omega arith

under : (a b d : ℕ) → a ≤ b → b ≡ 2 → 3 ≤ d → a ≤ d
under a b d h e late = omega arith

-- Where a cause of syntax stands against the text, the cause that is told under one pick is told under every other.
pub unpicked : AreLater → (w : World) (sid : ℕ) (p q : Pick) (text : List ℕ) (x c : Cause) → SyntaxCauses text x → IsTold w sid p (sql text) c
    → IsTold w sid q (sql text) c
unpicked law w sid p q text x c h told = record { stands = moved told.stands; least = least }
  where
    first : phase c ≤ phase x
    first = told.least x (inr (inl h))

    moved : Stands w sid p (sql text) c → Stands w sid q (sql text) c
    moved (inl f) = inl f
    moved (inr (inl f)) = inr (inl f)
    moved (inr (inr (s, t, is, f))) = absurd (late (phase c) (phase x) (law w s p t c f) first (syntax_phase text x h))

    least : (d : Cause) → Stands w sid q (sql text) d → phase c ≤ phase d
    least d (inl f) = told.least d (inl f)
    least d (inr (inl f)) = told.least d (inr (inl f))
    least d (inr (inr (s, t, is, f))) = under (phase c) (phase x) (phase d) first (syntax_phase text x h) (law w s q t d f)
