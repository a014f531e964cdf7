-- Which lines pass a session's cursor by.
use Rattle.std.proofs.Common.{◌≡◌, ℕ, List, [], ◌++◌, refl, ap, sym, ◌∙◌, subst, inl, inr, codes, decimal, get_or, arith}
use Rattle.std.proofs.lemmas.List.{append_cancel_left, append_assoc}
use Rattle.med_value.specs.declared.cause.Cause.{Cause}
use Rattle.med_syntax.specs.Prelude.{Name, select, declare, fetch, close}
use Rattle.med_parser.specs.CommandTree.{CommandTree, on_cursors}
use Rattle.med_parser.specs.CommandGrammar.{HasCommand}
use Rattle.sql_meaning.specs.Prelude.{AskedLine, sql, bye, done, refused, line, refusal, tag_line, reply_text}
use Rattle.session_wire.specs.Frames.{IsFrame}
use Rattle.session_wire.proofs.UniqueFrames.{one_frame}
use Rattle.session_wire.specs.Exchanges.{Exchange}
use Rattle.session_wire.specs.Fetching.{Commands, EndsCursor, by_close, by_bye, by_declare, PassesBy}

-- a text has one tree: a law of the grammar
abbrev pub OneTree : Type 0
OneTree = (text : List ℕ) (a b : CommandTree) → HasCommand text a → HasCommand text b → a ≡ b

line_is : (sid : ℕ) (says : List ℕ) → line sid says ≡ decimal sid ++ ((codes " " ++ says) ++ codes "\n")
line_is sid says = ap (λ (l : List ℕ). l ++ codes "\n") (append_assoc (decimal sid) (codes " ") says) ∙ append_assoc (decimal sid) (codes " " ++ says) (codes "\n")

differ : (m n : ℕ) → m ≡ 69 → n ≡ 84 → m ≡ n → ⊥
differ m n a b e = omega arith

-- a refusal is the text of no tag
pub done_refused : (sid : ℕ) (tag : List ℕ) (c : Cause) → reply_text sid (refused c) ≡ reply_text sid (done tag) → ⊥
done_refused sid tag c e =
    let others = append_cancel_left (decimal sid) ((codes " " ++ refusal c) ++ codes "\n") ((codes " " ++ tag_line tag) ++ codes "\n")
    (sym (line_is sid (refusal c)) ∙ e ∙ line_is sid (tag_line tag)) in
    differ 69 84 refl refl (ap (λ (l : List ℕ). get_or l 1 0) others)

refused_ends : (sid : ℕ) (name : Name) (e : Exchange) (c : Cause) → e.reply ≡ reply_text sid (refused c) → EndsCursor sid name e → ⊥
refused_ends sid name e c told (by_close asks h) = done_refused sid (codes "CLOSE CURSOR") c (sym told ∙ h)
refused_ends sid name e c told (by_bye asks h) = done_refused sid (codes "BYE") c (sym told ∙ h)
refused_ends sid name e c told (by_declare q h) = done_refused sid (codes "DECLARE CURSOR") c (sym told ∙ h.told)

pub refused_passes : (sid : ℕ) (name : Name) (e : Exchange) (c : Cause) → e.reply ≡ reply_text sid (refused c) → PassesBy sid name e
refused_passes sid name e c told = record { no_rows = inr (c, told); no_end = refused_ends sid name e c told }

-- a line that is no request of the session
pub other_passes : (sid : ℕ) (name : Name) (e : Exchange) → ((request : AskedLine) → IsFrame e.text sid request → ⊥) → PassesBy sid name e
other_passes sid name e none = record { no_rows = inl (λ asked h. none (sql h.0) h.1); no_end = ends }
  where
    ends : EndsCursor sid name e → ⊥
    ends (by_close asks h) = none (sql asks.0) asks.1
    ends (by_bye asks h) = none bye asks
    ends (by_declare q h) = none (sql h.asks.0) h.asks.1

-- the statement is on the cursor of this name
abbrev pub IsOn : Name → CommandTree → Type 0
IsOn name (on_cursors (declare other q)) = other ≡ name
IsOn name (on_cursors (fetch asked other)) = other ≡ name
IsOn name (on_cursors (close other)) = other ≡ name
IsOn name tree = ⊥

-- a line has one tree
pub tree_of : OneTree → (sid : ℕ) (e : Exchange) (query : List ℕ) (a b : CommandTree) → IsFrame e.text sid (sql query) → HasCommand query a → Commands e sid b → b ≡ a
tree_of law sid e query a b frame has h =
    let same : h.0 ≡ query = ap text_of (one_frame e.text sid sid (sql h.0) (sql query) h.1 frame).1 in
    law query b a (subst (λ (t : List ℕ). HasCommand t b) same h.2) has
  where
    text_of : AskedLine → List ℕ
    text_of (sql t) = t
    text_of other = []

pub tree_passes : OneTree → (sid : ℕ) (name : Name) (e : Exchange) (query : List ℕ) (tree : CommandTree) → IsFrame e.text sid (sql query) → HasCommand query tree → (IsOn name tree → ⊥) → PassesBy sid name e
tree_passes law sid name e query tree frame has off = record {
  no_rows = inl (λ asked h. off (subst (IsOn name) (tree_of law sid e query tree (on_cursors (fetch asked name)) frame has h) refl));
  no_end = ends;
}
  where
    ends : EndsCursor sid name e → ⊥
    ends (by_close asks h) = off (subst (IsOn name) (tree_of law sid e query tree (on_cursors (close name)) frame has asks) refl)
    ends (by_bye asks h) = (let no : sql query ≡ bye = (one_frame e.text sid sid (sql query) bye frame asks).1 in cc)
    ends (by_declare q h) = off (subst (IsOn name) (tree_of law sid e query tree (on_cursors (declare name (select q))) frame has h.asks) refl)
