-- The bytes, the places and the integers of tables that go into drafts, and come out of them.
use Rattle.std.proofs.Common.{◌≡◌, ◌*◌, ◌++◌, ◌∙◌, ℕ, ℤ, Bool, true, List, Option, length, map, take, drop, ap, sym, subst}
use Rattle.jsonl_wrapper.specs.declared.lines.Span.{Span}
use Rattle.jsonl_wrapper.specs.declared.table.JsonTable.{JsonTable}
use Rattle.jsonl_wrapper.specs.declared.exchange.Exchange.{Exchange}
use Rattle.jsonl_wrapper.specs.Fields.{Reader}
use Rattle.jsonl_wrapper.specs.Lines.{lines_at, moved, IsImage}
use Rattle.jsonl_wrapper.specs.Tables.{readers_in, lines_in}
use Rattle.jsonl_wrapper.specs.Wholes.{whole_is, whole_readers, wholes_of}
use Rattle.jsonl_wrapper.specs.Rises.{first_column, AreTold}
use Rattle.jsonl_wrapper.specs.declared.drafting.Parts.{Parts}
use Rattle.jsonl_wrapper.specs.declared.drafting.Splices.{Splices}
use Rattle.jsonl_wrapper.specs.Changes.{Exchanges}
use Rattle.jsonl_wrapper.specs.Drafts.{places_after}
use Rattle.jsonl_wrapper.specs.Keeping.{AreSpliced}
use Rattle.wrapper_parts.specs.Splices.{before_of, after_of}
use Rattle.jsonl_wrapper.proofs.ExchangeLaws.{stands_as, lines_are, wholes_exchanged}

abbrev Lines : Type 0
Lines = List (List ℕ)

-- what holds of the bytes, the places and the integers of a table
pub record Stands (readers : List Reader) (is_image rises : Bool) (content : List ℕ) (spans : List Span) (wholes : List (Option ℤ)) : Type 0 where
  pub image : is_image ≡ true → IsImage content spans (lines_at content spans)
  pub kept : map whole_is wholes ≡ wholes_of readers (lines_at content spans)
  pub risen : rises ≡ true → AreTold (first_column readers (lines_at content spans))

-- it holds of the same ones
pub stands_again : (t : JsonTable) (content : List ℕ) (spans : List Span) (wholes : List (Option ℤ)) → content ≡ t.content.items
    → spans ≡ t.lines.items → wholes ≡ t.wholes.items → Stands (readers_in t) t.is_image t.rises content spans wholes
stands_again t content spans wholes ec es ew =
    let same : lines_at content spans ≡ lines_in t = ap (λ (bytes : List ℕ). lines_at bytes spans) ec ∙ ap (lines_at t.content.items) es in
    record {
      image = λ is. stands_as t.content.items content t.lines.items spans (lines_in t) ec es (t.image is);
      kept = ap (map whole_is) ew ∙ t.kept ∙ ap (wholes_of (readers_in t)) (sym same);
      risen = λ is. subst (λ (ls : Lines). AreTold (first_column (readers_in t) ls)) (sym same) (t.risen is);
    }

-- and of those after an exchange
pub stands_after : (t : JsonTable) (x : Exchange) (lines : Lines) (stays : Bool) (content : List ℕ) (spans : List Span) (wholes : List (Option ℤ))
    → Exchanges t x lines → (stays ≡ true → AreTold (first_column (readers_in t) lines))
    → content ≡ take x.first t.content.items ++ x.made.image.content.items ++ drop x.end t.content.items
    → spans ≡ take x.from t.lines.items ++ x.made.image.lines.items ++ map (moved x.end x.base) (drop x.to t.lines.items)
    → wholes ≡ take (x.from * length (whole_readers (readers_in t))) t.wholes.items ++ x.made.wholes.items
    ++ drop (x.to * length (whole_readers (readers_in t))) t.wholes.items
    → Stands (readers_in t) true stays content spans wholes
stands_after t x lines stays content spans wholes is told ec es ew =
    let same : lines_at content spans ≡ lines = lines_are _ content _ spans lines ec es is.image in
    record {
      image = λ e. stands_as _ content _ spans lines ec es is.image;
      kept = ap (map whole_is) ew ∙ wholes_exchanged t x lines is ∙ ap (wholes_of (readers_in t)) (sym same);
      risen = λ e. subst (λ (ls : Lines). AreTold (first_column (readers_in t) ls)) (sym same) (told e);
    }

pub three_same : {X : Type 0} (a b c x y z : List X) → a ≡ x → b ≡ y → c ≡ z → a ++ b ++ c ≡ x ++ y ++ z
three_same {X} a b c x y z ea eb ec =
    ap (λ (l : List X). l ++ b ++ c) ea ∙ ap (λ (l : List X). x ++ l ++ c) eb ∙ ap (λ (l : List X). x ++ y ++ l) ec

-- the parts of a table
abbrev pub parts_of : JsonTable → Parts
parts_of t = record { content = t.content; lines = t.lines; wholes = t.wholes }

-- it holds of a table's parts before what an exchange brings, and after it
pub spliced_before : (t : JsonTable) (x : Exchange) (width : ℕ) (s : Splices) → AreSpliced (parts_of t) x width s
    → Stands (readers_in t) t.is_image t.rises (before_of s.content) (before_of s.lines) (before_of s.wholes)
spliced_before t x width s is = stands_again t (before_of s.content) (before_of s.lines) (before_of s.wholes) is.content is.lines is.wholes

pub spliced_after : (t : JsonTable) (x : Exchange) (width : ℕ) (s : Splices) (lines : Lines) (stays : Bool)
    → width ≡ length (whole_readers (readers_in t)) → AreSpliced (parts_of t) x width s → Exchanges t x lines
    → (stays ≡ true → AreTold (first_column (readers_in t) lines))
    → Stands (readers_in t) true stays (after_of s.content) (places_after s.lines x.end x.base) (after_of s.wholes)
spliced_after t x width s lines stays ew is ex told =
    stands_after t x lines stays (after_of s.content) (places_after s.lines x.end x.base) (after_of s.wholes) ex told is.image
    (three_same _ _ _ _ _ _ is.front is.middle (ap (map (moved x.end x.base)) is.back))
    (is.kept ∙ ap (λ (w : ℕ). take (x.from * w) t.wholes.items ++ x.made.wholes.items ++ drop (x.to * w) t.wholes.items) ew)
