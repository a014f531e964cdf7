-- Parts of a statement written one after the other.
use Rattle.std.proofs.Common.{◌≡◌, ℕ, List, [], ◌∷◌, ◌++◌, sym, ◌∙◌, ap, append_assoc}
use Rattle.med_lexer.specs.Printing.{behind_spaces}
use Rattle.med_syntax.specs.Prelude.{Terminal, ItemTree, JoinTree, ChainTree, GroupTree, KeyTree, CoreTree, StatementTree, select}
use Rattle.med_syntax.specs.Terminal as t
use Rattle.expr_writer.specs.ExprPrinting.{shapes_for, Wrote}
use Rattle.sql_print.specs.QueryPrinting.{item_written, others_written, join_written, joins_written, chain_written, group_written, key_written, union_written, unions_written, select_written, statement_written, printed_statement}
use Rattle.expr_writer.proofs.ExprPrints.{wrote_more, spaces_append}

-- ---- writing

-- each further part
pub others_next : {X : Type 0} (written : X → List Terminal) (o a b c : List ℕ) (x : X) (xs whole : List X) → a ++ behind_spaces (shapes_for (others_written written (x ∷ xs))) ≡ o ++ behind_spaces (shapes_for (others_written written whole)) →
    Wrote a b (t.Comma ∷ []) → Wrote b c (written x) → c ++ behind_spaces (shapes_for (others_written written xs)) ≡ o ++ behind_spaces (shapes_for (others_written written whole))
others_next written o a b c x xs whole same p q =
    let w : Wrote a c (t.Comma ∷ written x) = wrote_more a b c t.Comma (written x) p q in
    ap (λ y. y ++ behind_spaces (shapes_for (others_written written xs))) w.is ∙ append_assoc a (behind_spaces (shapes_for (t.Comma ∷ written x))) (behind_spaces (shapes_for (others_written written xs)))
    ∙ ap (λ y. a ++ y) (sym (spaces_append (t.Comma ∷ written x) (others_written written xs))) ∙ same

pub items_next : (o a b c : List ℕ) (x : ItemTree) (xs whole : List ItemTree) → a ++ behind_spaces (shapes_for (others_written item_written (x ∷ xs))) ≡ o ++ behind_spaces (shapes_for (others_written item_written whole)) →
    Wrote a b (t.Comma ∷ []) → Wrote b c (item_written x) → c ++ behind_spaces (shapes_for (others_written item_written xs)) ≡ o ++ behind_spaces (shapes_for (others_written item_written whole))
items_next = others_next item_written

pub chains_next : (o a b c : List ℕ) (x : ChainTree) (xs whole : List ChainTree) → a ++ behind_spaces (shapes_for (others_written chain_written (x ∷ xs))) ≡ o ++ behind_spaces (shapes_for (others_written chain_written whole)) →
    Wrote a b (t.Comma ∷ []) → Wrote b c (chain_written x) → c ++ behind_spaces (shapes_for (others_written chain_written xs)) ≡ o ++ behind_spaces (shapes_for (others_written chain_written whole))
chains_next = others_next chain_written

pub groups_next : (o a b c : List ℕ) (x : GroupTree) (xs whole : List GroupTree) → a ++ behind_spaces (shapes_for (others_written group_written (x ∷ xs))) ≡ o ++ behind_spaces (shapes_for (others_written group_written whole)) →
    Wrote a b (t.Comma ∷ []) → Wrote b c (group_written x) → c ++ behind_spaces (shapes_for (others_written group_written xs)) ≡ o ++ behind_spaces (shapes_for (others_written group_written whole))
groups_next = others_next group_written

pub keys_next : (o a b c : List ℕ) (x : KeyTree) (xs whole : List KeyTree) → a ++ behind_spaces (shapes_for (others_written key_written (x ∷ xs))) ≡ o ++ behind_spaces (shapes_for (others_written key_written whole)) →
    Wrote a b (t.Comma ∷ []) → Wrote b c (key_written x) → c ++ behind_spaces (shapes_for (others_written key_written xs)) ≡ o ++ behind_spaces (shapes_for (others_written key_written whole))
keys_next = others_next key_written

-- each further join
pub joins_next : (o a b : List ℕ) (x : JoinTree) (xs whole : List JoinTree) → a ++ behind_spaces (shapes_for (joins_written (x ∷ xs))) ≡ o ++ behind_spaces (shapes_for (joins_written whole)) →
    Wrote a b (join_written x) → b ++ behind_spaces (shapes_for (joins_written xs)) ≡ o ++ behind_spaces (shapes_for (joins_written whole))
joins_next o a b x xs whole same p =
    ap (λ y. y ++ behind_spaces (shapes_for (joins_written xs))) p.is ∙ append_assoc a (behind_spaces (shapes_for (join_written x))) (behind_spaces (shapes_for (joins_written xs)))
    ∙ ap (λ y. a ++ y) (sym (spaces_append (join_written x) (joins_written xs))) ∙ same

-- each further core
pub unions_next : (o a b : List ℕ) (x : CoreTree) (xs whole : List CoreTree) → a ++ behind_spaces (shapes_for (unions_written (x ∷ xs))) ≡ o ++ behind_spaces (shapes_for (unions_written whole)) →
    Wrote a b (union_written x) → b ++ behind_spaces (shapes_for (unions_written xs)) ≡ o ++ behind_spaces (shapes_for (unions_written whole))
unions_next o a b x xs whole same p =
    ap (λ y. y ++ behind_spaces (shapes_for (unions_written xs))) p.is ∙ append_assoc a (behind_spaces (shapes_for (union_written x))) (behind_spaces (shapes_for (unions_written xs)))
    ∙ ap (λ y. a ++ y) (sym (spaces_append (union_written x) (unions_written xs))) ∙ same

pub spaced : (s : StatementTree) (a b : List ℕ) → a ≡ [] → Wrote a b (statement_written s) → b ≡ 32 ∷ printed_statement s
spaced (select q) a b p w = w.is ∙ ap (λ y. y ++ behind_spaces (shapes_for (select_written q))) p
