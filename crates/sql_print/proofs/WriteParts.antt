-- Parts of a statement that writes rows, as the code has them.
use Rattle.std.proofs.Common.{◌≡◌, ℕ, List, [], ◌∷◌, ◌++◌, refl, ◌∙◌, ap}
use Rattle.med_lexer.specs.Printing.{behind_spaces}
use Rattle.med_syntax.specs.declared.statement.Statement.{Statement}
use Rattle.med_syntax.specs.declared.statement.Statement.TheVariants as s
use Rattle.med_syntax.specs.Prelude.{statement_tree, statement_in_range, WriteTree, insert, update, delete, given_tree}
use Rattle.expr_writer.specs.ExprPrinting.{shapes_for, Wrote}
use Rattle.med_syntax.specs.declared.write.Given.TheVariants as g
use Rattle.write_parser.specs.WriteCauses.{given_in_range}
use Rattle.sql_print.specs.WritePrinting.{insert_written, update_written, delete_written, write_written, printed_write}

pub query_in_range : (q : Statement) → given_in_range (given_tree (g.Rows q)) ≡ statement_in_range (statement_tree q)
query_in_range (s.Select q) = refl

pub spaced : (w : WriteTree) (a b : List ℕ) → a ≡ [] → Wrote a b (write_written w) → b ≡ 32 ∷ printed_write w
spaced (insert i) a b p w = w.is ∙ ap (λ y. y ++ behind_spaces (shapes_for (insert_written i))) p
spaced (update u) a b p w = w.is ∙ ap (λ y. y ++ behind_spaces (shapes_for (update_written u))) p
spaced (delete d) a b p w = w.is ∙ ap (λ y. y ++ behind_spaces (shapes_for (delete_written d))) p
