-- What a function that reads expressions returns.
use Rattle.std.specs.Prelude.{◌≡◌, ℕ, ◌≤◌, Result, Ok, Err}
use Rattle.med_syntax.specs.declared.refusal.ReadFault.{ReadFault}
use Rattle.med_syntax.specs.declared.refusal.ReadFault.TheVariants as faults
use Rattle.expr_reader.specs.declared.found.Boxed.{Boxed}
use Rattle.expr_reader.specs.declared.found.FoundExpr.{FoundExpr}
use Rattle.expr_reader.specs.declared.found.Items.{Items}
use Rattle.med_syntax.specs.ExprTree.{height, highest}
use Rattle.med_syntax.specs.ExprReading.{Read, Reads}
use Rattle.med_syntax.specs.ExprView.{expr_tree, expr_trees}
use Rattle.med_syntax.specs.SymbolView.{terminals_of}

abbrev pub Answers : ℕ → Result FoundExpr ReadFault → Read → Type 0
Answers room (Ok f) read =
    (read ≡ Ok (expr_tree f.expr, terminals_of f.rest.now)) × (f.height ≡ height (expr_tree f.expr)) × (f.height ≤ room)
Answers room (Err faults.NoMemory) read = Unit {0}
Answers room (Err (faults.Refused e)) read = read ≡ Err e

abbrev pub AnswersBoxed : ℕ → Result Boxed ReadFault → Read → Type 0
AnswersBoxed room (Ok f) read =
    (read ≡ Ok (expr_tree f.expr.value, terminals_of f.rest.now)) × (f.height ≡ height (expr_tree f.expr.value)) × (f.height ≤ room)
AnswersBoxed room (Err faults.NoMemory) read = Unit {0}
AnswersBoxed room (Err (faults.Refused e)) read = read ≡ Err e

abbrev pub AnswersAll : ℕ → Result Items ReadFault → Reads → Type 0
AnswersAll room (Ok o) read =
    (read ≡ Ok (expr_trees o.list.items, terminals_of o.rest.now)) × (o.highest ≡ highest (expr_trees o.list.items)) × (o.highest ≤ room)
AnswersAll room (Err faults.NoMemory) read = Unit {0}
AnswersAll room (Err (faults.Refused e)) read = read ≡ Err e
