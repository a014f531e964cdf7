-- The names of this crate that the crates above cite most, passed on from one place. Declares nothing.
pub use Rattle.tri_expr.specs.Aggregate.{aggregated, greater, is_present, lesser, number, total, whole_of}
pub use Rattle.tri_expr.specs.Laws.{HasValue, IgnoresOrder}
pub use Rattle.tri_expr.specs.Lists.{datum_eq, gather}
pub use Rattle.tri_expr.specs.Meaning.{OnClass, argument, has_cell, liked, meaning, means, shared, tree_meaning, tree_meanings}
pub use Rattle.tri_expr.specs.Outcome.{Answers, Fails, Is, Outcome, compared, compared_values, computed, computed_numbers, computed_values, first_fault, is_truth, is_zero, negated_value, opposite_value, or_else, over, passes, ranged, settled, size_of, strict, strict_two, tested, truth, turned, value_of}
pub use Rattle.tri_expr.specs.Tally.{best_of, better_of, finished, magnitude}
pub use Rattle.tri_expr.specs.Tree.{Tree, Trees, aggregate, all_of, asks, between, column, compare, compute, conjunct_trees, conjuncts_of_all, count_rows, literal, matches, negate, none, opposite, parameter, parenthesised, part, some_of, tree, trees, within}
pub use Rattle.tri_expr.specs.TreeParts.{adds_up, arguments_in, arguments_in_all, bare, bare_all, has_risky_tree, is_parenthesised, is_risky, is_risky_tree, same_tree}
pub use Rattle.tri_expr.specs.Verdict.{AnswersVerdict, fault_list, faults_told, is_in, is_met, is_refusal}
