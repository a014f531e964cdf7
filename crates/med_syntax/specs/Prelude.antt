-- The names of this crate that the crates above cite most, passed on from one place. Declares nothing.
pub use Rattle.med_syntax.specs.CursorTree.{CountTree, CursorTree, all_rows, close, cursor_height, declare, fetch, some_rows}
pub use Rattle.med_syntax.specs.CursorView.{count_tree, cursor_tree}
pub use Rattle.med_syntax.specs.DdlTree.{ColumnTree, DdlTree, MappingTree, OptionTree, ServerTree, TableTree, UserTree, create_mapping, create_server, create_table, create_wrapper, drop_mapping, drop_server, drop_table, drop_wrapper, everybody, session_user, user_named}
pub use Rattle.med_syntax.specs.DdlView.{column_tree, ddl_tree, mapping_tree, option_tree, server_tree, table_tree, user_tree}
pub use Rattle.med_syntax.specs.ExprAnswers.{ReadsAs, cause_of_read}
pub use Rattle.med_syntax.specs.ExprGrammar.{ExprCauses, HasExpr, IsExpression, IsHuge, TokenCauses, are_in_range, in_range}
pub use Rattle.med_syntax.specs.ExprReading.{Below, Parser, Read, Reads, after_minus, below, chain_of, chained, choose, closed, compare_of, is_comma, is_of, left_more, left_of, negated_of, others_after, primary_of, range_of, signed_of, within, ◌>>=◌}
pub use Rattle.med_syntax.specs.ExprSteps.{behind_minus_of, behind_of, is_mark, item_of, joined_of, op_of, operand_of, operator_of}
pub use Rattle.med_syntax.specs.ExprTerminals.{AreReadable, follows, terminal_at, terminals_at}
pub use Rattle.med_syntax.specs.ExprTree.{ExprTree, ExprTrees, Fits, IsExpr, among, between, binary, call, call_all, chain, column, column_spelling, compare, height, highest, level, like, minus, more, negation, negative, none, null, num, paren, parts_spelling, perhaps_not, spelling, spellings, status_terminal, tested, text, truth}
pub use Rattle.med_syntax.specs.ExprView.{expr_tree, expr_trees, step}
pub use Rattle.med_syntax.specs.ExprWeight.{again, bounded, bounded_of, is_heavy, weight}
pub use Rattle.med_syntax.specs.QueryCauses.{all_in_range, chain_in_range, core_in_range, count_in_range, item_in_range, join_in_range, key_in_range, limit_in_range, perhaps_in_range, select_in_range, statement_in_range}
pub use Rattle.med_syntax.specs.QueryGrammar.{HasStatement, IsEnd, IsLabel, IsLine, IsStatement, Spells, SpellsAlias, SpellsChain, SpellsCore, SpellsEntry, SpellsExpr, SpellsFlag, SpellsGroup, SpellsItem, SpellsJoin, SpellsJoins, SpellsKey, SpellsLabel, SpellsLimit, SpellsLimits, SpellsList, SpellsListed, SpellsNulls, SpellsOffset, SpellsOn, SpellsOthers, SpellsPerhaps, SpellsSelect, SpellsUnions, keywords}
pub use Rattle.med_syntax.specs.QueryTerminals.{AreWords, IsWord, is_free_keyword, is_one_of, keywords_at, label_of, place_behind, word_at, words_at}
pub use Rattle.med_syntax.specs.QueryTree.{ChainTree, CoreTree, EntryTree, GroupTree, ItemTree, JoinTree, KeyTree, LimitTree, SelectTree, StatementTree, chain_height, condition_height, core_height, cores_of, cross_join, highest_of, inner_join, item_height, join_height, key_height, left_join, no_limit, rows, select, select_height, statement_height, value}
pub use Rattle.med_syntax.specs.QueryView.{chain_tree, core_tree, entry_tree, group_tree, item_tree, items_tree, join_tree, key_tree, limit_tree, select_tree, statement_tree}
pub use Rattle.med_syntax.specs.Shapes.{IsLongName, deepens, shapes}
pub use Rattle.med_syntax.specs.SymbolView.{terminal_of_symbol, terminals_of}
pub use Rattle.med_syntax.specs.Terminal.{AreTerminals, IsTerminal, Terminal, mark_terminal, plain_word, terminal_of, word_terminal}
pub use Rattle.med_syntax.specs.Tree.{Name}
pub use Rattle.med_syntax.specs.View.{LexesOnly, cause_of, shapes_of}
pub use Rattle.med_syntax.specs.Words.{is_reserved}
pub use Rattle.med_syntax.specs.WriteTree.{DeleteTree, GivenTree, InsertTree, SetTree, UpdateTree, WriteTree, delete, given_height, insert, row_height, rows_of, set_height, update, update_height, values, write_height}
pub use Rattle.med_syntax.specs.WriteView.{delete_tree, given_tree, insert_tree, names_tree, row_tree, set_tree, update_tree, write_tree}
