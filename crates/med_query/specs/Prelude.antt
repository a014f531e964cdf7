-- The names of this crate that the crates above cite most, passed on from one place. Declares nothing.
pub use Rattle.med_query.specs.Causes.{IsShownCause, IsTooLarge, wrong_cause}
pub use Rattle.med_query.specs.Form.{ChainForm, CoreForm, Form, GroupForm, JoinForm, all_safe_trees, are_safe_chains, chain_by, chain_form, core_by, core_form, cross_form, direction_of, form_of, group_by, group_form, inner_form, is_risky_form, is_safe_join_form, join_by, join_form, joins_by, left_form, query_by}
pub use Rattle.med_query.specs.Laws.{AllIgnoreOrder, AnswersIgnoreOrder, AreSteady, IsSteady, IsSteadyCore}
pub use Rattle.med_query.specs.Lists.{distinct, tuple_eq}
pub use Rattle.med_query.specs.Query.{Chain, Core, Direction, Grouping, IsAnswer, IsTold, Output, Query, SameRows, Table, Tables, TellsFault, arguments_of, beside, class_faults, classes, classes_by, classes_of, core_faults, core_outputs, faults, has_class, has_key, having_of, joined, joined_chain, joined_chains, keeps, kept, kept_classes, key_of, keys_cmp, limited, matched, on_row, or_nulls, output, output_cmp, output_eq, output_faults, outputs, outputs_all, page, pairs, senses}
pub use Rattle.med_query.specs.Select.{are_safe_cores, chains_of, core_of, groups_of, is_safe_from, query_of, tables_of}
