-- How large a query may be: how many cores it has, and how many entries FROM of each has.
use Rattle.std.specs.Prelude.{ℕ, suc, Bool, ◌||◌, nat_lt, List, length, sum_by}
use Rattle.std.specs.List.{list_any}
use Rattle.med_value.specs.Limits.{core_limit, entry_limit}
use Rattle.med_query.specs.Form.{ChainForm, CoreForm, Form}

-- the entries of FROM: the first of each chain, and those that are joined to it
abbrev pub entries_in : List ChainForm → ℕ
entries_in chains = sum_by (λ (c : ChainForm). suc (length c.joins)) chains

abbrev pub is_large_core : CoreForm → Bool
is_large_core f = nat_lt entry_limit (entries_in f.from)

-- a query has more cores than that, or FROM of one of its cores has more entries than it may have
abbrev pub is_large_form : Form → Bool
is_large_form f = nat_lt core_limit (length f.cores) || list_any is_large_core f.cores
