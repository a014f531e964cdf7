use Rattle.std.proofs.Common.{◌≡◌, ◌∙◌, sym, ap, subst, false, List, Bor, Global}
use Rattle.std.specs.Prelude.{Ok, Err, String, Vec, Option, option_map}
use Rattle.std.specs.String.{string_bytes}
use Rattle.std.proofs.lemmas.Result.{err_from_is_err_and}
use Rattle.med_syntax.specs.declared.symbols.Symbol.{Symbol}
use Rattle.med_syntax.specs.Prelude.{ReadsAs, terminals_at, AreReadable, terminals_of, shapes_of, statement_tree, words_at, names_tree, write_tree}
use Rattle.med_syntax.specs.declared.query_symbols.Place.TheVariants.{Before}
use Rattle.query_reader.specs.QueryReading.{bounded_line}
use Rattle.write_parser.specs.WriteReading.{query_at, bounded_plain}
use Rattle.write_parser.proofs.WriteTokens.{Parted, query_parted}
use Rattle.write_parser.proofs.WriteRead.{plain_found, plain_low, plain_refused, given_found, given_low, query_refused, suffix_within, suffix_is, suffix_readable, refused_at, refused_as}
use Rattle.write_parser.proofs.write_tokens.write_of.Goals as goal

pub returns-in-Err-Refused-clause-found : goal.returns-in-Err-Refused-clause-found
returns-in-Err-Refused-clause-found c =
    let p = c.in_ok-symbols.ensures in
    let q = c.deref-in-Err-Refused.ensures.value in
    let same : terminals_of c.deref-in-Err-Refused.result.now ≡ terminals_at false (shapes_of c.args.tokens.now) = (cc) in
    let gives : ReadsAs write_tree c.bounded.result (bounded_plain (terminals_at false (shapes_of c.args.tokens.now))) = subst (λ ts. ReadsAs write_tree c.bounded.result (bounded_plain ts)) same c.bounded.ensures in
    plain_found (shapes_of c.args.tokens.now) c.bounded.result gives

pub returns-in-Err-Refused-clause-low : goal.returns-in-Err-Refused-clause-low
returns-in-Err-Refused-clause-low c =
    let p = c.in_ok-symbols.ensures in
    let q = c.deref-in-Err-Refused.ensures.value in
    let same : terminals_of c.deref-in-Err-Refused.result.now ≡ terminals_at false (shapes_of c.args.tokens.now) = (cc) in
    let gives : ReadsAs write_tree c.bounded.result (bounded_plain (terminals_at false (shapes_of c.args.tokens.now))) = subst (λ ts. ReadsAs write_tree c.bounded.result (bounded_plain ts)) same c.bounded.ensures in
    plain_low (shapes_of c.args.tokens.now) c.bounded.result gives

pub returns-in-Err-Refused-clause-refused : goal.returns-in-Err-Refused-clause-refused
returns-in-Err-Refused-clause-refused c =
    let p = c.in_ok-symbols.ensures in
    let q = c.deref-in-Err-Refused.ensures.value in
    let same : terminals_of c.deref-in-Err-Refused.result.now ≡ terminals_at false (shapes_of c.args.tokens.now) = (cc) in
    let gives : ReadsAs write_tree c.bounded.result (bounded_plain (terminals_at false (shapes_of c.args.tokens.now))) = subst (λ ts. ReadsAs write_tree c.bounded.result (bounded_plain ts)) same c.bounded.ensures in
    let q2 = c.deref.ensures.value in
    let first : terminals_of c.deref.result.now ≡ terminals_at false (shapes_of c.args.tokens.now) = (cc) in
    let at = refused_at (λ (x : String Global × Option (Vec (String Global) Global) × Bor (List Symbol)). ((string_bytes x.0, option_map names_tree x.1), terminals_of x.2.now)) c.in-Err-Refused.field-0 c.in-Err-Refused.field-0-0 (query_at (terminals_of c.deref.result.now)) c.in-Err-Refused.ensures (cc) in
    plain_refused (shapes_of c.args.tokens.now) c.in-Err-Refused.field-0-0 (ap query_at (sym first) ∙ at) c.bounded.result gives

pub overflow_sub-behind : goal.overflow_sub-behind
overflow_sub-behind c =
    let p = c.in_ok-symbols.ensures in
    let q = c.deref.ensures.value in
    let same : terminals_of c.deref.result.now ≡ terminals_at false (shapes_of c.args.tokens.now) = (cc) in
    let at : query_at (terminals_at false (shapes_of c.args.tokens.now)) ≡ Ok (((string_bytes c.in-Ok.table), (option_map names_tree c.in-Ok.columns)), (terminals_of c.in-Ok.rest.now)) = ap query_at (sym same) ∙ c.in-Ok.ensures in
    let y : Parted (shapes_of c.args.tokens.now) (string_bytes c.in-Ok.table) (option_map names_tree c.in-Ok.columns) (terminals_of c.in-Ok.rest.now) = query_parted (shapes_of c.args.tokens.now) ((string_bytes c.in-Ok.table), (option_map names_tree c.in-Ok.columns)) (terminals_of c.in-Ok.rest.now) at in
    suffix_within c.args.tokens.now (string_bytes c.in-Ok.table) (option_map names_tree c.in-Ok.columns) c.in-Ok.rest.now y

pub statement_of-requires : goal.statement_of-requires
statement_of-requires c =
    let p = c.in_ok-symbols.ensures in
    let q = c.deref.ensures.value in
    let same : terminals_of c.deref.result.now ≡ terminals_at false (shapes_of c.args.tokens.now) = (cc) in
    let at : query_at (terminals_at false (shapes_of c.args.tokens.now)) ≡ Ok (((string_bytes c.in-Ok.table), (option_map names_tree c.in-Ok.columns)), (terminals_of c.in-Ok.rest.now)) = ap query_at (sym same) ∙ c.in-Ok.ensures in
    let y : Parted (shapes_of c.args.tokens.now) (string_bytes c.in-Ok.table) (option_map names_tree c.in-Ok.columns) (terminals_of c.in-Ok.rest.now) = query_parted (shapes_of c.args.tokens.now) ((string_bytes c.in-Ok.table), (option_map names_tree c.in-Ok.columns)) (terminals_of c.in-Ok.rest.now) at in
    subst AreReadable (sym (suffix_is c.args.tokens.now (string_bytes c.in-Ok.table) (option_map names_tree c.in-Ok.columns) c.in-Ok.rest.now y)) (suffix_readable (shapes_of c.args.tokens.now) (string_bytes c.in-Ok.table) (option_map names_tree c.in-Ok.columns) (terminals_of c.in-Ok.rest.now) y c.requires)

pub returns-in_err-statement_of-in-Ok-clause-refused : goal.returns-in_err-statement_of-in-Ok-clause-refused
returns-in_err-statement_of-in-Ok-clause-refused c =
    let p = c.in_ok-symbols.ensures in
    let q = c.deref.ensures.value in
    let same : terminals_of c.deref.result.now ≡ terminals_at false (shapes_of c.args.tokens.now) = (cc) in
    let at : query_at (terminals_at false (shapes_of c.args.tokens.now)) ≡ Ok (((string_bytes c.in-Ok.table), (option_map names_tree c.in-Ok.columns)), (terminals_of c.in-Ok.rest.now)) = ap query_at (sym same) ∙ c.in-Ok.ensures in
    let y : Parted (shapes_of c.args.tokens.now) (string_bytes c.in-Ok.table) (option_map names_tree c.in-Ok.columns) (terminals_of c.in-Ok.rest.now) = query_parted (shapes_of c.args.tokens.now) ((string_bytes c.in-Ok.table), (option_map names_tree c.in-Ok.columns)) (terminals_of c.in-Ok.rest.now) at in
    let f = c.in_err-statement_of-in-Ok.field-0.0 in
    let gives = subst (λ us. ReadsAs statement_tree (Err f) (bounded_line (words_at (Before false) false us))) (suffix_is c.args.tokens.now (string_bytes c.in-Ok.table) (option_map names_tree c.in-Ok.columns) c.in-Ok.rest.now y) c.in_err-statement_of-in-Ok.ensures in
    let r = err_from_is_err_and c.from_residual-in_err-statement_of-in-Ok.result c.from_residual-in_err-statement_of-in-Ok.ensures.1 in
    refused_as (shapes_of c.args.tokens.now) f c.from_residual-in_err-statement_of-in-Ok.result (query_refused (shapes_of c.args.tokens.now) (string_bytes c.in-Ok.table) (option_map names_tree c.in-Ok.columns) (terminals_of c.in-Ok.rest.now) at y f gives) (cc)

pub returns-clause-found : goal.returns-clause-found
returns-clause-found c =
    let p = c.in_ok-symbols.ensures in
    let q = c.deref.ensures.value in
    let same : terminals_of c.deref.result.now ≡ terminals_at false (shapes_of c.args.tokens.now) = (cc) in
    let at : query_at (terminals_at false (shapes_of c.args.tokens.now)) ≡ Ok (((string_bytes c.in-Ok.table), (option_map names_tree c.in-Ok.columns)), (terminals_of c.in-Ok.rest.now)) = ap query_at (sym same) ∙ c.in-Ok.ensures in
    let y : Parted (shapes_of c.args.tokens.now) (string_bytes c.in-Ok.table) (option_map names_tree c.in-Ok.columns) (terminals_of c.in-Ok.rest.now) = query_parted (shapes_of c.args.tokens.now) ((string_bytes c.in-Ok.table), (option_map names_tree c.in-Ok.columns)) (terminals_of c.in-Ok.rest.now) at in
    given_found (shapes_of c.args.tokens.now) (string_bytes c.in-Ok.table) (option_map names_tree c.in-Ok.columns) (terminals_of c.in-Ok.rest.now) y c.in_ok-statement_of-in-Ok.field-0
    (subst (λ us. bounded_line (words_at (Before false) false us) ≡ Ok (statement_tree c.in_ok-statement_of-in-Ok.field-0)) (suffix_is c.args.tokens.now (string_bytes c.in-Ok.table) (option_map names_tree c.in-Ok.columns) c.in-Ok.rest.now y) c.in_ok-statement_of-in-Ok.ensures)

pub returns-clause-low : goal.returns-clause-low
returns-clause-low c = given_low _ c.in_ok-statement_of-in-Ok.field-0 c.in_ok-statement_of-in-Ok.ensures
