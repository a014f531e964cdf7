use Rattle.std.proofs.Common.{◌≡◌, ◌∙◌, true, false, List, ◌++◌, map, codes, refl, sym, subst, ap₂, inl, inr}
use Rattle.clap.specs.Words.{Text, kind_of}
use Rattle.fed_words.specs.Places.{Place, AreGood, AreRefused, place_in}
use Rattle.fed_words.specs.Names.{IsSourceName}
use Rattle.fed_words.specs.declared.places.PlaceKind.TheVariants.{Csv, JsonLines, Sqlite}
use Rattle.fed_words.specs.Words.{IsService, HasBadNumber}
use Rattle.fed_words.proofs.Parsed.{met_by, number_refused, no_faults, given, all_given, refused, owner_of, list_is_good, place_refused}
use Rattle.fed_words.proofs.words.read_words.Goals as goal

-- the words were not taken
pub returns-in-Err : goal.returns-in-Err
returns-in-Err g c = refused _ _ (kind_of c.in-Err.error) _ c.in-Ok.ensures c.in-Err.ensures.kinds c.refusal.ensures

-- a number is not in its range
pub returns-in_default-service_of : goal.returns-in_default-service_of
returns-in_default-service_of g c =
    let matches = c.in-Ok-try_get_matches_from.ensures in
    number_refused (map g.S.AsStr.text c.args.words.now) _ (no_faults _ _ c.in-Ok.ensures matches.kinds)
    (subst HasBadNumber (met_by _ _ _ c.in-Ok.ensures matches.matches) (c.service_of.ensures.none c.in_default-service_of.is)) c.number_refusal.ensures

-- the owner's name is bad
pub returns-then-not-is_source_name : goal.returns-then-not-is_source_name
returns-then-not-is_source_name g c =
    let matches = c.in-Ok-try_get_matches_from.ensures in
    let owner = owner_of _ _ _ _ c.unwrap_or-owner.ensures refl (c.value_of.ensures ∙ given (codes "owner") _ _ _ c.in-Ok.ensures matches.matches) in
    (no_faults _ _ c.in-Ok.ensures matches.kinds, inl ((λ h. let no : false ≡ true = c.if-not-is_source_name.ensures.1 h in cc), inl owner))

-- the list's is
pub returns-in-Err-list_of : goal.returns-in-Err-list_of
returns-in-Err-list_of g c =
    let matches = c.in-Ok-try_get_matches_from.ensures in
    let owner = owner_of _ _ _ _ c.unwrap_or-owner.ensures refl (c.value_of.ensures ∙ given (codes "owner") _ _ _ c.in-Ok.ensures matches.matches) in
    let bad = c.in-Err-list_of.ensures.bad in (
      no_faults _ _ c.in-Ok.ensures matches.kinds,
      inl (bad.1, inr (subst IsSourceName (sym owner) (c.if-not-is_source_name.ensures.0 refl), sym (given (codes "list") _ _ _ c.in-Ok.ensures matches.matches) ∙ bad.0)),
    )

-- a place is
pub returns-in-Err-places_of : goal.returns-in-Err-places_of
returns-in-Err-places_of g c =
    let matches = c.in-Ok-try_get_matches_from.ensures in
    let owner = owner_of _ _ _ _ c.unwrap_or-owner.ensures refl (c.value_of.ensures ∙ given (codes "owner") _ _ _ c.in-Ok.ensures matches.matches) in
    let good = c.in-Ok-list_of.ensures.good in
    let list = list_is_good _ _ (good.0 ∙ given (codes "list") _ _ _ c.in-Ok.ensures matches.matches) good.1 in
    let files = ap₂ (λ (a b : List Text). a ++ b) (all_given (codes "csv") _ _ _ c.in-Ok.ensures matches.matches) (all_given (codes "jsonl") _ _ _ c.in-Ok.ensures matches.matches) in
    let values = ap₂ (λ (a b : List Text). a ++ b) files (all_given (codes "sqlite") _ _ _ c.in-Ok.ensures matches.matches) in
    place_refused (map g.S.AsStr.text c.args.words.now) _ _ c.place_refusal.ensures (no_faults _ _ c.in-Ok.ensures matches.kinds)
    ((subst IsSourceName (sym owner) (c.if-not-is_source_name.ensures.0 refl), list), subst (λ (vs : List Text). AreRefused vs c.in-Err-places_of.fault) values c.in-Err-places_of.ensures.bad)

-- all are good
pub returns : goal.returns
returns g c =
    let matches = c.in-Ok-try_get_matches_from.ensures in
    let owner = owner_of _ _ _ _ c.unwrap_or-owner.ensures refl (c.value_of.ensures ∙ given (codes "owner") _ _ _ c.in-Ok.ensures matches.matches) in
    let good = c.in-Ok-list_of.ensures.good in
    let csv = all_given (codes "csv") _ _ _ c.in-Ok.ensures matches.matches in
    let jsonl = all_given (codes "jsonl") _ _ _ c.in-Ok.ensures matches.matches in
    let sqlite = all_given (codes "sqlite") _ _ _ c.in-Ok.ensures matches.matches in
    let files = ap₂ (λ (a b : List Text). map (place_in Csv) a ++ map (place_in JsonLines) b) csv jsonl in (
      no_faults _ _ c.in-Ok.ensures matches.kinds,
      record {
        owner = sym owner;
        is_owner = c.if-not-is_source_name.ensures.0 refl;
        list = good.0 ∙ given (codes "list") _ _ _ c.in-Ok.ensures matches.matches;
        is_list = good.1;
        places = c.in-Ok-places_of.ensures.read ∙ ap₂ (λ (a : List Place) (b : List Text). a ++ map (place_in Sqlite) b) files sqlite;
        are_places = subst AreGood (ap₂ (λ (a b : List Text). a ++ b) (ap₂ (λ (a b : List Text). a ++ b) csv jsonl) sqlite) c.in-Ok-places_of.ensures.good;
        init = c.value_of-init.ensures ∙ given (codes "init") _ _ _ c.in-Ok.ensures matches.matches;
        service = subst (λ met. IsService met c.in-Some.service) (met_by _ _ _ c.in-Ok.ensures matches.matches) c.in-Some.ensures.some;
      },
    )
