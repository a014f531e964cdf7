use Rattle.fed_words.proofs.PlaceValues.{good_both, refused_first, refused_behind}
use Rattle.fed_words.proofs.words.places_of.Goals as goal

-- a value of CSV files is not taken
pub returns-in-Err-clause-bad : goal.returns-in-Err-clause-bad
returns-in-Err-clause-bad c = refused_first _ _ _ (refused_first _ _ _ c.in-Err.ensures.bad)

-- a value of JSON lines is not taken
pub returns-in-Err-push_places-clause-bad : goal.returns-in-Err-push_places-clause-bad
returns-in-Err-push_places-clause-bad c = refused_first _ _ _ (refused_behind _ _ _ c.in-Ok.ensures.good c.in-Err-push_places.ensures.bad)

-- all are good
pub returns-in-Ok-push_places-2-clause-good : goal.returns-in-Ok-push_places-2-clause-good
returns-in-Ok-push_places-2-clause-good c =
    good_both _ _ (good_both _ _ c.in-Ok.ensures.good c.in-Ok-push_places.ensures.good) c.in-Ok-push_places-2.ensures.good

-- a value of databases is not taken
pub returns-clause-bad : goal.returns-clause-bad
returns-clause-bad c =
    refused_behind _ _ _ (good_both _ _ c.in-Ok.ensures.good c.in-Ok-push_places.ensures.good) c.in-Err-push_places-2.ensures.bad
