use Rattle.fed_hub.specs.Said.{exchanges_of}
use Rattle.fed_hub.proofs.serving.serve_hub.Goals as goal

pub returns-clause-worlds : goal.returns-clause-worlds
returns-clause-worlds g c = λ w agrees.
    let served = c.serve_peers.ensures.served in
    let follows = c.exchanged_worlds_follow.ensures _ _ (exchanges_of served.said) served.leads w agrees in (
      follows.0,
      record {
        said = served.said;
        leads = follows.1;
        each = served.each;
        cursors = c.cursors_keep_their_tables.ensures.each _ _ _
            follows.1;
      },
      follows.2,
    )
