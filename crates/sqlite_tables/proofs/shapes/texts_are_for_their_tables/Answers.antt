use Rattle.sqlite_tables.specs.Shapes.{orders_texts, people_texts}
use Rattle.sqlite_tables.proofs.shapes.texts_are_for_their_tables.Goals as goal

pub returns-clause-orders : goal.returns-clause-orders
returns-clause-orders c = orders_texts

pub returns-clause-people : goal.returns-clause-people
returns-clause-people c = people_texts
