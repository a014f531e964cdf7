use Rattle.sqlite_looks.proofs.shaping.shape_at.Goals as goal

pub returns-in-Some-clause-looked : goal.returns-in-Some-clause-looked
returns-in-Some-clause-looked c table is = rw c.in-Some.is at (c.in_ok-shape.ensures.looked table is)

pub returns-in-Some-2-clause-looked : goal.returns-in-Some-2-clause-looked
returns-in-Some-2-clause-looked c table is = rw c.in-Some-2.is at (c.in_ok-shape-2.ensures.looked table is)

pub returns-in-Some-2-clause-page : goal.returns-in-Some-2-clause-page
returns-in-Some-2-clause-page c table is = rw c.in-Some-2.is at (c.in_ok-shape-2.ensures.page table is)
