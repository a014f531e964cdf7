use Rattle.med_statements.proofs.Ordered.{ready, answers, stops, begins}
use Rattle.med_statements.proofs.order_law.ordered_queries_answer.Goals as goal

pub returns-clause-ready : goal.returns-clause-ready
returns-clause-ready c = ready

pub returns-clause-answers : goal.returns-clause-answers
returns-clause-answers c = answers

pub returns-clause-stops : goal.returns-clause-stops
returns-clause-stops c = stops

pub returns-clause-begins : goal.returns-clause-begins
returns-clause-begins c = begins
