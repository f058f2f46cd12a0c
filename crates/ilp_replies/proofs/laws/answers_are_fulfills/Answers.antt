use Rattle.ilp_replies.proofs.EngineMessages.{answer_spelled, spelled_answer}
use Rattle.ilp_replies.proofs.laws.answers_are_fulfills.Goals as goal

pub returns-clause-answer : goal.returns-clause-answer
returns-clause-answer c = answer_spelled

pub returns-clause-fulfill : goal.returns-clause-fulfill
returns-clause-fulfill c = spelled_answer
