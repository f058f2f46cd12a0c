use Rattle.std.proofs.Common.{refl, sym, ◌∙◌}
use Rattle.std.specs.Prelude.{Ok, Err}
use Rattle.ilp_server.proofs.Responses.{none_failed_unread}
use Rattle.ilp_server.proofs.answering.answer_connection.Goals as goal

-- a request was read, and served
pub returns-in-Ok-clause-answers : goal.returns-in-Ok-clause-answers
returns-in-Ok-clause-answers g c = record {
  request = Ok c.in-Ok.request;
  read = c.in-Ok.ensures.answer;
  begun = c.in-Ok.ensures.begun;
  timely = c.in-Ok.ensures.timely;
  counted = c.in-Ok.ensures.counted;
  patient = c.in-Ok.ensures.patient;
  outcome = Ok c.serve-outcome.result;
  served = c.serve-outcome.ensures.served;
  told = c.respond.ensures.written;
  failed = c.respond.ensures.failed;
}

-- what was read is refused
pub returns-in-Ok-unread-clause-answers : goal.returns-in-Ok-unread-clause-answers
returns-in-Ok-unread-clause-answers g c = record {
  request = Err c.in-Err.fault;
  read = c.in-Err.ensures.answer;
  begun = tt;
  timely = c.in-Err.ensures.timely;
  counted = c.in-Err.ensures.counted;
  patient = c.in-Err.ensures.patient;
  outcome = Ok (Err c.in-Ok-unread.why);
  served = (c.in-Ok-unread.why, sym c.in-Ok-unread.ensures, refl, refl);
  told = c.respond-in-Ok-unread.ensures.written;
  failed = c.respond-in-Ok-unread.ensures.failed;
}

-- there is nothing to answer
pub returns-in-Err-unread-clause-answers : goal.returns-in-Err-unread-clause-answers
returns-in-Err-unread-clause-answers g c = record {
  request = Err c.in-Err.fault;
  read = c.in-Err.ensures.answer;
  begun = tt;
  timely = c.in-Err.ensures.timely;
  counted = c.in-Err.ensures.counted;
  patient = c.in-Err.ensures.patient;
  outcome = Err c.in-Err-unread.fault;
  served = (sym c.in-Err-unread.ensures, refl);
  told = (refl, refl);
  failed = none_failed_unread c.in-Err.fault c.in-Err-unread.fault _ (sym c.unread.ensures ∙ c.in-Err-unread.is);
}
