use Rattle.ilp_client.proofs.exchange.post.Goals as goal

-- of any fault but that of a failed read, what the reading says
pub returns-in-Err-clause-timely : goal.returns-in-Err-clause-timely
returns-in-Err-clause-timely g c = λ other. c.in-Err.ensures.timely (λ same. other (cc))
