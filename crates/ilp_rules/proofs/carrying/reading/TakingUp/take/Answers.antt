use Rattle.ilp_rules.proofs.TakingUp.{went_on, went_past}
use Rattle.ilp_rules.proofs.carrying.reading.TakingUp.take.Goals as goal

pub returns-then-is_ok : goal.returns-then-is_ok
returns-then-is_ok g c = λ C period before so_far.
    went_on C period before c.args.self.now.taken c.take_up-self.result c.args.self.now.carrying c.take_up-self.new.self c.args.entry so_far c.if-is_ok.ensures.value
    c.take_up-self.ensures.ok c.take_up-self.ensures.err c.take_up-self.ensures.unchanged

pub returns-else-is_ok : goal.returns-else-is_ok
returns-else-is_ok g c = λ C period before so_far. went_past C period before c.args.self.now.taken c.args.self.now.carrying c.args.entry so_far c.if-is_ok.ensures.value
