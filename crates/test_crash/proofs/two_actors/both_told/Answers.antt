use Rattle.test_crash.proofs.two_actors.both_told.Goals as goal

pub returns-in-Some-Some-clause-first : goal.returns-in-Some-Some-clause-first
returns-in-Some-Some-clause-first g c holds = rw c.in-Some-Some.is-0 at (c.requires.first holds)

pub returns-in-Some-Some-clause-second : goal.returns-in-Some-Some-clause-second
returns-in-Some-Some-clause-second g c holds = rw c.in-Some-Some.is-1 at (c.requires.second holds)
