use Rattle.ilp_starting.proofs.configuring.config_of.Goals as goal

pub returns-in-Ok-clause-toml : goal.returns-in-Ok-clause-toml
returns-in-Ok-clause-toml c = λ t is. c.in-Ok.ensures.toml t is

pub returns-in-Err-clause-toml : goal.returns-in-Err-clause-toml
returns-in-Err-clause-toml c = λ t is. (c.in-Err.fault, c.in-Err.ensures.toml t is, c.of_config.ensures)
