use Rattle.std.proofs.Common.{◌∙◌}
use Rattle.ilp_settlement.proofs.KeyLemmas.{found}
use Rattle.ilp_settlement.proofs.key_table.KeyTable.find.Goals as goal

-- the peer has no key
pub returns-in_err-keys : goal.returns-in_err-keys
returns-in_err-keys g c =
    c.from_residual.ensures ∙ found c.self.inside.peers c.args.peer c.args.key.now _ _ c.in_err-keys.ensures.value c.self.view_is

-- the peer has keys
pub returns : goal.returns
returns g c =
    c.copied.ensures ∙ c.get-2.ensures.value ∙ found c.self.inside.peers c.args.peer c.args.key.now _ _ c.in_ok-keys.ensures.value c.self.view_is
