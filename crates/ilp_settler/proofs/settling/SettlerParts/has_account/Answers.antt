use Rattle.std.proofs.Common.{◌≡◌, true, rules, sym, ◌∙◌}
use Rattle.ilp_settler.proofs.Halving.{noted}
use Rattle.ilp_settler.proofs.settling.SettlerParts.has_account.Goals as goal

-- the account was known
pub returns-else-not-knows_account-clause-kept : goal.returns-else-not-knows_account-clause-kept
returns-else-not-knows_account-clause-kept g c =
    let known : c.knows_account.result ≡ true = search rules in
    λ is. noted c.args.self.now.accounts c.args.peer (sym c.knows_account.ensures ∙ known)
