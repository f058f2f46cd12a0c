use Rattle.std.proofs.Common.{rules, tests}
use Rattle.ilp_remembered.proofs.Found.{asset_found}
use Rattle.ilp_remembered.proofs.change.change_of.Goals as goal

pub returns-in-Some-2 : goal.returns-in-Some-2
returns-in-Some-2 c =
    asset_found c.args.book.now.config c.args.book.now.entries c.args.text.now _ _ _ (search (rules, tests)) c.in_ok-peer.ensures c.in-None.is c.in_ok-peer-in-None.ensures c.in-Some-2.is
