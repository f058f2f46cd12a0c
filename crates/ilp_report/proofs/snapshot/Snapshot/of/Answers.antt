use Rattle.ilp_report.proofs.BalanceLemmas.{told_balance}
use Rattle.ilp_report.proofs.snapshot.Snapshot.of.Goals as goal

pub invariant_of-result : goal.invariant_of-result
invariant_of-result g c = told_balance c.args.book.now _ _ c.entry.ensures.lawful c.in_ok-peer_accounts.ensures c.in_ok-all_asset_books.ensures
