use Rattle.std.proofs.Common.{subst}
use Rattle.ilp_tallies.specs.Tallies.{PlainTallies, EndsTotals}
use Rattle.ilp_tallies.proofs.Rebasing.{ends_totals}
use Rattle.ilp_tallies.proofs.tallies.Tallies.end_totals.Goals as goal

pub returns : goal.returns
returns g c =
    let i = c.self.inside in
    let before : PlainTallies = record {
      base = i.base;
      assets = i.assets.items;
      peers = i.peers.items;
      asks = i.asks.items;
      sums = i.sums.items;
      entries = i.entries;
      opened = i.opened;
      closed = i.closed;
      fulfilled = i.fulfilled;
    } in
    let after : PlainTallies = record before { base = c.args.base; sums = c.clear_totals.new.rows.items } in
    subst (λ (t : PlainTallies). EndsTotals t c.args.base after) c.self.view_is
    (ends_totals before c.args.base c.clear_totals.new.rows.items c.clear_totals.ensures.count c.clear_totals.ensures.rows)
