use Rattle.std.proofs.Common.{◌≡◌, map, drop, Some, None, arith, rules}
use Rattle.toml.specs.Data.{as_table}
use Rattle.toml.specs.View.{view, table_view}
use Rattle.ilp_fields.specs.Fields.{tables}
use Rattle.ilp_accounts.specs.Configuration.{peer_of}
use Rattle.ilp_accounts.specs.Faults.{peer_fault}
use Rattle.ilp_accounts.proofs.Passing.{few_so_far}
use Rattle.ilp_accounts.proofs.Turns.{taken, skipped}
use Rattle.std.proofs.lemmas.List.{length-map}
use Rattle.ilp_accounts.proofs.peers.peers_of.Goals as goal
use Rattle.ilp_accounts.proofs.peers.peers_of.Goals.{in-Some+in_ok-peers, in_default}

-- no more peers than values were read so far
pub with_peer-requires : goal.with_peer-requires
with_peer-requires c =
    let left = tables (map view (drop c.loop-value.value-index c.args.values.now)) in
    let few = few_so_far (peer_of c.args.assets.now.assets) c.loop-value.peers left (map view c.args.values.now) c.loop-value.invariant.whole in
    omega (arith, few, length-map c.args.values.now view, c.requires)

-- each value adds what its table gives, if it is one
pub loop-value-preserved : goal.loop-value-preserved
loop-value-preserved c =
    let known = c.args.assets.now.assets in
    let turn = c.loop-value in
    elim c.match-as_table.branch [
      | in-Some+in_ok-peers w ↦
          let some : as_table (view c.value-item.result) ≡ Some (table_view w.in-Some.table.now) = search (rules, w.in-Some.ensures) in
          rw (w.peers-is, w.in_ok-peers.ensures.ok) (taken (peer_fault known) (peer_of known) c.args.values.now turn.value-index c.value-item.result (table_view w.in-Some.table.now) turn.peers c.loop-value-test.true c.value-item.is some w.in_ok-peers.ensures.none turn.invariant)
      | in_default w ↦
          let none : as_table (view c.value-item.result) ≡ None = search (rules, w.in_default.ensures) in
          rw w.peers-is (skipped (peer_fault known) (peer_of known) c.args.values.now turn.value-index c.value-item.result turn.peers c.loop-value-test.true c.value-item.is none turn.invariant)
    ]
