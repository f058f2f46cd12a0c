use Rattle.std.proofs.Common.{◌≡◌, ℕ, ◌+◌, ◌<◌, [], ◌∷◌, ◌++◌, Some, None, length, All, refl, sym, subst, rules, arith}
use Rattle.std.proofs.lemmas.Grind.{common_steps}
use Rattle.std.proofs.lemmas.List.Elements.{All-push}
use Rattle.toml.specs.Data.{Members, as_table}
use Rattle.toml.specs.View.{view, table_view}
use Rattle.ilp_fields.specs.Checks.{first_beside}
use Rattle.ilp_accounts.specs.Configuration.{peer_names, route_of}
use Rattle.ilp_accounts.proofs.Turns.{IsRead, taken, skipped}
use Rattle.ilp_warnings.proofs.Targets.{none}
use Rattle.ilp_warnings.proofs.routes.targets_of.Goals as goal
use Rattle.ilp_warnings.proofs.routes.targets_of.Goals.{in-Some+in_ok-push, in_default}

-- each value adds the peer of its table, if it is one
pub loop-value-preserved : goal.loop-value-preserved
loop-value-preserved c =
    let turn = c.loop-value in
    let names = peer_names c.args.config.now.peers in
    let give = λ (t : Members). (route_of names t).peer in
    let IsKnown = λ (peer : ℕ). peer < length c.args.config.now.peers in
    elim c.match-as_table.branch [
      | in-Some+in_ok-push w ↦
          let t = table_view w.in-Some.table.now in
          let some : as_table (view c.value-item.result) ≡ Some t = search (rules, w.in-Some.ensures) in
          let pushed : c.match-as_table.targets.items ≡ turn.targets.items ++ give t ∷ [] = grind (arith, common_steps, w.targets-is, w.push.ensures, w.in_ok-push.ensures, w.target_of.ensures.is) in
          let known : IsKnown (give t) = subst IsKnown w.target_of.ensures.is w.target_of.ensures.known in
          let read = taken none give c.args.values.now turn.value-index c.value-item.result t turn.targets.items c.loop-value-test.true c.value-item.is some refl turn.invariant.1 in (
            subst (λ peers. All IsKnown peers) (sym pushed) (All-push IsKnown turn.targets.items (give t) turn.invariant.0 known),
            subst (λ peers. IsRead (first_beside none give) give c.args.values.now (turn.value-index + 1) peers) (sym pushed) read,
          )
      | in_default w ↦
          let no_table : as_table (view c.value-item.result) ≡ None = search (rules, w.in_default.ensures) in
          rw w.targets-is (turn.invariant.0, skipped none give c.args.values.now turn.value-index c.value-item.result turn.targets.items c.loop-value-test.true c.value-item.is no_table turn.invariant.1)
    ]
