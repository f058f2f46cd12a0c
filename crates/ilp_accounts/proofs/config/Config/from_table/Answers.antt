use Rattle.std.proofs.Common.{◌≡◌, None, rules, subst, string_bytes}
use Rattle.toml.specs.View.{table_view}
use Rattle.ilp_accounts.specs.Views.{plain_settings}
use Rattle.ilp_accounts.specs.Configuration.{Configuration, configuration}
use Rattle.ilp_accounts.specs.Faults.{first_fault}
use Rattle.ilp_accounts.specs.Valid.{IsValid}
use Rattle.ilp_accounts.proofs.ValidLaws.{valid}
use Rattle.ilp_accounts.proofs.config.Config.from_table.Goals as goal

pub invariant_of-result : goal.invariant_of-result
unfolding first_fault
invariant_of-result c =
    let made : Configuration = record { settings = plain_settings string_bytes c.in_ok-settings.settings; table = c.in_ok-assets.assets; peers = c.in_ok-peers.peers; routes = c.in_ok-routes.routes } in
    let none : first_fault (table_view c.args.table.now) ≡ None = search (rules, c.in_ok-fields.ensures, c.in_ok-arrays.ensures, c.in_ok-assets.ensures, c.in_ok-peers.ensures, c.in_ok-routes.ensures, c.in_ok-settings.ensures) in
    let is : configuration (table_view c.args.table.now) ≡ made = search (rules, c.in_ok-fields.ensures, c.in_ok-arrays.ensures, c.in_ok-assets.ensures, c.in_ok-peers.ensures, c.in_ok-routes.ensures, c.in_ok-settings.ensures) in
    subst (λ (k : Configuration). IsValid k) is (valid (table_view c.args.table.now) none)
