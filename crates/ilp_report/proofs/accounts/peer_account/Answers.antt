use Rattle.std.proofs.Common.{◌≡◌, rules, ◌∙◌, ap, FitsSigned}
use Rattle.std.specs.Prelude.{string_bytes}
use Rattle.std.specs.Int.{w64, w128}
use Rattle.std.proofs.lemmas.Int.{to_z-of_z}
use Rattle.ilp_accounts.specs.Configuration.{Configuration, peer_at}
use Rattle.ilp_report.proofs.AmountLemmas.{near_is_narrow}
use Rattle.ilp_report.proofs.NameLemmas.{peer_name_is_short}
use Rattle.ilp_report.proofs.accounts.peer_account.Goals as goal

pub invariant_of-result : goal.invariant_of-result
invariant_of-result g c =
    let book = c.args.book.now in
    let peer = c.args.peer in
    let same = c.config-config.ensures.value in
    let named : string_bytes c.in_ok-from_str.field-0 ≡ (peer_at book.config peer).name =
    c.in_ok-from_str.ensures.ok ∙ c.name.ensures ∙ ap (λ (C : Configuration). (peer_at C peer).name) same in
    let low : FitsSigned w64 c.least.result = search rules in
    let wide : FitsSigned w128 c.balance.result = search rules in
    let owed = to_z-of_z w128 c.balance.result wide ∙ c.balance.ensures.value in
    let least = to_z-of_z w64 c.least.result low ∙ c.least.ensures ∙ ap (λ (C : Configuration). (peer_at C peer).least) same in
    record {
      short = rw named (peer_name_is_short book.config c.config-config.ensures.valid peer c.requires);
      narrow = rw (to_z-of_z w128 c.balance.result wide) (near_is_narrow c.balance.result c.balance.ensures.within);
      least = rw (owed, least) (c.balance.ensures.least peer c.requires);
    }
