use Rattle.std.proofs.Common.{◌≡◌, Ok, ap, arith}
use Rattle.std.proofs.lemmas.Grind.{common_steps}
use Rattle.ilp_journal.specs.declared.entry.What.TheVariants as what
use Rattle.ilp_journal_text.proofs.Numbers.{moment_kept}
use Rattle.ilp_journal_text.proofs.Same.{same_hold}
use Rattle.ilp_journal_text.proofs.parsing.hold_in.Goals as goal

pub returns-clause-read : goal.returns-clause-read
returns-clause-read c = λ h stands is.
    let from : c.in_ok-peer_in.field-0 ≡ h.from = grind (arith, common_steps, c.in_ok-peer_in.ensures.read h.from stands.from) in
    let to : c.in_ok-peer_in-2.field-0 ≡ h.to = grind (arith, common_steps, c.in_ok-peer_in-2.ensures.read h.to stands.to) in
    let amount : c.in_ok-amount_in.field-0 ≡ h.amount = grind (arith, common_steps, c.in_ok-amount_in.ensures h.amount stands.amount) in
    let fee : c.in_ok-amount_in-2.field-0 ≡ h.fee = grind (arith, common_steps, c.in_ok-amount_in-2.ensures h.fee stands.fee) in
    let out : c.in_ok-amount_in-3.field-0 ≡ h.out = grind (arith, common_steps, c.in_ok-amount_in-3.ensures h.out stands.out) in
    let read : c.in_ok-moment_in.field-0 ≡ h.deadline = grind (arith, common_steps, c.in_ok-moment_in.ensures.read h.deadline stands.deadline) in
    let condition : c.in_ok-octets_in.field-0 ≡ h.condition = grind (arith, common_steps, c.in_ok-octets_in.ensures.read h.condition stands.condition) in
    ap (λ hold. Ok (what.Hold hold)) (same_hold h _ _ _ _ _ _ _ from to amount fee out (moment_kept h.deadline c.in_ok-moment_in.field-0 stands.deadline read) condition)
