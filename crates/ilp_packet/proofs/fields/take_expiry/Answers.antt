use Rattle.std.proofs.Common.{◌∙◌, ap, sym, Ok, FitsSigned, to_z-of_z, rules, ℤ}
use Rattle.std.specs.Int.{w64}
use Rattle.ilp_packet.proofs.FieldLemmas.{expiry_at-chunk, expiry_at-refused}
use Rattle.ilp_packet.proofs.fields.take_expiry.Goals as goal

pub returns-in-Some : goal.returns-in-Some
returns-in-Some c =
    let named = c.in-Some.ensures.value in
    let fits : FitsSigned w64 c.in-Some.moment = search rules in
    expiry_at-chunk c.args.input.now c.in_ok-text.text.now c.in_ok-text.rest.now c.in_ok-text.ensures named.0
    ∙ ap (λ (m : ℤ). Ok (m, c.in_ok-text.rest.now)) (sym named.1 ∙ sym (to_z-of_z fits))

pub returns-in-None : goal.returns-in-None
returns-in-None c =
    expiry_at-refused c.args.input.now c.in_ok-text.text.now c.in_ok-text.rest.now c.in_ok-text.ensures c.in-None.ensures.value
