use Rattle.std.proofs.Common.{sym, ◌∙◌, inr, subst, arith}
use Rattle.ilp_http.specs.Request.{HoldsRequest}
use Rattle.ilp_http.specs.Layout.{IsInBody, StayRefused}
use Rattle.ilp_http.proofs.LawLemmas.{not_early}
use Rattle.ilp_intake.proofs.IncomingLemmas.{Wants-in_body}
use Rattle.ilp_intake.proofs.incoming.Incoming.look.Goals as goal

pub invariant_of-self-in-InBody : goal.invariant_of-self-in-InBody
invariant_of-self-in-InBody c =
    let whole = c.in-InBody.whole in
    let same = c.as_slice.ensures.value ∙ sym c.in_ok-reserve_exact-in-InBody.ensures.items in
    let at = subst (λ octets. IsInBody octets whole) same c.in-InBody.ensures in
    record { short = omega (arith, at.more); bounded = at.room; wants = ∣ Wants-in_body _ whole at ∣₁ }

pub returns-in_ok-reserve_exact-in-InBody-clause-told : goal.returns-in_ok-reserve_exact-in-InBody-clause-told
returns-in_ok-reserve_exact-in-InBody-clause-told c =
    let same = c.as_slice.ensures.value ∙ sym c.in_ok-reserve_exact-in-InBody.ensures.items in
    λ holds. not_early _ (subst HoldsRequest (sym same) holds) (inr c.in-InBody.ensures.ends)

pub returns-in-Refused-clause-told : goal.returns-in-Refused-clause-told
returns-in-Refused-clause-told c = (c.in-Refused.field-0, subst (λ octets. StayRefused octets c.in-Refused.field-0) c.as_slice.ensures.value c.in-Refused.ensures)
