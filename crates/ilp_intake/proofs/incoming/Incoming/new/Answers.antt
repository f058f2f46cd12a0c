use Rattle.std.proofs.Common.{sym, subst}
use Rattle.ilp_http.specs.declared.limits.TheConstants.{BUFFER_LENGTH}
use Rattle.ilp_intake.specs.Incoming.{Wants}
use Rattle.ilp_intake.specs.declared.incoming.Wanted.TheVariants.{LineFeed}
use Rattle.ilp_intake.proofs.IncomingLemmas.{Wants-first}
use Rattle.ilp_intake.proofs.incoming.Incoming.new.Goals as goal

pub invariant_of-result-clause-wants : goal.invariant_of-result-clause-wants
invariant_of-result-clause-wants c = ∣ subst (λ octets. Wants octets BUFFER_LENGTH (LineFeed 0)) (sym c.new.ensures.items) (Wants-first BUFFER_LENGTH) ∣₁
