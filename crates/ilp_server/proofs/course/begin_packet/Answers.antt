use Rattle.std.proofs.Common.{subst, refl, ap, inl}
use Rattle.std.specs.Prelude.{ℕ, codes}
use Rattle.ilp_accounts.specs.Configuration.{Configuration}
use Rattle.ilp_server.specs.declared.course.Course.TheVariants.{Answered}
use Rattle.ilp_server.specs.Fields.{values_in, IsFrom}
use Rattle.ilp_server.proofs.course.begin_packet.Goals as goal

-- no peer's token is shown
pub returns-in_default : goal.returns-in_default
returns-in_default g c =
    record { begun = inl (subst (λ (C : Configuration). (peer : ℕ) → ¬ (IsFrom C (values_in c.args.request.now.headers (codes "authorization")) peer)) c.config.ensures c.in_default.ensures, (ap Answered c.refusal.ensures, refl)) }
