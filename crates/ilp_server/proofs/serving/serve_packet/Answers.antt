use Rattle.std.proofs.Common.{subst, refl, inl}
use Rattle.std.specs.Prelude.{ℕ, codes}
use Rattle.ilp_accounts.specs.Configuration.{Configuration}
use Rattle.ilp_server.specs.Fields.{values_in, IsFrom}
use Rattle.ilp_server.proofs.serving.serve_packet.Goals as goal

-- no peer's token is shown
pub returns-in_default-clause-served : goal.returns-in_default-clause-served
returns-in_default-clause-served g c =
    inl (subst (λ (C : Configuration). (peer : ℕ) → ¬ (IsFrom C (values_in c.args.request.now.headers (codes "authorization")) peer)) c.config.ensures c.in_default.ensures, (refl, refl))
