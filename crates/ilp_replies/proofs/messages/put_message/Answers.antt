use Rattle.std.proofs.Common.{sym, subst, rules}
use Rattle.std.specs.Prelude.{FitsSigned}
use Rattle.std.specs.Int.{w64}
use Rattle.std.proofs.lemmas.Int.{to_z-of_z}
use Rattle.ilp_terms.specs.Expiry.{IsMoment}
use Rattle.ilp_replies.proofs.EngineMessages.{message_fits}
use Rattle.ilp_replies.proofs.messages.put_message.Goals as goal

pub write_prepare-requires : goal.write_prepare-requires
write_prepare-requires g c =
    let fits : FitsSigned w64 c.args.expires = search rules in
    message_fits _ c.args.octets.now (subst IsMoment (sym (to_z-of_z w64 c.args.expires fits)) c.requires.moment) c.requires.within
