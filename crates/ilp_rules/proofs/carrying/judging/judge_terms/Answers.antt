use Rattle.std.proofs.Common.{ap, ◌∙◌, rules, arith}
use Rattle.std.specs.Prelude.{FitsSigned, pos, ◌+ℤ◌}
use Rattle.std.specs.Int.{w64}
use Rattle.std.proofs.lemmas.Int.{to_z-of_z}
use Rattle.ilp_rules.proofs.Judging.{ahead, up_to}
use Rattle.ilp_rules.proofs.carrying.judging.judge_terms.Goals as goal

pub returns-clause-ok : goal.returns-clause-ok
returns-clause-ok c =
    let h = c.args.hold.now in
    let moment_fits : FitsSigned w64 c.args.moment = search rules in
    let deadline_fits : FitsSigned w64 h.deadline = search rules in
    let last_fits : FitsSigned w64 c.after.result = search rules in
    let moment = to_z-of_z w64 c.args.moment moment_fits in
    let deadline = to_z-of_z w64 h.deadline deadline_fits in
    record {
      sender = omega (arith, c.if-peers-hold.false, c.peers-peers.ensures.count);
      receiver = omega (arith, c.if-peers-hold-2.false, c.peers-peers.ensures.count);
      different = c.if-hold.false;
      amount = omega (arith, c.if-max_packet-hold.false, c.max_packet.ensures);
      quoted = c.is_quoted.ensures.0 c.if-not-is_quoted.false;
      begins = ahead _ _ _ _ deadline moment c.if-hold-moment.false;
      ends = up_to _ _ _ _ (to_z-of_z w64 c.after.result last_fits ∙ (c.after.ensures ∙ (ap (λ t. t +ℤ pos c.max_hold_ms.result) moment ∙ ap (λ n. c.args.moment +ℤ pos n) c.max_hold_ms.ensures))) deadline c.if-after-hold.false;
    }
