use Rattle.std.proofs.Common.{arith}
use Rattle.ilp_replies.proofs.EngineMessages.{answer_is_short}
use Rattle.ilp_replies.proofs.messages.put_answer.Goals as goal

-- there is room for the Fulfill
pub unreachable-requires : goal.unreachable-requires
unreachable-requires g c =
    let short = answer_is_short c.args.answer.now c.if-answer-gt-MAX_MESSAGE.false in
    let written = c.write_fulfill.ensures.enough (omega (arith, short)) in
    let not_written = rw c.in_default.is at written in
    cc
