use Rattle.std.proofs.Common.{◌≢◌, ℕ, arith, rules}
use Rattle.ilp_warnings.specs.Meaning.{ReachesAtOnce}
use Rattle.ilp_warnings.proofs.Keeping.{one_more}
use Rattle.ilp_warnings.proofs.Levels.{failed}
use Rattle.ilp_warnings.proofs.peers.one_packet_of.Goals as goal
use Rattle.ilp_warnings.proofs.peers.one_packet_of.Goals.{else-sender-peer-via-then-sender-peer+else-does_one_packet, else-sender-peer-via-else-sender-peer}

-- each turn passes over one more, which does not reach it
pub loop-sender-preserved : goal.loop-sender-preserved
loop-sender-preserved c =
    let IsOver = λ (n : ℕ). n ≢ c.args.peer → ¬ ReachesAtOnce c.args.config.now n c.args.peer in
    one_more IsOver IsOver c.loop-sender.sender (λ n over. over) c.loop-sender.invariant
    (elim c.else-sender-peer.branch [
      | else-sender-peer-via-then-sender-peer+else-does_one_packet w ↦ λ differs h. failed _ w.if-does_one_packet.false (w.does_one_packet.ensures.1 h)
      | else-sender-peer-via-else-sender-peer w ↦ λ differs h. absurd (differs (search (rules, w.if-sender-peer)))
    ])

pub returns-clause-none : goal.returns-clause-none
returns-clause-none c = λ sender below differs h. c.loop-sender.invariant sender (omega (arith, below, c.peers-sender-end.ensures.count, c.loop-sender-test.false)) differs h
