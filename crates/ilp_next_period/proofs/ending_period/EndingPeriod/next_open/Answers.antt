use Rattle.std.proofs.Common.{◌≡◌, ℕ, sym, subst, ap, ap₂, ◌∙◌, arith, length, IfSome}
use Rattle.ilp_journal.specs.Journal.{ask_at}
use Rattle.ilp_tallies.specs.Tallies.{KnowsAsk}
use Rattle.ilp_rules.specs.Book.{PlainBook}
use Rattle.ilp_rules.specs.Parts.{book_of}
use Rattle.ilp_next_period.specs.NextPeriod.{lesser}
use Rattle.ilp_next_period.proofs.NextJudging.{ask_known}
use Rattle.ilp_next_period.proofs.NextSteps.{below_none, below_more, below_all, next_below}
use Rattle.ilp_next_period.proofs.ending_period.EndingPeriod.next_open.Goals as goal

pub loop-peer-init : goal.loop-peer-init
loop-peer-init g c = sym (below_none c.args.self.now.entries c.args.tried)

pub loop-peer-preserved : goal.loop-peer-preserved
loop-peer-preserved g c =
    c.lesser-least.ensures ∙ ap₂ lesser c.loop-peer.invariant c.next_open_ask.ensures ∙ below_more c.args.self.now.entries c.args.tried c.loop-peer.peer

-- all peers were looked at
pub returns : goal.returns
returns g c =
    let inside = book_of c.self.inside.config.now c.self.inside.period c.self.inside.base c.self.inside.journal.now in
    let count = length c.self.inside.config.now.peers in
    let all : c.loop-peer.peer ≡ count = omega (arith, c.loop-peer-test.false, c.loop-peer.auto.peer-end, c.peers-peer-end.ensures.count) in
    c.loop-peer.invariant ∙ ap (next_below c.args.self.now.entries c.args.tried) all
    ∙ below_all c.args.self.now.entries c.args.tried count
    (subst (λ (b : PlainBook). (n : ℕ) → IfSome (ask_at b.entries n) (KnowsAsk count)) c.self.view_is (ask_known inside c.self.invariant.lawful))
