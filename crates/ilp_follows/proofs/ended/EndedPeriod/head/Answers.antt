use Rattle.std.proofs.Common.{◌++◌, List, length, append_assoc, ap, ◌∙◌}
use Rattle.ilp_journal.specs.declared.entry.Entry.{Entry}
use Rattle.ilp_follows.specs.Follows.{credits_of, openings_of, settlements_of}
use Rattle.ilp_follows.proofs.Brought.{all_brought}
use Rattle.ilp_follows.proofs.ended.EndedPeriod.head.Goals as goal

-- the three parts are the head
pub returns : goal.returns
returns c =
    let book = c.args.self.now in
    let next = c.args.config.now in
    let openings : List Entry = openings_of book next (length next.peers) in
    let credits : List Entry = credits_of book next (length book.entries) in
    let settlements : List Entry = settlements_of book next (length book.entries) in
    c.in_ok-bring_settlements.ensures
    ∙ ap (λ (xs : List Entry). xs ++ settlements)
    (c.in_ok-bring_credits.ensures ∙ ap (λ (xs : List Entry). xs ++ credits) (c.in_ok-open_balances.ensures ∙ ap (λ (xs : List Entry). xs ++ openings) c.new-head.ensures.items))
    ∙ append_assoc openings credits settlements
    ∙ all_brought book next
