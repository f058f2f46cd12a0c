use Rattle.std.proofs.Common.{ap, ◌∙◌, List, ℕ}
use Rattle.std.specs.List.{find}
use Rattle.ilp_journal.specs.Journal.{is_behind}
use Rattle.ilp_tallies.specs.OpenAsks.{asks_row, is_open_ask_of}
use Rattle.ilp_tallies.specs.Tallies.{PlainTallies}
use Rattle.ilp_order.proofs.PlaceLemmas.{places-find}
use Rattle.ilp_tallies.proofs.tallies.Tallies.next_open_ask.Goals as goal

-- it is the first in the row that lies behind
pub returns : goal.returns
returns g c =
    let peer = c.args.peer in
    let after = c.args.after in
    λ assets base j are.
    c.next_ask.ensures ∙ ap (λ (t : PlainTallies). find (is_behind after) (asks_row t.asks peer)) c.self.view_is
    ∙ ap (λ (l : List ℕ). find (is_behind after) l) (are.asks peer) ∙ places-find (is_behind after) (is_open_ask_of peer j) 0 j
