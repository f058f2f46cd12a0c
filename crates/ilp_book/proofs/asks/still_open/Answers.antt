use Rattle.std.proofs.Common.{◌≡◌, Some, None, sym, ap, ◌∙◌}
use Rattle.std.specs.Prelude.{option_and_then, option_map}
use Rattle.ilp_journal.specs.declared.entry.Ask.{Ask}
use Rattle.ilp_journal.specs.Journal.{ask_at, next_open_number, next_open_ask}
use Rattle.ilp_book.proofs.OpenAsks.{none_told, first_told, told_open}
use Rattle.ilp_book.proofs.asks.still_open.Goals as goal

-- where fewer are open than may be, none is told
pub returns-then-are_few_open : goal.returns-then-are_few_open
returns-then-are_few_open g c =
    let j = c.args.journal.now.entries in
    let peer = c.args.peer in
    let tallies = c.args.tallies.now in
    sym (none_told j peer (sym (c.are_few_open.ensures tallies.assets tallies.base j c.requires) ∙ c.if-are_few_open.true))

-- else the first that is open is told
pub returns : goal.returns
returns g c =
    let j = c.args.journal.now.entries in
    let peer = c.args.peer in
    let tallies = c.args.tallies.now in
    let number : next_open_number j peer None ≡ Some c.in_ok-number.number = sym (c.in_ok-number.ensures tallies.assets tallies.base j c.requires) in
    let first : next_open_ask j peer None ≡ Some (c.in_ok-number.number, c.in_ok-ask.ask) =
    ap (option_and_then (λ n. option_map (λ (a : Ask). (n, a)) (ask_at j n))) number
    ∙ ap (option_map (λ (a : Ask). (c.in_ok-number.number, a))) (sym c.in_ok-ask.ensures) in
    sym (first_told j peer (sym (c.are_few_open.ensures tallies.assets tallies.base j c.requires) ∙ c.if-are_few_open.false) ∙ ap told_open first)
