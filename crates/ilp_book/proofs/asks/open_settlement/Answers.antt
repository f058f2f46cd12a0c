use Rattle.std.proofs.Common.{sym, ◌∙◌}
use Rattle.ilp_book.proofs.OpenAsks.{told_next, told_none, next_is_there}
use Rattle.ilp_book.proofs.asks.open_settlement.Goals as goal

-- no number, no settlement
pub returns-in_err-number : goal.returns-in_err-number
returns-in_err-number g c =
    let tallies = c.args.tallies.now in
    c.from_residual.ensures
    ∙ sym (told_none c.args.journal.now.entries c.args.peer c.args.tried (sym (c.in_err-number.ensures tallies.assets tallies.base c.args.journal.now.entries c.requires)))

-- the number that is found is that of a settlement
pub returns-in_err-ask : goal.returns-in_err-ask
returns-in_err-ask g c =
    let tallies = c.args.tallies.now in
    absurd (next_is_there c.args.journal.now.entries c.args.peer c.args.tried c.in_ok-number.number
    (sym (c.in_ok-number.ensures tallies.assets tallies.base c.args.journal.now.entries c.requires)) (sym c.in_err-ask.ensures))

-- which is told
pub returns : goal.returns
returns g c =
    let tallies = c.args.tallies.now in
    sym (told_next c.args.journal.now.entries c.args.peer c.args.tried c.in_ok-number.number c.in_ok-ask.ask
    (sym (c.in_ok-number.ensures tallies.assets tallies.base c.args.journal.now.entries c.requires)) (sym c.in_ok-ask.ensures))
