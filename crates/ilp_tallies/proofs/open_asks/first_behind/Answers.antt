use Rattle.std.proofs.Common.{rules, tests, ◌∙◌}
use Rattle.std.proofs.lemmas.Iterator.{YieldsList-from_slice}
use Rattle.std.proofs.lemmas.Iterator.Search.{find_from_yields_List}
use Rattle.ilp_journal.specs.Journal.{is_behind}
use Rattle.ilp_tallies.proofs.open_asks.first_behind.Goals as goal

pub returns : goal.returns
returns c = c.copied.ensures ∙ find_from_yields_List (is_behind c.args.after) _ _ _ c.find.ensures.ran (YieldsList-from_slice c.args.numbers.now cc) (λ x b q k. search (rules, tests))
