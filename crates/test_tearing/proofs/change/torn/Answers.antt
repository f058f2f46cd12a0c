use Rattle.std.proofs.Common.{◌≡◌, ◌++◌, take, List, ℕ, sym, subst, arith, rules}
use Rattle.std.proofs.lemmas.Grind.{common_steps}
use Rattle.ilp_line_file.specs.Device.{Torn}
use Rattle.test_tearing.proofs.Changes.{torn_same, torn_some}
use Rattle.test_tearing.proofs.change.torn.Goals as goal

pub returns-then-at-old : goal.returns-then-at-old
returns-then-at-old c = search (rules, torn_same)
