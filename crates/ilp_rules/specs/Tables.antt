-- What a book keeps beside its journal, so that no call goes over the entries. No public clause cites these words.
use Rattle.std.specs.Prelude.{◌≡◌, ℕ, ℤ, List, ◌==◌, Option, None, option_map, if◌then◌else◌}
use Rattle.std.specs.Ordering.{nat_cmp}
use Rattle.std.specs.FinMap as fin_map
use Rattle.std.specs.FinMap.{FinMap}
use Rattle.ilp_holds.specs.Table.{Table}
use Rattle.ilp_journal.specs.declared.entry.What.{What}
use Rattle.ilp_journal.specs.declared.entry.Hold.{Hold}
use Rattle.ilp_journal.specs.Journal.{Entries, as_hold, answered, is_number, open_hold_at}
use Rattle.ilp_tallies.specs.Tallies.{PlainTallies, AreTallies}
use Rattle.ilp_rules.specs.CreditTables.{PlainCredits, AreKept}

-- the deadline of a hold, if there is one
abbrev pub deadline_of : Option Hold → Option ℤ
deadline_of o = option_map (λ (h : Hold). h.deadline) o

-- these are the tallies of the journal, by the assets and the base that they list themselves
abbrev pub IsTallied : Entries → PlainTallies → Type 0
IsTallied j t = AreTallies t.assets t.base j t

-- each open hold, and nothing else, has its deadline in the table
abbrev pub AreOpen : Entries → FinMap nat_cmp ℤ → Type 0
AreOpen j deadlines = (n : ℕ) → fin_map.get deadlines n ≡ deadline_of (open_hold_at j n)

-- These are the sums of the journal, its open holds by their deadlines, and its credits by their keys and in order.
pub record AreTables (assets : List ℕ) (base : ℕ) (j : Entries) (tallies : PlainTallies) (holds : Table) (keys : PlainCredits) : Type 0 where
  pub tallied : AreTallies assets base j tallies
  pub open_holds : AreOpen j holds.map
  pub kept : AreKept j keys

-- the hold that the entry n opens is there, the one that it answers is gone, and the others are as they were
abbrev pub FollowsHolds : FinMap nat_cmp ℤ → FinMap nat_cmp ℤ → ℕ → What → Type 0
FollowsHolds old new n w = (k : ℕ) → fin_map.get new k
    ≡ (if k == n then deadline_of (as_hold w) else (if is_number k (answered w) then None else fin_map.get old k))
