-- A book without an open hold goes on by a base behind all of it.
use Rattle.std.proofs.Common.{◌≡◌, ℕ, ◌≤◌, length, sym, subst, arith}
use Rattle.ilp_accounts.specs.Configuration.{Configuration}
use Rattle.ilp_holds.specs.Table.{Table}
use Rattle.ilp_journal.specs.Booked.{Booked}
use Rattle.ilp_tallies.specs.Tallies.{PlainTallies, AreTallies, EndsTotals}
use Rattle.ilp_rules.specs.CreditTables.{PlainCredits}
use Rattle.ilp_rules.specs.Configured.{peer_assets}
use Rattle.ilp_rules.specs.Parts.{AreParts, book_of}
use Rattle.ilp_rules.proofs.Rebasing.{lawful_behind}

-- the parts of a book whose totals have ended are those by the end of its journal
pub parts_reopened : (C : Configuration) (period base n : ℕ) (journal : Booked) (tallies ended : PlainTallies) (holds : Table) (keys : PlainCredits)
    → AreParts C period base journal tallies holds keys → n ≡ length journal.entries → EndsTotals tallies n ended → AreParts C period n journal ended holds keys
parts_reopened C period base n journal tallies ended holds keys parts is ends =
    let since = parts.tabled.tallied.since in
    record {
      valid = parts.valid;
      lawful = lawful_behind (book_of C period base journal) n (omega (arith, is)) parts.lawful;
      limited = parts.limited;
      tabled = record {
        tallied = ends (peer_assets C) journal.entries (omega (arith, is)) (subst (λ b. AreTallies (peer_assets C) b journal.entries tallies) (sym since) parts.tabled.tallied);
        open_holds = parts.tabled.open_holds;
        kept = parts.tabled.kept;
      };
      room = parts.room;
    }
