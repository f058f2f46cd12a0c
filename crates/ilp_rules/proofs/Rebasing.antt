-- A lawful journal by another base, where all of it lies below that base.
use Rattle.std.proofs.Common.{◌≡◌, ℕ, ◌+◌, ◌<◌, ◌≤◌, ℤ, List, [], ◌∷◌, ◌++◌, length, sym, subst, arith, length-append}
use Rattle.ilp_accounts.specs.Configuration.{Configuration}
use Rattle.ilp_holds.specs.Table.{Table}
use Rattle.ilp_tallies.specs.Tallies.{PlainTallies, AreTallies, MovesBase}
use Rattle.ilp_journal.specs.Booked.{Booked}
use Rattle.ilp_journal.specs.declared.entry.What.{What}
use Rattle.ilp_journal.specs.declared.entry.What.TheVariants as what
use Rattle.ilp_order.specs.Places.{EachAfter}
use Rattle.ilp_journal.specs.Journal.{Entries}
use Rattle.ilp_tallies.proofs.Rebasing.{total_in-none, total_out-none}
use Rattle.ilp_rules.specs.CreditTables.{PlainCredits}
use Rattle.ilp_rules.specs.Book.{PlainBook, with_entries, with_base, pushed}
use Rattle.ilp_rules.specs.Configured.{peer_assets}
use Rattle.ilp_rules.specs.Heads.{StandsInHead}
use Rattle.ilp_rules.specs.Lawful.{IsLawful, IsWithinLimits, KeepsRule, KeepsRuleOf}
use Rattle.ilp_rules.specs.Parts.{AreParts, book_of}
use Rattle.ilp_rules.proofs.LawfulGrowth.{After}

-- what holds of each element, and what follows from it of those that lie below a bound
each_below : {X : Type 0} (P Q : List X → X → Type 0) (bound : ℕ) (before xs : List X) → length before + length xs ≤ bound
    → ((b : List X) (x : X) → length b < bound → P b x → Q b x) → EachAfter P before xs → EachAfter Q before xs
each_below P Q bound before [] fits step each = tt
each_below P Q bound before (x ∷ xs) fits step each = (
  step before x (omega (arith, fits)) each.0,
  each_below P Q bound (before ++ x ∷ []) xs (omega (arith, fits, length-append before (x ∷ []))) step each.1,
)

-- limits by a base behind all entries
limits_behind : (book : PlainBook) (base : ℕ) → length book.entries ≤ base → IsWithinLimits book → IsWithinLimits (with_base book base)
limits_behind book base behind limits = record {
  least = limits.least;
  room = limits.room;
  totals_in = λ x. omega (arith, total_in-none (peer_assets book.config) base book.entries x behind);
  totals_out = λ x. omega (arith, total_out-none (peer_assets book.config) base book.entries x behind);
}

-- a lawful journal is lawful by each base behind all of it
pub lawful_behind : (book : PlainBook) (base : ℕ) → length book.entries ≤ base → IsLawful book → IsLawful (with_base book base)
lawful_behind book base behind lawful = record {
  numbered = lawful.numbered;
  rules = each_below (KeepsRuleOf book) (KeepsRuleOf (with_base book base)) base [] book.entries (omega (arith, behind)) (λ before e below rule. kept before e.moment e.what below rule) lawful.rules;
  moments = lawful.moments;
  empty = limits_behind (with_entries book []) base (omega arith) lawful.empty;
  limits = each_below (After book) (After (with_base book base)) base [] book.entries (omega (arith, behind))
      (λ before e below within. limits_behind (pushed (with_entries book before) e) base (omega (arith, below, length-append before (e ∷ []))) within) lawful.limits;
}
  where
    in_head : (before : Entries) (w : What) → length before < base → StandsInHead book.config book.period book.base before w → StandsInHead book.config book.period base before w
    in_head before w below stands = record { later = stands.later; front = stands.front; begun = below; rule = stands.rule; keys = stands.keys }

    kept : (before : Entries) (m : ℤ) (w : What) → length before < base → KeepsRule book.config book.period book.base before m w → KeepsRule book.config book.period base before m w
    kept before m (what.Hold h) below rule = rule
    kept before m (what.Fulfilled hold preimage) below rule = rule
    kept before m (what.Released hold cause) below rule = (rule.0, λ _. below)
    kept before m (what.Credited c) below rule = rule
    kept before m (what.Asked a) below rule = rule
    kept before m (what.Confirmed ask) below rule = rule
    kept before m (what.Undone ask) below rule = rule
    kept before m (what.Opened peer balance) below rule = in_head before (what.Opened peer balance) below rule
    kept before m (what.Known c) below rule = in_head before (what.Known c) below rule
    kept before m (what.Pending peer amount key) below rule = in_head before (what.Pending peer amount key) below rule

-- the parts of a book whose journal is behind the base are those by the end of the journal
pub parts_behind : (C : Configuration) (period base n : ℕ) (journal : Booked) (tallies moved : PlainTallies) (holds : Table) (keys : PlainCredits) → AreParts C period base journal tallies holds keys
    → n ≡ length journal.entries → length journal.entries ≤ base → MovesBase tallies n moved → AreParts C period n journal moved holds keys
parts_behind C period base n journal tallies moved holds keys parts is behind moves =
    let since = parts.tabled.tallied.since in
    record {
      valid = parts.valid;
      lawful = lawful_behind (book_of C period base journal) n (omega (arith, is)) parts.lawful;
      limited = parts.limited;
      tabled = record {
        tallied = moves (peer_assets C) journal.entries (omega (arith, since, behind)) (omega (arith, is)) (subst (λ b. AreTallies (peer_assets C) b journal.entries tallies) (sym since) parts.tabled.tallied);
        open_holds = parts.tabled.open_holds;
        kept = parts.tabled.kept;
      };
      room = parts.room;
    }
