-- The moment of a call, and entries that lower no balance and open nothing.
use Rattle.std.proofs.Common.{◌≡◌, ℕ, ◌+◌, ◌≤◌, ℤ, pos, ◌+ℤ◌, length, sym, subst, arith}
use Rattle.std.specs.Prelude.{◌≤ℤ◌, nat_le}
use Rattle.std.specs.Int.{int_min, int_max}
use Rattle.std.proofs.lemmas.Int.{ints, clamps}
use Rattle.ilp_accounts.specs.Configuration.{peer_at}
use Rattle.ilp_journal.specs.declared.entry.Entry.{Entry}
use Rattle.ilp_journal.specs.declared.entry.What.{What}
use Rattle.ilp_journal.specs.declared.entry.Hold.{Hold}
use Rattle.ilp_journal.specs.Journal.{of_hold, open_count, opening, closing, last_moment}
use Rattle.ilp_journal.specs.Balance.{balance, fall}
use Rattle.ilp_journal.specs.TrialBalance.{amount_in, amount_out}
use Rattle.ilp_rules.specs.Configured.{peer_assets}
use Rattle.ilp_terms.specs.Expiry.{last_of_all}
use Rattle.ilp_rules.specs.Book.{PlainBook, By, entry_by, moment_at, pushed}
use Rattle.ilp_rules.specs.Lawful.{IsLawful, IsWithinLimits, KeepsRuleOf, IsInTime}
use Rattle.ilp_rules.proofs.LawfulGrowth.{Admits, at_most, lawful_push, limits_now, last_in_time}

-- an entry at the moment of a call is in time
pub in_time : (book : PlainBook) (caller : By) (w : What) → IsLawful book → IsInTime book.entries (entry_by book caller w)
in_time book caller w lawful =
    let j = book.entries in
    let last : (pos 0 ≤ℤ last_moment j) × (last_moment j ≤ℤ last_of_all) = last_in_time j lawful.moments in
    let m = between (last_moment j) caller.now last.0 last.1 in
    record { later = m.0; first = m.1; last = m.2 }
  where
    between : (last now : ℤ) → pos 0 ≤ℤ last → last ≤ℤ last_of_all → let m : ℤ = int_max (int_max (pos 0) (int_min now last_of_all)) last in (last ≤ℤ m) × (pos 0 ≤ℤ m) × (m ≤ℤ last_of_all)
    between last now low high = (omega (arith, ints, clamps), omega (arith, ints, clamps), omega (arith, ints, clamps))

-- an entry that lowers no balance and is no hold is admitted where it keeps its own rule
pub calm : (book : PlainBook) (e : Entry) → IsLawful book
    → KeepsRuleOf book book.entries e → IsInTime book.entries e → ((p : ℕ) → fall p e.what ≡ 0) → ((f : Hold → ℕ) → of_hold f e.what ≡ 0)
    → length book.entries + 1 + (open_count book.entries + opening e.what) ≤ book.config.settings.journal + closing e.what → Admits book e
calm book e lawful rule moments falls no_hold room =
    let limits : IsWithinLimits book = limits_now book lawful in
    let assets = peer_assets book.config in
    record {
      rule = rule;
      moments = moments;
      cover = λ p known. rw (falls p) (same (balance book.entries p) (peer_at book.config p).least (limits.least p known));
      room = room;
      totals_in = λ x. omega (arith, no_hold (amount_in assets x), at_most (nat_le book.base (length book.entries)) (of_hold (amount_in assets x) e.what), limits.totals_in x);
      totals_out = λ x. omega (arith, no_hold (amount_out assets x), at_most (nat_le book.base (length book.entries)) (of_hold (amount_out assets x) e.what), limits.totals_out x);
    }
  where
    same : (b l : ℤ) → l ≤ℤ b → (l +ℤ pos 0) ≤ℤ b
    same b l t = omega (arith, ints)

-- an entry that the rules admit keeps the book lawful, where the moment of its call is known by an equation
pub admitted_at : (book : PlainBook) (caller : By) (w : What) (m : ℤ) → IsLawful book → Admits book (entry_by book caller w) → m ≡ moment_at book.entries caller.now
    → IsLawful (pushed book (record { moment = m; actor = caller.actor; what = w }))
admitted_at book caller w m lawful admits at_moment =
    subst (λ t. IsLawful (pushed book (record { moment = t; actor = caller.actor; what = w }))) (sym at_moment) (lawful_push book _ lawful admits)
