-- Behind what a book began with it has what it booked itself.
use Rattle.std.proofs.Common.{◌≡◌, ℕ, zero, suc, ◌+◌, ◌≤◌, ℤ, List, [], ◌∷◌, ◌++◌, length, drop, All, false, true, arith, length-append}
use Rattle.std.specs.Prelude.{IsTrue}
use Rattle.std.proofs.lemmas.List.Elements.{All-nil, All-cons}
use Rattle.ilp_order.specs.Places.{EachAfter}
use Rattle.ilp_journal.specs.declared.entry.Entry.{Entry}
use Rattle.ilp_journal.specs.declared.entry.What.{What}
use Rattle.ilp_journal.specs.declared.entry.What.TheVariants as what
use Rattle.ilp_journal.specs.Journal.{Entries}
use Rattle.ilp_journal.specs.BroughtForward.{is_brought_forward}
use Rattle.ilp_rules.specs.Book.{PlainBook}
use Rattle.ilp_rules.specs.Heads.{IsBooked}
use Rattle.ilp_rules.specs.Lawful.{KeepsRule, KeepsRuleOf, IsLawful}

module _ (book : PlainBook) where
  not_head : (before : Entries) (moment : ℤ) (w : What) → book.base ≤ length before → KeepsRule book.config book.period book.base before moment w → IsTrue (is_brought_forward w) → ⊥
  not_head before moment (what.Hold h) le rule is = absurd (cc is)
  not_head before moment (what.Fulfilled hold preimage) le rule is = absurd (cc is)
  not_head before moment (what.Released hold cause) le rule is = absurd (cc is)
  not_head before moment (what.Credited c) le rule is = absurd (cc is)
  not_head before moment (what.Asked a) le rule is = absurd (cc is)
  not_head before moment (what.Confirmed ask) le rule is = absurd (cc is)
  not_head before moment (what.Undone ask) le rule is = absurd (cc is)
  not_head before moment (what.Opened peer balance) le rule is = absurd (omega (arith, rule.begun))
  not_head before moment (what.Known c) le rule is = absurd (omega (arith, rule.begun))
  not_head before moment (what.Pending peer amount key) le rule is = absurd (omega (arith, rule.begun))

  behind : (n : ℕ) (before entries : Entries) → book.base ≤ length before + n → EachAfter (KeepsRuleOf book) before entries → All IsBooked (drop n entries)
  behind zero before [] le each = All-nil IsBooked
  behind zero before (e ∷ entries) le each =
      All-cons IsBooked e entries (not_head before e.moment e.what (omega (arith, le)) each.0)
      (behind zero (before ++ e ∷ []) entries (omega (arith, le, length-append before (e ∷ []))) each.1)
  behind (suc n) before [] le each = All-nil IsBooked
  behind (suc n) before (e ∷ entries) le each = behind n (before ++ e ∷ []) entries (omega (arith, le, length-append before (e ∷ []))) each.1

  pub own_booked : IsLawful book → All IsBooked (drop book.base book.entries)
  own_booked lawful = behind book.base [] book.entries (omega arith) lawful.rules
