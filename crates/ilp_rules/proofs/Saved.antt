-- The text of a lawful book is carried over.
use Rattle.std.proofs.Common.{◌≡◌, ℕ, suc, ◌^◌, ◌<◌, ℤ, pos, negsuc, [], ◌∷◌, ◌++◌, length, refl, arith}
use Rattle.std.specs.Prelude.{◌≤ℤ◌, ◌<ℤ◌, All, FitsSigned, IsTrue}
use Rattle.std.specs.Int.{w64}
use Rattle.std.proofs.lemmas.Int.{ints}
use Rattle.std.proofs.lemmas.List.Elements.{All-nil, All-cons}
use Rattle.ilp_accounts.specs.Configuration.{Configuration}
use Rattle.ilp_accounts.specs.Valid.{IsValid}
use Rattle.ilp_journal.specs.declared.entry.Entry.{Entry}
use Rattle.ilp_journal.specs.declared.entry.What.{What}
use Rattle.ilp_journal.specs.declared.entry.What.TheVariants as what
use Rattle.ilp_order.specs.Places.{EachAfter}
use Rattle.ilp_journal.specs.Journal.{Entries}
use Rattle.ilp_journal.specs.BroughtForward.{is_brought_forward}
use Rattle.ilp_journal_text.specs.Text.{journal_text}
use Rattle.ilp_journal_text.specs.Reading.{StandsIn, IsTyped, WhatIsTyped, WhatStands}
use Rattle.ilp_rules.specs.declared.fault.CarryFault.{CarryFault}
use Rattle.ilp_rules.specs.declared.fault.CarryFault.TheVariants.{Memory}
use Rattle.ilp_rules.specs.Book.{PlainBook}
use Rattle.ilp_rules.specs.Carried.{carried}
use Rattle.ilp_rules.specs.Carry.{IsCarriedOver, IsWhyNotCarried}
use Rattle.ilp_rules.specs.Lawful.{IsLawful, IsInTime, KeepsRule, KeepsRuleOf}
use Rattle.ilp_rules.proofs.CarriedBooks.{carried_or_not}
use Rattle.ilp_rules.proofs.Rebasing.{lawful_behind}

-- an entry that keeps its rule can stand in a text
can_stand : (C : Configuration) (period base : ℕ) (before : Entries) (e : Entry) → KeepsRule C period base before e.moment e.what → IsInTime before e → IsTyped e → StandsIn C period e
can_stand C period base before e keeps timely typed = record {
  stands = record { moment = (timely.first, below e.moment typed.moment); actor = typed.actor; what = of e.what keeps typed.what };
  later = only e.what keeps;
}
  where
    below : (z : ℤ) → FitsSigned w64 z → z <ℤ pos (2 ^ 63)
    below (pos n) fits = omega (arith, ints, fits.sfits)
    below (negsuc n) fits = omega (arith, ints)

    behind : (m d : ℤ) → pos 0 ≤ℤ m → m <ℤ d → pos 0 ≤ℤ d
    behind m d first later = omega (arith, ints)

    of : (w : What) → KeepsRule C period base before e.moment w → WhatIsTyped w → WhatStands C w
    of (what.Hold h) rule typed = record {
      from = rule.sender;
      to = rule.receiver;
      amount = typed.amount;
      fee = typed.fee;
      out = typed.out;
      deadline = (behind e.moment h.deadline timely.first rule.begins, below h.deadline typed.deadline);
      condition = typed.condition;
    }
    of (what.Fulfilled hold preimage) rule typed = typed
    of (what.Released hold cause) rule typed = typed
    of (what.Credited c) rule typed = record { peer = rule.known; key = typed.key; named = typed.named; scale = typed.scale; credited = typed.credited; kind = typed.kind }
    of (what.Asked a) rule typed = (rule.known, typed)
    of (what.Confirmed ask) rule typed = typed
    of (what.Undone ask) rule typed = typed
    of (what.Opened peer balance) rule typed = (rule.rule.0, typed)
    of (what.Known c) rule typed = record { peer = rule.rule.0; key = typed.key; named = typed.named; scale = typed.scale; credited = typed.credited; kind = typed.kind }
    of (what.Pending peer amount key) rule typed = (rule.rule.0, typed.0, typed.1)

    only : (w : What) → KeepsRule C period base before e.moment w → IsTrue (is_brought_forward w) → 0 < period
    only (what.Hold h) rule is = absurd cc
    only (what.Fulfilled hold preimage) rule is = absurd cc
    only (what.Released hold cause) rule is = absurd cc
    only (what.Credited c) rule is = absurd cc
    only (what.Asked a) rule is = absurd cc
    only (what.Confirmed ask) rule is = absurd cc
    only (what.Undone ask) rule is = absurd cc
    only (what.Opened peer balance) rule is = rule.later
    only (what.Known c) rule is = rule.later
    only (what.Pending peer amount key) rule is = rule.later

-- and so can all of them
pub all_stand : (book : PlainBook) (before es : Entries) → EachAfter (KeepsRuleOf book) before es → EachAfter IsInTime before es → All IsTyped es → All (StandsIn book.config book.period) es
all_stand book before [] rules moments typed = All-nil (StandsIn book.config book.period)
all_stand book before (e ∷ es) rules moments typed =
    All-cons (StandsIn book.config book.period) e es
    (can_stand book.config book.period book.base before e rules.0 moments.0 (typed 0 e (omega arith)))
    (all_stand book (before ++ e ∷ []) es rules.1 moments.1 (λ k d below. typed (suc k) d (omega (arith, below))))

-- so the text of the book is carried over
pub saved_carried : (book : PlainBook) (now : ℤ) → IsLawful book → All IsTyped book.entries
    → IsCarriedOver book.config (journal_text book.config book.period book.entries) now (carried book.config book.period book.entries now)
saved_carried book now lawful typed = record {
  period = book.period;
  entries = book.entries;
  written = record { whole = refl; numbered = lawful.numbered; entries = all_stand book [] book.entries lawful.rules lawful.moments typed };
  lawful = lawful_behind book (length book.entries) (omega arith) lawful;
  begins = refl;
}

-- and isn't refused for what it says
pub saved_not_refused : (book : PlainBook) (fault : CarryFault) → IsValid book.config → IsLawful book → All IsTyped book.entries
    → IsWhyNotCarried book.config (journal_text book.config book.period book.entries) fault → fault ≡ Memory
saved_not_refused book fault valid lawful typed bad =
    carried_or_not book.config (journal_text book.config book.period book.entries) (pos 0) (carried book.config book.period book.entries (pos 0)) fault valid (saved_carried book (pos 0) lawful typed) bad
