-- A lawful journal stays lawful by an entry that its rules admit.
use Rattle.std.proofs.Common.{◌≡◌, ℕ, ◌+◌, ◌^◌, ◌<◌, ◌≤◌, ℤ, pos, ◌+ℤ◌, ◌-ℤ◌, Bool, true, false, cond, [], ◌∷◌, ◌++◌, length, arith, length-append}
use Rattle.std.specs.Prelude.{◌≤ℤ◌, nat_le}
use Rattle.std.proofs.lemmas.Int.{ints}
use Rattle.std.proofs.lemmas.List.Sums.{fold_push}
use Rattle.ilp_assets.specs.Quote.{most}
use Rattle.ilp_accounts.specs.Configuration.{peer_at}
use Rattle.ilp_accounts.specs.Valid.{IsValid}
use Rattle.ilp_journal.specs.declared.entry.Entry.{Entry}
use Rattle.ilp_order.specs.Places.{Each}
use Rattle.ilp_journal.specs.declared.entry.What.{What}
use Rattle.ilp_journal.specs.declared.entry.What.TheVariants as what
use Rattle.ilp_journal.specs.declared.entry.Cause.TheVariants.{Restart}
use Rattle.ilp_journal.specs.Journal.{Entries, of_hold, open_count, open_asks, opening, closing, last_moment}
use Rattle.ilp_journal.specs.Balance.{balance, rise, fall}
use Rattle.ilp_journal.specs.TrialBalance.{total_in, total_out, amount_in, amount_out}
use Rattle.ilp_order.proofs.Sums.{by_push, Each-push, Each-parts, Each-each}
use Rattle.ilp_journal.proofs.Growth.{balance-push, open_count-push}
use Rattle.ilp_journal.proofs.BooksGrowth.{total_in-push, total_out-push, total_in-raised, total_out-raised}
use Rattle.ilp_rules.specs.Configured.{IsKnown, peer_assets}
use Rattle.ilp_terms.specs.Expiry.{last_of_all}
use Rattle.ilp_rules.specs.Book.{PlainBook, with_entries, with_base, pushed}
use Rattle.ilp_rules.specs.Heads.{StandsInHead}
use Rattle.ilp_rules.specs.Lawful.{IsLawful, IsWithinLimits, KeepsRule, KeepsRuleOf, IsInTime}
use Rattle.ilp_rules.proofs.Known.{peer_valid}
use Rattle.ilp_rules.proofs.Rules.{rule_answers, rule_closes, answers_once, closes_once}

-- what of an amount counts in the totals, if the next entry is since the base
abbrev pub counted : PlainBook → ℕ → ℕ
counted book amount = cond (nat_le book.base (length book.entries)) amount 0

-- what the rules want of one more entry
pub record Admits (book : PlainBook) (e : Entry) : Type 0 where
  pub rule : KeepsRuleOf book book.entries e
  pub moments : IsInTime book.entries e
  pub cover : (p : ℕ) → IsKnown book.config p → ((peer_at book.config p).least +ℤ pos (fall p e.what)) ≤ℤ balance book.entries p
  pub room : length book.entries + 1 + (open_count book.entries + opening e.what) ≤ book.config.settings.journal + closing e.what
  pub totals_in : (x : ℕ) → total_in (peer_assets book.config) book.base book.entries x + counted book (of_hold (amount_in (peer_assets book.config) x) e.what) ≤ most
  pub totals_out : (x : ℕ) → total_out (peer_assets book.config) book.base book.entries x + counted book (of_hold (amount_out (peer_assets book.config) x) e.what) ≤ most

pub at_most : (b : Bool) (n : ℕ) → cond b n 0 ≤ n
at_most true n = omega arith
at_most false n = omega arith

limits_after : (book : PlainBook) (e : Entry) → IsLawful book → Admits book e → IsWithinLimits (pushed book e)
limits_after book e lawful new =
    let C = book.config in
    let j = book.entries in
    let answers = answers_once book lawful in
    let closings = closes_once book lawful in
    let answer = rule_answers C book.period book.base j e new.rule in
    let closing = rule_closes C book.period book.base j e new.rule in
    record {
      least = λ p known. covered (peer_at C p).least (balance j p) (balance (j ++ e ∷ []) p) (rise j p e.what) (fall p e.what)
          (balance-push j e p answers closings answer closing) (new.cover p known);
      room = omega (arith, new.room, open_count-push j e answers closings answer closing, length-append j (e ∷ []));
      totals_in = λ x. omega (
        arith,
        total_in-push (peer_assets C) j e x book.base answers answer,
        new.totals_in x,
      );
      totals_out = λ x. omega (
        arith,
        total_out-push (peer_assets C) j e x book.base answers answer,
        new.totals_out x,
      );
    }
  where
    covered : (least old new : ℤ) (r f : ℕ) → new ≡ old +ℤ pos r -ℤ pos f → (least +ℤ pos f) ≤ℤ old → least ≤ℤ new
    covered least old new r f e h = omega (arith, ints)

-- the limits after an entry of a book's, seen from the entries before it
abbrev pub After : PlainBook → Entries → Entry → Type 0
After book before e = IsWithinLimits (pushed (with_entries book before) e)

pub lawful_push : (book : PlainBook) (e : Entry) → IsLawful book → Admits book e → IsLawful (pushed book e)
lawful_push book e lawful new =
    let j = book.entries in
    record {
      numbered = lawful.numbered;
      rules = Each-push (KeepsRuleOf book) j e lawful.rules new.rule;
      moments = Each-push IsInTime j e lawful.moments new.moments;
      empty = lawful.empty;
      limits = Each-push (After book) j e lawful.limits (limits_after book e lawful new);
    }

-- the book of no entries is lawful, whatever its base
pub lawful_empty : (book : PlainBook) → IsValid book.config → book.period < 2 ^ 32 → IsLawful (with_entries book [])
unfolding balance total_in total_out open_asks
lawful_empty book valid numbered = record {
  numbered = numbered;
  rules = tt;
  moments = tt;
  empty = record { least = λ p known. (peer_valid book.config p valid known).least; room = omega arith; totals_in = λ x. omega arith; totals_out = λ x. omega arith };
  limits = tt;
}

-- a lawful book is within the limits itself
pub limits_now : (book : PlainBook) → IsLawful book → IsWithinLimits book
limits_now book lawful =
    by_push (λ es. Each (After book) es → IsWithinLimits (with_entries book es)) (λ _. lawful.empty) (λ es e _ h. (Each-parts (After book) es e h).1) book.entries lawful.limits

-- the last moment of a journal in time is of the years 1970 to 9999
pub last_in_time : (j : Entries) → Each IsInTime j → (pos 0 ≤ℤ last_moment j) × (last_moment j ≤ℤ last_of_all)
last_in_time = by_push (λ es. Each IsInTime es → (pos 0 ≤ℤ last_moment es) × (last_moment es ≤ℤ last_of_all)) (λ _. (omega (arith, ints), omega (arith, ints)))
    (λ es e _ each. let new : IsInTime es e = (Each-parts IsInTime es e each).1 in
    let last : last_moment (es ++ e ∷ []) ≡ e.moment = fold_push (λ _ (d : Entry). d.moment) (pos 0) es e in
    (rw last new.first, rw last new.last))

-- ---- a later base

-- a book whose base is raised is within the limits, since fewer holds count
limits_raised : (book : PlainBook) (raised : ℕ) → book.base ≤ raised → IsWithinLimits book → IsWithinLimits (with_base book raised)
limits_raised book raised later limits = record {
  least = limits.least;
  room = limits.room;
  totals_in = λ x. omega (arith, limits.totals_in x, total_in-raised (peer_assets book.config) book.base raised book.entries x later);
  totals_out = λ x. omega (arith, limits.totals_out x, total_out-raised (peer_assets book.config) book.base raised book.entries x later);
}

-- a lawful book whose base is raised is lawful
pub lawful_raised : (book : PlainBook) (raised : ℕ) → book.base ≤ raised → IsLawful book → IsLawful (with_base book raised)
lawful_raised book raised later lawful = record {
  numbered = lawful.numbered;
  rules = Each-each (KeepsRuleOf book) (KeepsRuleOf (with_base book raised)) book.entries (λ before e rule. kept before e.moment e.what rule) lawful.rules;
  moments = lawful.moments;
  empty = limits_raised (with_entries book []) raised later lawful.empty;
  limits = Each-each (After book) (After (with_base book raised)) book.entries
      (λ before e within. limits_raised (pushed (with_entries book before) e) raised later within) lawful.limits;
}
  where
    in_head : (before : Entries) (w : What) → StandsInHead book.config book.period book.base before w → StandsInHead book.config book.period raised before w
    in_head before w stands = record { later = stands.later; front = stands.front; begun = omega (arith, stands.begun, later); rule = stands.rule; keys = stands.keys }

    kept : (before : Entries) (m : ℤ) (w : What) → KeepsRule book.config book.period book.base before m w → KeepsRule book.config book.period raised before m w
    kept before m (what.Hold h) rule = rule
    kept before m (what.Fulfilled hold preimage) rule = rule
    kept before m (what.Released hold cause) rule = (rule.0, λ (is : cause ≡ Restart). omega (arith, rule.1 is, later))
    kept before m (what.Credited c) rule = rule
    kept before m (what.Asked a) rule = rule
    kept before m (what.Confirmed ask) rule = rule
    kept before m (what.Undone ask) rule = rule
    kept before m (what.Opened peer b) rule = in_head before (what.Opened peer b) rule
    kept before m (what.Known c) rule = in_head before (what.Known c) rule
    kept before m (what.Pending peer amount key) rule = in_head before (what.Pending peer amount key) rule
