-- What may come next in a journal whose base lies behind all of it, and what may not.
use Rattle.std.proofs.Common.{◌≡◌, ℕ, ◌+◌, ◌<◌, ◌≤◌, ℤ, pos, negsuc, ◌+ℤ◌, ◌-ℤ◌, Bool, true, false, cond, [], ◌∷◌, ◌++◌, length, Option, Some, None, refl, sym, ap, ◌∙◌, arith, length-append}
use Rattle.std.specs.Prelude.{◌≢◌, ◌≤ℤ◌, ◌<ℤ◌, int_le, int_lt, nat_le, nat_abs, IfSome, IsSomeAnd}
use Rattle.std.proofs.lemmas.Bool.{leb-true, le-leb, eq-eqb}
use Rattle.std.proofs.lemmas.Int.{ints}
use Rattle.ilp_assets.specs.Quote.{most}
use Rattle.ilp_accounts.specs.declared.peer.Levels.{Levels}
use Rattle.ilp_accounts.specs.Configuration.{Configuration, PlainPeer, peer_at}
use Rattle.ilp_accounts.specs.Valid.{IsValid, AreOrdered}
use Rattle.ilp_journal.specs.declared.entry.Entry.{Entry}
use Rattle.ilp_journal.specs.declared.entry.What.{What}
use Rattle.ilp_journal.specs.declared.entry.What.TheVariants as what
use Rattle.ilp_journal.specs.declared.entry.Ask.{Ask}
use Rattle.ilp_journal.specs.Journal.{Entries, opening, closing, open_count, open_asks}
use Rattle.ilp_journal.specs.Balance.{above, below, balance, rise, fall}
use Rattle.ilp_journal.specs.Credits.{raising, lowering}
use Rattle.ilp_journal.specs.declared.credit_kind.CreditKind.{CreditKind}
use Rattle.ilp_journal.specs.declared.credit_kind.CreditKind.TheVariants.{Settled, Raised, Lowered}
use Rattle.ilp_order.proofs.Sums.{Each-parts}
use Rattle.ilp_journal.proofs.Growth.{balance-push, open_count-push}
use Rattle.ilp_rules.specs.declared.rule.BrokenRule.{BrokenRule}
use Rattle.ilp_rules.specs.declared.rule.BrokenRule.TheVariants as rule
use Rattle.ilp_rules.specs.Book.{PlainBook, has_room, pushed}
use Rattle.ilp_rules.specs.Broken.{Breaks, BreaksRule}
use Rattle.ilp_rules.specs.Configured.{IsKnown}
use Rattle.ilp_rules.specs.Judging.{behind_all, HasRoom, KeepsLimits}
use Rattle.ilp_rules.specs.Lawful.{IsLawful, IsWithinLimits, IsInTime, KeepsRule, KeepsRuleOf, IsDueAsk, owed_above, due_amount}
use Rattle.ilp_rules.specs.Heads.{most_open_asks}
use Rattle.ilp_rules.proofs.Admitting.{hold_admits, credit_admits, opening_admits, ask_admits, due_from}
use Rattle.ilp_rules.proofs.InTime.{calm}
use Rattle.ilp_rules.proofs.Keeping.{rule_last, answers_last, closes_last}
use Rattle.ilp_rules.proofs.LawfulGrowth.{Admits, counted, lawful_push, limits_now}
use Rattle.ilp_rules.proofs.Rules.{answers_once, closes_once}
use Rattle.ilp_rules.proofs.Known.{peer_valid}

-- ---- what may come next

-- the entries lie before that base
pub comes_before : (book : PlainBook) → IsValid book.config → IsLawful book → length book.entries < behind_all
comes_before book valid lawful = omega (arith, (limits_now book lawful).room, valid.settings.journal.1)

-- an entry that is in time and keeps its rule and the limits keeps the book lawful
pub judged_good : (book : PlainBook) (e : Entry) → IsValid book.config → IsLawful book → book.base ≡ behind_all
    → IsInTime book.entries e → KeepsRuleOf book book.entries e → KeepsLimits book e.what → IsLawful (pushed book e)
judged_good book e valid lawful base timely rule limits = lawful_push book e lawful (of e.what timely rule limits)
  where
    m : ℤ
    m = e.moment

    of_room : (n : ℕ) → HasRoom book n → has_room book n ≡ true
    of_room n room = le-leb _ _ room

    uncounted : (amount total : ℕ) → total ≤ most → total + counted book amount ≤ most
    uncounted amount total fits = past (nat_le book.base (length book.entries)) refl
      where
        past : (b : Bool) → nat_le book.base (length book.entries) ≡ b → total + cond b amount 0 ≤ most
        past false is = omega (arith, fits)
        past true is = absurd (omega (arith, leb-true book.base (length book.entries) is, base, comes_before book valid lawful))

    of : (w : What) → IsInTime book.entries (record e { what = w }) → KeepsRule book.config book.period book.base book.entries m w → KeepsLimits book w → Admits book (record e { what = w })
    of (what.Hold h) timely rule limits =
        let now = limits_now book lawful in
        hold_admits book m e.actor h lawful timely rule (of_room 2 limits.0) limits.1 (λ x. uncounted _ _ (now.totals_in x)) (λ x. uncounted _ _ (now.totals_out x))
    of (what.Fulfilled hold preimage) timely rule limits =
        let room = (limits_now book lawful).room in
        calm book (record e { what = what.Fulfilled hold preimage }) lawful rule timely (λ _. refl) (λ _. refl) (omega (arith, room))
    of (what.Released hold cause) timely rule limits =
        let room = (limits_now book lawful).room in
        calm book (record e { what = what.Released hold cause }) lawful rule timely (λ _. refl) (λ _. refl) (omega (arith, room))
    of (what.Credited c) timely rule limits = credit_admits book m e.actor c lawful timely rule (of_room 1 limits.0) limits.1
    of (what.Asked a) timely rule limits = ask_admits book m e.actor a valid lawful timely rule (of_room 2 limits)
    of (what.Confirmed ask) timely rule limits =
        let room = (limits_now book lawful).room in
        calm book (record e { what = what.Confirmed ask }) lawful rule timely (λ _. refl) (λ _. refl) (omega (arith, room))
    of (what.Undone ask) timely rule limits =
        let room = (limits_now book lawful).room in
        calm book (record e { what = what.Undone ask }) lawful rule timely (λ _. refl) (λ _. refl) (omega (arith, room))
    of (what.Opened peer b) timely rule limits = opening_admits book m e.actor peer b lawful timely rule (of_room 1 limits.0) limits.1
    of (what.Known c) timely rule limits = calm book (record e { what = what.Known c }) lawful rule timely (λ _. refl) (λ _. refl) (omega (arith, limits))
    of (what.Pending peer amount key) timely rule limits =
        calm book (record e { what = what.Pending peer amount key }) lawful rule timely (λ _. refl) (λ _. refl) (omega (arith, limits))

-- ---- what may not

-- whatever comes next is in time
pub timely_last : (book : PlainBook) (e : Entry) → IsLawful (pushed book e) → IsInTime book.entries e
timely_last book e after = (Each-parts IsInTime book.entries e after.moments).1

-- and keeps the limits
pub limits_last : (book : PlainBook) (e : Entry) → IsLawful book → IsLawful (pushed book e) → KeepsLimits book e.what
limits_last book e before after =
    let answers = answers_once book before in
    let closings = closes_once book before in
    let answer = answers_last book e after in
    let closes = closes_last book e after in
    of e.what (rule_last book e after) (open_count-push book.entries e answers closings answer closes) (λ p. balance-push book.entries e p answers closings answer closes)
  where
    limits : IsWithinLimits (pushed book e)
    limits = limits_now (pushed book e) after

    longer : length (book.entries ++ e ∷ []) ≡ length book.entries + 1
    longer = length-append book.entries (e ∷ [])

    held : (b : Bool) (n : ℕ) → b ≡ true → cond b n 0 ≡ n
    held true n is = refl
    held false n is = absurd cc

    at_least : (least new old : ℤ) (r f n : ℕ) → new ≡ old +ℤ pos r -ℤ pos f → r ≡ 0 → f ≡ n → least ≤ℤ new → (least +ℤ pos n) ≤ℤ old
    at_least least new old r f n is none all h = omega (arith, ints)

    brought : (least new old b : ℤ) (r f : ℕ) → new ≡ old +ℤ pos r -ℤ pos f → r ≡ above b → f ≡ below b → least ≤ℤ new → least ≤ℤ (old +ℤ b)
    brought least new old (pos n) r f is up down h = omega (arith, ints, is, up, down, h)
    brought least new old (negsuc n) r f is up down h = omega (arith, ints, is, up, down, h)

    corrected : (kind : CreditKind) (amount : ℕ) (least new old : ℤ) (r f : ℕ) → new ≡ old +ℤ pos r -ℤ pos f → r ≡ raising kind amount → f ≡ lowering kind amount
        → least ≤ℤ old → least ≤ℤ new → (least +ℤ pos (lowering kind amount)) ≤ℤ old
    corrected Settled amount least new old r f is up down old_enough enough = omega (arith, ints, old_enough)
    corrected (Raised reason) amount least new old r f is up down old_enough enough = omega (arith, ints, old_enough)
    corrected (Lowered reason) amount least new old r f is up down old_enough enough = omega (arith, ints, is, up, down, enough)

    of : (w : What) → KeepsRule book.config book.period book.base book.entries e.moment w → open_count (book.entries ++ e ∷ []) + closing w ≡ open_count book.entries + opening w
        → ((p : ℕ) → balance (book.entries ++ e ∷ []) p ≡ balance book.entries p +ℤ pos (rise book.entries p w) -ℤ pos (fall p w)) → KeepsLimits book w
    of (what.Hold h) rule opened owed = (
      omega (arith, limits.room, longer, opened),
      at_least _ _ _ 0 (fall h.from (what.Hold h)) h.amount (owed h.from) refl (held _ h.amount (eq-eqb h.from h.from refl)) (limits.least h.from rule.sender),
    )
    of (what.Fulfilled hold preimage) rule opened owed = tt
    of (what.Released hold cause) rule opened owed = tt
    of (what.Credited c) rule opened owed = (
      omega (arith, limits.room, longer, opened),
      corrected c.kind c.credited _ _ _ (rise book.entries c.peer (what.Credited c)) (fall c.peer (what.Credited c)) (owed c.peer)
          (held _ (raising c.kind c.credited) (eq-eqb c.peer c.peer refl)) (held _ (lowering c.kind c.credited) (eq-eqb c.peer c.peer refl))
          ((limits_now book before).least c.peer rule.known) (limits.least c.peer rule.known),
    )
    of (what.Asked a) rule opened owed = omega (arith, limits.room, longer, opened)
    of (what.Confirmed ask) rule opened owed = tt
    of (what.Undone ask) rule opened owed = tt
    of (what.Opened peer b) rule opened owed = (
      omega (arith, limits.room, longer, opened),
      brought _ _ _ b (rise book.entries peer (what.Opened peer b)) (fall peer (what.Opened peer b)) (owed peer)
          (held _ (above b) (eq-eqb peer peer refl)) (held _ (below b) (eq-eqb peer peer refl)) (limits.least peer rule.rule.0),
    )
    of (what.Known c) rule opened owed = omega (arith, limits.room, longer, opened)
    of (what.Pending peer amount key) rule opened owed = omega (arith, limits.room, longer, opened)

-- ---- what is due

-- what is asked for from the threshold on is due
pub due_back : (o : Option Levels) (b : ℤ) (amount : ℕ) → IsSomeAnd o (λ (v : Levels). (v.threshold ≤ℤ b) × (pos amount ≡ owed_above b v)) → due_amount b o ≡ Some amount
due_back None b amount due = absurd due
due_back (Some v) b amount due = ap (λ t. cond t (Some (nat_abs (owed_above b v))) None) (reached v.threshold b due.0) ∙ ap (λ z. Some (nat_abs z)) (sym due.1)
  where
    reached : (a b : ℤ) → a ≤ℤ b → int_le a b ≡ true
    reached a b h = of (int_le a b) refl
      where
        of : (t : Bool) → int_le a b ≡ t → int_le a b ≡ true
        of true is = is
        of false is = absurd (omega (arith, ints, is, h))

-- a settlement for another amount than that isn't
pub not_due : (C : Configuration) (j : Entries) (a : Ask) → due_amount (balance j a.peer) (peer_at C a.peer).levels ≢ Some a.amount → IsDueAsk C j a → ⊥
not_due C j a other due = other (due_back (peer_at C a.peer).levels (balance j a.peer) a.amount due.due)

-- one for that amount is, where few enough are open
pub is_due : (C : Configuration) (j : Entries) (a : Ask) → IsValid C → IsKnown C a.peer → open_asks j a.peer < most_open_asks → due_amount (balance j a.peer) (peer_at C a.peer).levels ≡ Some a.amount → IsDueAsk C j a
is_due C j a valid known few due = record {
  known = known;
  few_open = few;
  due = due_from (peer_at C a.peer).levels (peer_at C a.peer) (balance j a.peer) a.amount (peer_valid C a.peer valid known).levels due;
}

-- the levels of a valid peer stand in order
pub levels_ordered : (o : Option Levels) (peer : PlainPeer) → IfSome o (AreOrdered peer) → IfSome o (λ (v : Levels). v.settle_to <ℤ v.threshold)
levels_ordered None peer h = h
levels_ordered (Some v) peer h = h.settle_to

-- ---- numbers that are compared

-- whether a balance less an amount lies below the least
pub not_covered : (owed least owed' least' : ℤ) (n : ℕ) → owed' ≡ owed → least' ≡ least → int_lt (owed' -ℤ pos n) least' ≡ true → (least +ℤ pos n) ≤ℤ owed → ⊥
not_covered owed least owed' least' n same_owed same_least short h = omega (arith, ints)

pub is_covered : (owed least owed' least' : ℤ) (n : ℕ) → owed' ≡ owed → least' ≡ least → int_lt (owed' -ℤ pos n) least' ≡ false → (least +ℤ pos n) ≤ℤ owed
is_covered owed least owed' least' n same_owed same_least short = omega (arith, ints)

-- whether a balance and what is opened lie below the least
pub opened_short : (owed least opened owed' least' opened' : ℤ) → owed' ≡ owed → least' ≡ least → opened' ≡ opened → int_lt (owed' +ℤ opened') least' ≡ true → least ≤ℤ (owed +ℤ opened) → ⊥
opened_short owed least opened owed' least' opened' same_owed same_least same_opened short h = omega (arith, ints)

pub opened_enough : (owed least opened owed' least' opened' : ℤ) → owed' ≡ owed → least' ≡ least → opened' ≡ opened → int_lt (owed' +ℤ opened') least' ≡ false → least ≤ℤ (owed +ℤ opened)
opened_enough owed least opened owed' least' opened' same_owed same_least same_opened enough = omega (arith, ints)

-- whether a moment is reached
pub ahead : (d m d' m' : ℤ) → d' ≡ d → m' ≡ m → int_le d' m' ≡ false → m <ℤ d
ahead d m d' m' same_d same_m e = omega (arith, ints)

pub up_to : (last d last' d' : ℤ) → last' ≡ last → d' ≡ d → int_lt last' d' ≡ false → d ≤ℤ last
up_to last d last' d' same_last same_d e = omega (arith, ints)

pub not_reached : (d m d' m' : ℤ) → d' ≡ d → m' ≡ m → int_le d' m' ≡ false → d ≤ℤ m → ⊥
not_reached d m d' m' same_d same_m e h = omega (arith, ints)

-- ---- which rule is broken

-- a rule but that of moments
pub breaks_rule : (C : Configuration) (period : ℕ) (before : Entries) (e : Entry) (r : BrokenRule) → BreaksRule C period before e.moment e.what r → Breaks C period before e r
breaks_rule C period before e rule.Moment breaks = absurd breaks
breaks_rule C period before e r breaks = breaks
