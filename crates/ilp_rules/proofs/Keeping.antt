-- What a book keeps as its journal grows.
use Rattle.std.proofs.Common.{◌≡◌, ℕ, zero, suc, ◌+◌, ◌-◌, ◌^◌, ◌<◌, ◌≤◌, ℤ, pos, Bool, true, false, cond, List, [], ◌∷◌, ◌++◌, length, Option, Some, None, refl, sym, ap, ◌∙◌, subst, arith, length-append}
use Rattle.std.specs.Prelude.{slice_get, fold, option_and_then, IsSome}
use Rattle.std.specs.Ordering.{nat_cmp}
use Rattle.std.specs.FinMap as fin_map
use Rattle.std.specs.FinMap.{FinMap}
use Rattle.std.proofs.lemmas.Option.{slice_get_past}
use Rattle.ilp_accounts.specs.Configuration.{Configuration}
use Rattle.ilp_accounts.specs.Valid.{IsValid}
use Rattle.ilp_journal.specs.declared.entry.Entry.{Entry}
use Rattle.ilp_journal.specs.declared.entry.What.{What}
use Rattle.ilp_journal.specs.declared.entry.What.TheVariants as what
use Rattle.ilp_journal.specs.Booked.{Booked}
use Rattle.ilp_journal.specs.declared.entry.Hold.{Hold}
use Rattle.ilp_order.specs.Places.{Each}
use Rattle.ilp_journal.specs.Journal.{Entries, AnswersHold, ClosesAsk, AnswersOnce, ClosesOnce, as_hold, is_unanswered, open_hold_at, open_count, opening, closing, last_moment}
use Rattle.ilp_order.proofs.Sums.{Each-parts}
use Rattle.ilp_journal.proofs.Growth.{open_count-push}
use Rattle.ilp_journal.proofs.Closers.{AnswersHold-once, ClosesAsk-once}
use Rattle.ilp_holds.specs.Table.{Table}
use Rattle.ilp_tallies.specs.OpenAsks.{HasRoomToAsk}
use Rattle.ilp_tallies.specs.Tallies.{PlainTallies, AreTallies, KnowsPeers, GrowsBy}
use Rattle.ilp_tallies.proofs.Growing.{own_tallies}
use Rattle.ilp_rules.specs.CreditTables.{PlainCredits, KeepsKey}
use Rattle.ilp_rules.specs.Book.{PlainBook, pushed}
use Rattle.ilp_rules.specs.Configured.{peer_assets}
use Rattle.ilp_rules.specs.Lawful.{IsLawful, KeepsRuleOf}
use Rattle.ilp_journal.specs.Credits.{as_credit}
use Rattle.ilp_rules.specs.Parts.{AreParts, book_of}
use Rattle.ilp_rules.specs.Tables.{deadline_of, AreTables, FollowsHolds}
use Rattle.ilp_rules.proofs.LawfulGrowth.{lawful_empty, limits_now}
use Rattle.ilp_rules.proofs.Rules.{rule_answers, rule_closes, answers_once, closes_once}
use Rattle.ilp_rules.proofs.TableSteps.{open_after, kept_after, key_fresh, peers_known, room_to_ask, keeps_nothing}

-- the parts of a book of no entries
pub parts_new : (C : Configuration) (period base : ℕ) (journal : Booked) (tallies : PlainTallies) (holds : Table) (keys : PlainCredits) → IsValid C → period < 2 ^ 32 → journal.entries ≡ [] → journal.limit ≡ C.settings.journal
    → AreTables (peer_assets C) base [] tallies holds keys → AreParts C period base journal tallies holds keys
parts_new C period base journal tallies holds keys valid numbered empty limited tabled = record {
  valid = valid;
  lawful = rw empty (lawful_empty (book_of C period base journal) valid numbered);
  limited = limited;
  tabled = rw empty tabled;
  room = rw empty (omega arith);
}

-- the moment of the last entry, by its number
pub last_moment_at : (j : Entries) (e : Entry) → slice_get j (length j - 1) ≡ Some e → last_moment j ≡ e.moment
last_moment_at [] e at = absurd cc
last_moment_at (x ∷ xs) e at = from (pos 0) x xs (length (x ∷ xs) - 1) (omega arith) e at where
  from : (a : ℤ) (y : Entry) (ys : Entries) (k : ℕ) → k ≡ length ys → (d : Entry) → slice_get (y ∷ ys) k ≡ Some d → fold (λ _ (e : Entry). e.moment) a (y ∷ ys) ≡ d.moment
  from a y [] zero size d same = let is : y ≡ d = cc in ap (λ (o : Entry). o.moment) is
  from a y [] (suc k) size d same = absurd (omega arith)
  from a y (z ∷ zs) zero size d same = absurd (omega arith)
  from a y (z ∷ zs) (suc k) size d same = from y.moment z zs k (omega arith) d same

-- a journal that has an entry has a last one
pub last_entry_stands : (j : Entries) → slice_get j (length j - 1) ≡ None → length j ≡ 0
last_entry_stands [] none = refl
last_entry_stands (x ∷ xs) none = absurd (from x xs (length (x ∷ xs) - 1) (omega arith) none) where
  from : (y : Entry) (ys : Entries) (k : ℕ) → k ≡ length ys → slice_get (y ∷ ys) k ≡ None → ⊥
  from y [] zero size none = cc
  from y [] (suc k) size none = omega arith
  from y (z ∷ zs) zero size none = omega arith
  from y (z ∷ zs) (suc k) size none = from z zs k (omega arith) none

-- ---- what is named

-- the last entry of a lawful book keeps its rule
pub rule_last : (book : PlainBook) (e : Entry) → IsLawful (pushed book e) → KeepsRuleOf book book.entries e
rule_last book e after = (Each-parts (KeepsRuleOf book) book.entries e after.rules).1

-- so it answers an open hold, if any, and closes an open settlement, if any
pub answers_last : (book : PlainBook) (e : Entry) → IsLawful (pushed book e) → AnswersOnce book.entries e
answers_last book e after = rule_answers book.config book.period book.base book.entries e (rule_last book e after)

pub closes_last : (book : PlainBook) (e : Entry) → IsLawful (pushed book e) → ClosesOnce book.entries e
closes_last book e after = rule_closes book.config book.period book.base book.entries e (rule_last book e after)

-- a lawful entry answers a hold that stands before it
pub names_hold : (book : PlainBook) (e : Entry) → IsLawful (pushed book e) → AnswersHold book.entries e
names_hold book e after = AnswersHold-once book.entries e (answers_last book e after)

-- and closes a settlement that stands before it
pub names_ask : (book : PlainBook) (e : Entry) → IsLawful (pushed book e) → ClosesAsk book.entries e
names_ask book e after = ClosesAsk-once book.entries e (closes_last book e after)

-- ---- what ends

-- what ends something opens nothing
ends_alone : (w : What) → closing w ≡ 1 → opening w ≡ 0
ends_alone (what.Hold h) one = cc
ends_alone (what.Fulfilled hold preimage) one = refl
ends_alone (what.Released hold cause) one = refl
ends_alone (what.Credited c) one = refl
ends_alone (what.Asked a) one = cc
ends_alone (what.Confirmed ask) one = refl
ends_alone (what.Undone ask) one = refl
ends_alone (what.Opened peer balance) one = refl
ends_alone (what.Known c) one = refl
ends_alone (what.Pending peer amount key) one = cc

-- it leaves one open less
pub end_frees : (book : PlainBook) (e : Entry) → IsLawful book → IsLawful (pushed book e) → closing e.what ≡ 1 → open_count (book.entries ++ e ∷ []) + 1 ≡ open_count book.entries
end_frees book e before after one =
    omega (arith, open_count-push book.entries e (answers_once book before) (closes_once book before) (answers_last book e after) (closes_last book e after), one, ends_alone e.what one)

-- so one more entry fits
pub end_fits : (C : Configuration) (period base : ℕ) (journal : Booked) (tallies : PlainTallies) (holds : Table) (keys : PlainCredits) (e : Entry) → AreParts C period base journal tallies holds keys → IsLawful (pushed (book_of C period base journal) e) → closing e.what ≡ 1
    → (1 ≤ journal.spare) × (length journal.entries < journal.limit)
end_fits C period base journal tallies holds keys e parts after one =
    let book = book_of C period base journal in
    let frees = end_frees book e parts.lawful after one in
    let limits = (limits_now book parts.lawful).room in
    (omega (arith, frees, parts.room), omega (arith, frees, limits, parts.limited))

-- what ends something opens no hold
pub opens_none : (w : What) → closing w ≡ 1 → IsSome (as_hold w) → ⊥
opens_none (what.Hold h) one hold = cc
opens_none (what.Fulfilled h preimage) one hold = cc
opens_none (what.Released h cause) one hold = cc
opens_none (what.Credited c) one hold = cc
opens_none (what.Asked a) one hold = cc
opens_none (what.Confirmed ask) one hold = cc
opens_none (what.Undone ask) one hold = cc
opens_none (what.Opened peer balance) one hold = cc
opens_none (what.Known c) one hold = cc
opens_none (what.Pending peer amount key) one hold = cc

-- and keeps no key
pub end_keeps : (keys : PlainCredits) (n : ℕ) (w : What) → closing w ≡ 1 → KeepsKey keys keys n w
end_keeps keys n w one = keeps_nothing keys n w (no_credit w one)
  where
    no_credit : (w : What) → closing w ≡ 1 → as_credit w ≡ None
    no_credit (what.Hold h) one = cc
    no_credit (what.Fulfilled h preimage) one = refl
    no_credit (what.Released h cause) one = refl
    no_credit (what.Credited c) one = cc
    no_credit (what.Asked a) one = cc
    no_credit (what.Confirmed ask) one = refl
    no_credit (what.Undone ask) one = refl
    no_credit (what.Opened peer balance) one = refl
    no_credit (what.Known c) one = cc
    no_credit (what.Pending peer amount key) one = refl

-- ---- what ends nothing

-- it leaves so many more open as it opens
grown_opens : (book : PlainBook) (e : Entry) → IsLawful book → IsLawful (pushed book e) → closing e.what ≡ 0 → open_count (book.entries ++ e ∷ []) ≡ open_count book.entries + opening e.what
grown_opens book e before after none =
    omega (arith, open_count-push book.entries e (answers_once book before) (closes_once book before) (answers_last book e after) (closes_last book e after), none)

-- so the entry fits, and what is open then is counted
pub grown_fits : (C : Configuration) (period base : ℕ) (journal : Booked) (tallies : PlainTallies) (holds : Table) (keys : PlainCredits) (opened : ℕ) (e : Entry) → AreParts C period base journal tallies holds keys → IsLawful (pushed (book_of C period base journal) e) → closing e.what ≡ 0 → opening e.what ≡ opened
    → (length journal.entries < journal.limit) × (open_count journal.entries + opened ≤ journal.limit)
grown_fits C period base journal tallies holds keys opened e parts after none opens =
    let book = book_of C period base journal in
    let grown = grown_opens book e parts.lawful after none in
    let limits = (limits_now (pushed book e) after).room in
    let longer = length-append journal.entries (e ∷ []) in
    (omega (arith, limits, longer, parts.limited), omega (arith, grown, opens, limits, parts.limited))

-- ---- one entry more

-- it opens one at most
pub opens_one : (w : What) → opening w ≤ 1
opens_one (what.Hold h) = omega arith
opens_one (what.Fulfilled h preimage) = omega arith
opens_one (what.Released h cause) = omega arith
opens_one (what.Credited c) = omega arith
opens_one (what.Asked a) = omega arith
opens_one (what.Confirmed ask) = omega arith
opens_one (what.Undone ask) = omega arith
opens_one (what.Opened peer balance) = omega arith
opens_one (what.Known c) = omega arith
opens_one (what.Pending peer amount key) = omega arith

-- and leaves no more open than were and it opens
pub opens_at_most : (book : PlainBook) (e : Entry) → IsLawful book → IsLawful (pushed book e) → open_count (book.entries ++ e ∷ []) ≤ open_count book.entries + opening e.what
opens_at_most book e before after =
    omega (arith, open_count-push book.entries e (answers_once book before) (closes_once book before) (answers_last book e after) (closes_last book e after))

-- what the tables want to know of the next entry
pub record IsNext (j : Entries) (tallies : PlainTallies) (deadlines : FinMap nat_cmp ℤ) (e : Entry) : Type 0 where
  pub tallied : AreTallies tallies.assets tallies.base j tallies
  pub longer : length j + 1 < 2 ^ 32
  pub few : HasRoomToAsk j e.what
  pub known : KnowsPeers (length tallies.assets) e.what
  pub answers : Each AnswersOnce j
  pub closings : Each ClosesOnce j
  pub answer : AnswersOnce j e
  pub closes : ClosesOnce j e
  pub absent : fin_map.get deadlines (length j) ≡ None

-- it is so of an entry that the book's rules allow
pub next_by : (C : Configuration) (period base : ℕ) (journal : Booked) (tallies : PlainTallies) (deadlines : FinMap nat_cmp ℤ) (e : Entry) → IsValid C → IsLawful (book_of C period base journal) → IsLawful (pushed (book_of C period base journal) e) → length journal.entries < C.settings.journal
    → AreTallies (peer_assets C) base journal.entries tallies → fin_map.get deadlines (length journal.entries) ≡ None → IsNext journal.entries tallies deadlines e
next_by C period base journal tallies deadlines e valid lawful after room tallied absent =
    let j = journal.entries in
    let book = book_of C period base journal in
    let rule = rule_last book e after in
    record {
      tallied = own_tallies (peer_assets C) base j tallies tallied;
      longer = omega (arith, room, valid.settings.journal.1);
      few = room_to_ask C period base j e.moment e.what rule;
      known = subst (λ (assets : List ℕ). KnowsPeers (length assets) e.what) (sym tallied.listed) (peers_known C period base j e.moment e.what rule);
      answers = answers_once book lawful;
      closings = closes_once book lawful;
      answer = answers_last book e after;
      closes = closes_last book e after;
      absent = absent;
    }

pub is_next : (C : Configuration) (period base : ℕ) (journal : Booked) (tallies : PlainTallies) (holds : Table) (keys : PlainCredits) (e : Entry) → AreParts C period base journal tallies holds keys → IsLawful (pushed (book_of C period base journal) e) → length journal.entries < journal.limit
    → IsNext journal.entries tallies holds.map e
is_next C period base journal tallies holds keys e parts after room =
    let j = journal.entries in
    next_by C period base journal tallies holds.map e parts.valid parts.lawful after (omega (arith, room, parts.limited)) parts.tabled.tallied (parts.tabled.open_holds (length j) ∙ ap deadline_of (none_past j (length j) (omega arith)))
  where
    none_past : (j : Entries) (n : ℕ) → length j ≤ n → open_hold_at j n ≡ None
    none_past j n past = ap (λ o. cond (is_unanswered j n) (option_and_then (λ (d : Entry). as_hold d.what) o) None) (slice_get_past j n past) ∙ either (is_unanswered j n)
      where
        either : (b : Bool) → ◌≡◌ {A = Option Hold} (cond b None None) None
        either true = refl
        either false = refl

-- it stays so where room is made
pub still_next : (j k : Entries) (tallies same : PlainTallies) (deadlines those : FinMap nat_cmp ℤ) (e : Entry) → k ≡ j → same ≡ tallies → those ≡ deadlines → IsNext j tallies deadlines e → IsNext k same those e
still_next j k tallies same deadlines those e entries listed held next =
    subst (λ (es : Entries). IsNext es same those e) (sym entries)
    (subst (λ (t : PlainTallies). IsNext j t those e) (sym listed) (subst (λ (m : FinMap nat_cmp ℤ). IsNext j tallies m e) (sym held) next))

-- the parts of the book after an entry that its tables follow
pub parts_next : (C : Configuration) (period base : ℕ) (before after : Booked) (tallies tallied : PlainTallies) (holds held : Table) (keys kept : PlainCredits) (e : Entry) → AreParts C period base before tallies holds keys → IsLawful (pushed (book_of C period base before) e)
    → after.entries ≡ before.entries ++ e ∷ [] → after.limit ≡ before.limit → open_count (before.entries ++ e ∷ []) ≤ after.spare
    → GrowsBy before.entries e tallies tallied → FollowsHolds holds.map held.map (length before.entries) e.what → KeepsKey keys kept (length before.entries) e.what → AreParts C period base after tallied held kept
parts_next C period base before after tallies tallied holds held keys kept e parts lawful grown limit room grows follows keeps =
    let j = before.entries in
    let book = book_of C period base before in
    record {
      valid = parts.valid;
      lawful = rw grown lawful;
      limited = limit ∙ parts.limited;
      tabled = rw grown (record {
        tallied = grows (peer_assets C) base parts.tabled.tallied;
        open_holds = open_after j e holds.map held.map (answers_once book parts.lawful) (answers_last book e lawful) parts.tabled.open_holds follows;
        kept = kept_after j e keys kept (key_fresh C period base j e.moment e.what (rule_last book e lawful)) parts.tabled.kept keeps;
      });
      room = rw grown room;
    }

-- those after an entry that ends something
pub parts_closed : (C : Configuration) (period base : ℕ) (before after : Booked) (tallies tallied : PlainTallies) (holds held : Table) (keys kept : PlainCredits) (e : Entry) → AreParts C period base before tallies holds keys → IsLawful (pushed (book_of C period base before) e)
    → closing e.what ≡ 1 → after.entries ≡ before.entries ++ e ∷ [] → after.spare + 1 ≡ before.spare → after.limit ≡ before.limit
    → GrowsBy before.entries e tallies tallied → FollowsHolds holds.map held.map (length before.entries) e.what → kept ≡ keys → AreParts C period base after tallied held kept
parts_closed C period base before after tallies tallied holds held keys kept e parts lawful one grown used limit grows follows still =
    let frees = end_frees (book_of C period base before) e parts.lawful lawful one in
    parts_next C period base before after tallies tallied holds held keys kept e parts lawful grown limit (omega (arith, frees, used, parts.room)) grows follows
    (subst (λ (t : PlainCredits). KeepsKey keys t (length before.entries) e.what) (sym still) (end_keeps keys (length before.entries) e.what one))

-- those after an entry for which room was made between
pub parts_grown : (C : Configuration) (period base : ℕ) (before between after : Booked) (tallies same tallied : PlainTallies) (holds those held : Table) (keys ready kept : PlainCredits) (opened : ℕ) (e : Entry) → AreParts C period base before tallies holds keys → IsLawful (pushed (book_of C period base before) e)
    → opening e.what ≤ opened → between.entries ≡ before.entries → after.entries ≡ between.entries ++ e ∷ [] → open_count before.entries + opened ≤ after.spare → after.limit ≡ before.limit
    → same ≡ tallies → GrowsBy between.entries e same tallied → those.map ≡ holds.map → FollowsHolds those.map held.map (length between.entries) e.what → KeepsKey keys ready (length before.entries) e.what → kept ≡ ready
    → AreParts C period base after tallied held kept
parts_grown C period base before between after tallies same tallied holds those held keys ready kept opened e parts lawful opens entries grown room limit listed grows held_are follows keeps still =
    let j = before.entries in
    let counted = opens_at_most (book_of C period base before) e parts.lawful lawful in
    parts_next C period base before after tallies tallied holds held keys kept e parts lawful (grown ∙ ap (λ (es : Entries). es ++ e ∷ []) entries) limit (omega (arith, counted, opens, room))
    (subst (λ (t : PlainTallies). GrowsBy j e t tallied) listed (subst (λ (es : Entries). GrowsBy es e same tallied) entries grows))
    (subst (λ (m : FinMap nat_cmp ℤ). FollowsHolds m held.map (length j) e.what) held_are (subst (λ (es : Entries). FollowsHolds those.map held.map (length es) e.what) entries follows))
    (subst (λ (t : PlainCredits). KeepsKey keys t (length j) e.what) (sym still) keeps)
