-- What holds of every book that is carried over.
use Rattle.std.proofs.Common.{◌≡◌, ℕ, zero, suc, ◌+◌, ◌≤◌, ℤ, pos, List, [], ◌∷◌, ◌++◌, length, take, Option, Some, None, refl, sym, ap, ◌∙◌, subst, arith, append_assoc}
use Rattle.std.specs.Prelude.{◌≤ℤ◌, option_map, option_to_list}
use Rattle.std.proofs.lemmas.List.{append-nil}
use Rattle.ilp_terms.specs.Expiry.{last_of_all}
use Rattle.ilp_accounts.specs.Configuration.{Configuration}
use Rattle.ilp_accounts.specs.Valid.{IsValid}
use Rattle.ilp_journal.specs.declared.entry.Hold.{Hold}
use Rattle.ilp_journal.specs.declared.entry.What.TheVariants as what
use Rattle.ilp_order.specs.Places.{EachAfter}
use Rattle.ilp_journal.specs.Journal.{Entries, IsBase, last_moment, open_hold_at}
use Rattle.ilp_journal_text.proofs.OneText as text
use Rattle.ilp_journal_text.proofs.FirstBad.{never_bad}
use Rattle.ilp_rules.specs.declared.fault.CarryFault.{CarryFault}
use Rattle.ilp_rules.specs.declared.fault.CarryFault.TheVariants.{BadJournalText, Unlawful, Memory}
use Rattle.ilp_rules.specs.Book.{PlainBook, by, moment_at, extended, with_base, with_entries}
use Rattle.ilp_rules.specs.Carried.{begun_with, carried, end_of, ended_by_start, ends_of_open}
use Rattle.ilp_rules.specs.Carry.{IsCarriedOver, IsFirstUnlawful, IsWhyNotCarried}
use Rattle.ilp_rules.specs.Judging.{behind_all}
use Rattle.ilp_rules.specs.Lawful.{IsLawful, IsInTime, KeepsRuleOf}
use Rattle.ilp_rules.proofs.Ending.{all_ended, are_ended, closed_base, end_keeps, ends_more, ends_to}
use Rattle.ilp_rules.proofs.InTime.{in_time}
use Rattle.ilp_rules.proofs.LawfulGrowth.{After, limits_now}
use Rattle.ilp_rules.proofs.Rebasing.{lawful_behind}
use Rattle.ilp_rules.proofs.Rules.{answers_once}

-- ---- what a carried book is

-- a lawful journal stays so as its open holds end
ends_lawful : (book : PlainBook) (m : ℤ) (k : ℕ) → IsValid book.config → IsLawful book → book.base ≡ behind_all → last_moment book.entries ≤ℤ m → pos 0 ≤ℤ m → m ≤ℤ last_of_all
    → k ≤ length book.entries → IsLawful (extended book (ends_to m book.entries k))
ends_lawful book m zero valid lawful base later first last few = subst (λ es. IsLawful (with_entries book es)) (sym (append-nil book.entries)) lawful
ends_lawful book m (suc k) valid lawful base later first last few =
    let j = book.entries in
    let next : k + 1 ≡ suc k = omega arith in
    let whole : (j ++ ends_to m j k) ++ end_of m j k ≡ j ++ ends_to m j (suc k) =
    append_assoc j (ends_to m j k) (end_of m j k) ∙ ap (λ es. j ++ es) (sym (ends_more m j k) ∙ ap (ends_to m j) next) in
    subst (λ es. IsLawful (with_entries book es)) whole (of (ends_lawful book m k valid lawful base later first last (omega (arith, few))) (open_hold_at j k) refl)
  where
    so_far : PlainBook
    so_far = extended book (ends_to m book.entries k)

    of : IsLawful so_far → (o : Option Hold) → open_hold_at book.entries k ≡ o → IsLawful (extended so_far (option_to_list (option_map (ended_by_start m k) o)))
    of before None is = subst (λ es. IsLawful (with_entries book es)) (sym (append-nil so_far.entries)) before
    of before (Some h) is =
        let ended = are_ended m book.entries k (answers_once book lawful) (omega (arith, few)) in
        end_keeps so_far m k h valid before base (ended.left k (omega arith) (omega (arith, few)) ∙ is) (ended.later later) first last

-- a lawful journal is carried over as one
pub carried_lawful : (C : Configuration) (period : ℕ) (entries : Entries) (now : ℤ) → IsValid C → IsLawful (begun_with C period entries) → IsLawful (carried C period entries now)
carried_lawful C period entries now valid lawful =
    let m = moment_at entries now in
    let few : length entries ≤ behind_all = omega (arith, (limits_now (begun_with C period entries) lawful).room, valid.settings.journal.1) in
    let book : PlainBook = with_base (begun_with C period entries) behind_all in
    let taken : IsLawful book = lawful_behind (begun_with C period entries) behind_all few lawful in
    let timely = in_time (begun_with C period entries) (by 0 now) (what.Confirmed 0) lawful in
    let ended = ends_lawful book m (length entries) valid taken refl timely.later timely.first timely.last (omega arith) in
    lawful_behind (extended book (ends_of_open m entries)) (length (entries ++ ends_of_open m entries)) (omega arith) ended

-- no hold is open in it
pub carried_closed : (C : Configuration) (period : ℕ) (entries : Entries) (now : ℤ) (n : ℕ) → IsLawful (begun_with C period entries) → open_hold_at (carried C period entries now).entries n ≡ None
carried_closed C period entries now n lawful = all_ended (moment_at entries now) entries (answers_once (begun_with C period entries) lawful) n

pub carried_base : (C : Configuration) (period : ℕ) (entries : Entries) (now : ℤ) → IsLawful (begun_with C period entries) → IsBase (carried C period entries now).entries (carried C period entries now).base
carried_base C period entries now lawful = closed_base (carried C period entries now).entries (λ n. carried_closed C period entries now n lawful)

-- ---- what a text comes to

-- what holds of each element holds of those in front
each_front : {X : Type 0} (P : List X → X → Type 0) (before xs : List X) (n : ℕ) → EachAfter P before xs → EachAfter P before (take n xs)
each_front P before xs zero each = tt
each_front P before [] (suc n) each = tt
each_front P before (x ∷ xs) (suc n) each = (each.0, each_front P (before ++ x ∷ []) xs n each.1)

-- the front of a lawful journal is lawful
pub lawful_front : (book : PlainBook) (n : ℕ) → IsLawful book → IsLawful (with_entries book (take n book.entries))
lawful_front book n lawful = record {
  numbered = lawful.numbered;
  rules = each_front (KeepsRuleOf book) [] book.entries n lawful.rules;
  moments = each_front IsInTime [] book.entries n lawful.moments;
  empty = lawful.empty;
  limits = each_front (After book) [] book.entries n lawful.limits;
}

-- a text that is carried over isn't refused for what it says
pub carried_or_not : (C : Configuration) (octets : List ℕ) (now : ℤ) (book : PlainBook) (fault : CarryFault) → IsValid C → IsCarriedOver C octets now book → IsWhyNotCarried C octets fault → fault ≡ Memory
carried_or_not C octets now book (BadJournalText line) valid is bad = absurd (never_bad C is.period is.entries octets line is.written bad)
carried_or_not C octets now book (Unlawful n rule) valid is bad =
    let same = text.one_journal C valid bad.0 is.period bad.1 is.entries octets bad.2 is.written in
    let stop : IsFirstUnlawful C is.period is.entries n rule =
    subst (λ p. IsFirstUnlawful C p is.entries n rule) same.0 (subst (λ j. IsFirstUnlawful C bad.0 j n rule) same.1 bad.3) in
    absurd (stop.unlawful (lawful_front (begun_with C is.period is.entries) (n + 1) is.lawful))
carried_or_not C octets now book Memory valid is bad = refl

-- and is carried over as one book
pub carried_as_one : (C : Configuration) (octets : List ℕ) (now : ℤ) (book other : PlainBook) → IsValid C → IsCarriedOver C octets now book → IsCarriedOver C octets now other → book ≡ other
carried_as_one C octets now book other valid is also =
    let same = text.one_journal C valid is.period also.period is.entries also.entries octets is.written also.written in
    is.begins ∙ ap (λ p. carried C p is.entries now) same.0 ∙ ap (λ j. carried C also.period j now) same.1 ∙ sym also.begins
