-- A credit, an ask or a closing that a step appends to a lawful journal is admitted by its rules.
use Rattle.std.proofs.Common.{◌≡◌, ℕ, ◌<◌, ◌^◌, ℤ, pos, ◌+ℤ◌, ◌-ℤ◌, Bool, true, false, not, ◌&&◌, List, Option, Some, None, refl, sym, ap, ap₂, ◌∙◌, subst, arith}
use Rattle.std.specs.Prelude.{Result, Ok, Err, ◌≤ℤ◌, int_lt, nat_lt, ◌==◌, unwrap_or, option_map, option_and_then, IsSome, IsNone}
use Rattle.std.specs.Str.{bytes_eq}
use Rattle.std.proofs.lemmas.Bool.{le-ltb}
use Rattle.std.proofs.lemmas.Int.{ints}
use Rattle.ilp_order.specs.Refusals.{◌>>=◌, refuse_if, refuse_some, found_or}
use Rattle.ilp_assets.specs.Quote.{most}
use Rattle.ilp_accounts.specs.Configuration.{Configuration, peer_at}
use Rattle.ilp_accounts.specs.Valid.{IsValid}
use Rattle.ilp_journal.specs.declared.entry.Entry.{Entry}
use Rattle.ilp_journal.specs.declared.entry.What.{What}
use Rattle.ilp_journal.specs.declared.entry.What.TheVariants as what
use Rattle.ilp_journal.specs.declared.entry.Ask.{Ask}
use Rattle.ilp_journal.specs.declared.entry.Credited.{Credited}
use Rattle.ilp_journal.specs.Keys.{IsKey}
use Rattle.ilp_journal.specs.Journal.{Entries, open_ask_at}
use Rattle.ilp_journal.specs.Balance.{balance}
use Rattle.ilp_book.specs.declared.calls.Asked.{Asked}
use Rattle.ilp_book.specs.declared.calls.Kept.{Kept}
use Rattle.ilp_book.specs.declared.fault.CreditFault.{CreditFault}
use Rattle.ilp_book.specs.declared.fault.CreditFault.TheVariants as credit_fault
use Rattle.ilp_book.specs.declared.fault.AskFault.{AskFault}
use Rattle.ilp_book.specs.declared.fault.AskFault.TheVariants as ask_fault
use Rattle.ilp_rules.specs.Configured.{IsKnown}
use Rattle.ilp_rules.specs.Book.{PlainBook, By, Does, Growth, granted, denied, entry_by, has_room, moment_at, pushed, with_entry}
use Rattle.ilp_journal.specs.Credits.{lowering, as_credit, credit_at, has_key, kept_at}
use Rattle.ilp_rules.specs.Lawful.{IsLawful, IsFreshCredit, IsDueAsk}
use Rattle.ilp_settlement.specs.declared.verdict.EngineVerdict.{EngineVerdict}
use Rattle.ilp_settlement.specs.declared.verdict.EngineVerdict.TheVariants as engine
use Rattle.ilp_book.specs.SettleStep.{Payment, closing_of_verdict, amount_of, credit_of, kept, credit_fitted, credit_fresh, credit_checked, credit_booked, credit_step, still_open, ask_fitted, ask_checked, ask_booked, ask_step, close_booked, close_step}
use Rattle.ilp_rules.specs.Lawful.{due_amount}
use Rattle.ilp_rules.proofs.Known.{peer_valid}
use Rattle.ilp_rules.proofs.LawfulGrowth.{Admits, lawful_push, limits_now}
use Rattle.ilp_rules.proofs.Standing.{first_found}
use Rattle.ilp_rules.proofs.Admitting.{credit_admits, due_from, ask_admits}
use Rattle.ilp_order.proofs.RefusalLemmas.{refused_not, none_refused, found, ok_same, not_true, is_some_at}
use Rattle.ilp_rules.proofs.InTime.{in_time, calm}
use Rattle.ilp_book.proofs.OpenAsks.{few_open}

-- ---- closings

-- the entry of a closing keeps the book lawful
pub close_keeps : (book : PlainBook) (caller : By) (n : ℕ) (verdict : EngineVerdict) (a : Ask) → IsLawful book → open_ask_at book.entries n ≡ Some a
    → IsLawful (pushed book (entry_by book caller (closing_of_verdict n verdict)))
close_keeps book caller n verdict a lawful is = of verdict
  where
    stands : IsSome (open_ask_at book.entries n)
    stands = is_some_at (open_ask_at book.entries n) a is

    of : (v : EngineVerdict) → IsLawful (pushed book (entry_by book caller (closing_of_verdict n v)))
    of engine.Accepted = let r = (limits_now book lawful).room in lawful_push book _ lawful (calm book (entry_by book caller (what.Confirmed n)) lawful stands
        (in_time book caller (what.Confirmed n) lawful) (λ _. refl) (λ _. refl) (omega (arith, r)))
    of engine.Refused = let r = (limits_now book lawful).room in lawful_push book _ lawful (calm book (entry_by book caller (what.Undone n)) lawful stands
        (in_time book caller (what.Undone n) lawful) (λ _. refl) (λ _. refl) (omega (arith, r)))

-- the same, where its moment and what it says are known by equations
pub close_keeps_at : (book : PlainBook) (caller : By) (n : ℕ) (verdict : EngineVerdict) (a : Ask) (m : ℤ) (w : What) → IsLawful book → open_ask_at book.entries n ≡ Some a
    → m ≡ moment_at book.entries caller.now → w ≡ closing_of_verdict n verdict → IsLawful (pushed book (record { moment = m; actor = caller.actor; what = w }))
close_keeps_at book caller n verdict a m w lawful is at_moment said =
    let Keeps : ℤ → What → Type 0 = λ t x. IsLawful (pushed book (record { moment = t; actor = caller.actor; what = x })) in
    subst (Keeps m) (sym said) (subst (λ t. Keeps t (closing_of_verdict n verdict)) (sym at_moment) (close_keeps book caller n verdict a lawful is))

pub close_lawful : (book : PlainBook) (caller : By) (n : ℕ) (verdict : EngineVerdict) → IsLawful book → IsLawful (with_entry book (close_step book caller n verdict).entry)
unfolding close_step
close_lawful book caller n verdict lawful = of (open_ask_at book.entries n) (λ a. close_keeps book caller n verdict a lawful)
  where
    of : (o : Option Ask) → ((a : Ask) → o ≡ Some a → IsLawful (pushed book (entry_by book caller (closing_of_verdict n verdict)))) → IsLawful (with_entry book (close_booked book caller n verdict o).entry)
    of None keeps = lawful
    of (Some a) keeps = keeps a refl

-- ---- credits

-- where no credit is kept no entry has the key
none_kept : (j : Entries) (peer : ℕ) (key : List ℕ) → kept j peer key ≡ None → IsNone (kept_at j peer key)
none_kept j peer key e = of_test (kept_at j peer key) refl e
  where
    is_credit : (w : What) → has_key peer key w ≡ true → IsSome (as_credit w)
    is_credit w t = at (as_credit w) t
      where
        at : (o : Option Credited) → unwrap_or (option_map (λ (c : Credited). (c.peer == peer) && bytes_eq c.key key) o) false ≡ true → IsSome o
        at None t = cc
        at (Some c) t = refl

    stands : (n : ℕ) → kept_at j peer key ≡ Some n → IsSome (credit_at j n)
    stands n is =
        let f = first_found (λ _ (e : Entry). has_key peer key e.what) 0 n j is in
        let place : f.0 ≡ n = omega (arith, f.2) in
        subst (λ k. IsSome (credit_at j k)) place (rw f.3 (is_credit f.1.what f.4))

    of_test : (o : Option ℕ) → kept_at j peer key ≡ o → option_and_then {U = ℕ × Credited} (λ n. option_map (λ (c : Credited). (n, c)) (credit_at j n)) o ≡ None → IsNone o
    of_test None is e = refl
    of_test (Some n) is e = none (credit_at j n) (stands n is) e
      where
        none : (o : Option Credited) → IsSome o → option_map {U = ℕ × Credited} (λ (c : Credited). (n, c)) o ≡ None → IsNone (Some n)
        none None s e = cc
        none (Some c) s e = absurd cc

-- a payment whose key is not kept is a fresh credit
pub fresh_credit : (C : Configuration) (j : Entries) (p : Payment) → IsKnown C p.peer → IsKey p.key → kept j p.peer p.key ≡ None → IsFreshCredit C j (credit_of C p)
fresh_credit C j p known key none = record { known = known; named = key; rounded = refl; fresh = none_kept j p.peer p.key none }

-- a payment of so much, whose key is not kept, is checked as its credit is
pub fresh_checked : (book : PlainBook) (p : Payment) (n : ℕ) → n ≡ amount_of book.config p → n < 2 ^ 64 → kept book.entries p.peer p.key ≡ None
    → credit_checked book p ≡ credit_fitted book (record { peer = p.peer; key = p.key; named = p.quantity.amount; scale = p.quantity.scale; credited = n; kind = p.kind })
unfolding credit_checked
fresh_checked book p n amount small none =
    let fits : nat_lt most (amount_of book.config p) ≡ false = le-ltb most (amount_of book.config p) (omega (arith, amount, small)) in
    ap (λ (b : Bool). refuse_if b (Err credit_fault.TooLarge) >>= (λ _. credit_fresh book p (kept book.entries p.peer p.key))) fits
    ∙ ap (credit_fresh book p) none
    ∙ ap (λ (m : ℕ). credit_fitted book (record { peer = p.peer; key = p.key; named = p.quantity.amount; scale = p.quantity.scale; credited = m; kind = p.kind })) (sym amount)

-- a balance that would not fall below its least
abbrev pub IsEnough : PlainBook → Credited → Type 0
IsEnough book c = int_lt (balance book.entries c.peer -ℤ pos (lowering c.kind c.credited)) (peer_at book.config c.peer).least ≡ false

-- so it is by what is computed of both
pub enough_by : (book : PlainBook) (c : Credited) (owed least : ℤ) → owed ≡ balance book.entries c.peer → least ≡ (peer_at book.config c.peer).least
    → int_lt (owed -ℤ pos (lowering c.kind c.credited)) least ≡ false → IsEnough book c
enough_by book c owed least owes lies not_short =
    ap₂ (λ (a b : ℤ). int_lt (a -ℤ pos (lowering c.kind c.credited)) b) (sym owes) (sym lies) ∙ not_short

-- where there is room and balance for a credit, it is the one that is booked
pub fitted : (book : PlainBook) (c : Credited) → has_room book 1 ≡ true → IsEnough book c → credit_fitted book c ≡ Ok c
fitted book c room enough =
    let owed = balance book.entries c.peer in
    let least = (peer_at book.config c.peer).least in
    ap (λ (b : Bool). refuse_if (not b) (Err credit_fault.Full) >>= (λ _. refuse_if (int_lt (owed -ℤ pos (lowering c.kind c.credited)) least) (Err (credit_fault.BelowLeast owed least)) >>= (λ _. Ok c))) room
    ∙ ap (λ (b : Bool). refuse_if b (Err (credit_fault.BelowLeast owed least)) >>= (λ _. Ok c)) enough

-- so it is at the moment of a call
pub credit_admitted : (book : PlainBook) (caller : By) (c : Credited) → IsLawful book → IsFreshCredit book.config book.entries c → has_room book 1 ≡ true
    → int_lt (balance book.entries c.peer -ℤ pos (lowering c.kind c.credited)) (peer_at book.config c.peer).least ≡ false
    → Admits book (entry_by book caller (what.Credited c))
credit_admitted book caller c lawful fresh room enough =
    credit_admits book (moment_at book.entries caller.now) caller.actor c lawful (in_time book caller (what.Credited c) lawful) fresh room (lower _ _ _ enough)
  where
    lower : (owed least : ℤ) (n : ℕ) → int_lt (owed -ℤ pos n) least ≡ false → (least +ℤ pos n) ≤ℤ owed
    lower owed least n enough = omega (arith, ints)

-- what is booked of a payment is a fresh credit that has room, and for which there is balance enough
credit_facts : (book : PlainBook) (p : Payment) (c : Credited) → IsKnown book.config p.peer → IsKey p.key → credit_checked book p ≡ Ok c
    → IsFreshCredit book.config book.entries c × (has_room book 1 ≡ true) × IsEnough book c
unfolding credit_checked
credit_facts book p c known key e =
    let a = refused_not (nat_lt most (amount_of book.config p)) (Err credit_fault.TooLarge) (credit_fresh book p (kept book.entries p.peer p.key)) c e in
    of (kept book.entries p.peer p.key) refl a.1
  where
    of : (o : Option (ℕ × Credited)) → kept book.entries p.peer p.key ≡ o → credit_fresh book p o ≡ Ok c → IsFreshCredit book.config book.entries c × (has_room book 1 ≡ true) × IsEnough book c
    of (Some x) is e = absurd cc
    of None is e =
        let made = credit_of book.config p in
        let owed = balance book.entries made.peer in
        let least = (peer_at book.config made.peer).least in
        let a = refused_not (not (has_room book 1)) (Err credit_fault.Full) _ c e in
        let b = refused_not (int_lt (owed -ℤ pos (lowering made.kind made.credited)) least) (Err (credit_fault.BelowLeast owed least)) _ c a.1 in
        let same = ok_same _ c b.1 in
        (subst (IsFreshCredit book.config book.entries) same (fresh_credit book.config book.entries p known key is), not_true _ a.0, subst (IsEnough book) same b.0)

pub credit_lawful : (book : PlainBook) (caller : By) (p : Payment) (growth : Growth) → IsLawful book → IsKnown book.config p.peer → IsKey p.key
    → IsLawful (with_entry book (credit_step book caller p growth).entry)
unfolding credit_step
credit_lawful book caller p growth lawful known key =
    of (credit_checked book p) growth (λ c e. let facts = credit_facts book p c known key e in credit_admitted book caller c lawful facts.0 facts.1 facts.2)
  where
    of : (r : Result Credited (Result Kept CreditFault)) (g : Growth) → ((c : Credited) → r ≡ Ok c → Admits book (entry_by book caller (what.Credited c)))
        → IsLawful (with_entry book (credit_booked book caller g r).entry)
    of (Err reply) g h = lawful
    of (Ok c) denied h = lawful
    of (Ok c) granted h = lawful_push book _ lawful (h c refl)

-- ---- asks

-- an ask of what is due, where none is told to be open, is one that the rules know
pub due_ask : (C : Configuration) (j : Entries) (peer amount : ℕ) → IsValid C → IsKnown C peer → still_open j peer ≡ None → due_amount (balance j peer) (peer_at C peer).levels ≡ Some amount
    → IsDueAsk C j (record { peer = peer; amount = amount })
due_ask C j peer amount valid known none due = record {
  known = known;
  few_open = few_open j peer none;
  due = due_from (peer_at C peer).levels (peer_at C peer) (balance j peer) amount (peer_valid C peer valid known).levels due;
}

-- where none is open and something is due, the step is what the book has for that
pub ask_due : (book new : PlainBook) (caller : By) (peer amount : ℕ) (growth : Growth) (result : Result Asked AskFault) → still_open book.entries peer ≡ None
    → due_amount (balance book.entries peer) (peer_at book.config peer).levels ≡ Some amount
    → Does book new result (ask_booked book caller growth (ask_fitted book (record { peer = peer; amount = amount }))) → Does book new result (ask_step book caller peer growth)
unfolding ask_step ask_checked
ask_due book new caller peer amount growth result none due does =
    let owed = balance book.entries peer in
    let Asks : Option AskFault → Option ℕ → Type 0 = λ o d. Does book new result (ask_booked book caller growth
    (refuse_some o >>= λ _. found_or d (ask_fault.NotDue owed) >>= λ n. ask_fitted book (record { peer = peer; amount = n }))) in
    subst (λ o. Asks o (due_amount owed (peer_at book.config peer).levels)) (sym none) (subst (Asks None) (sym due) does)

-- so it is at the moment of a call
pub ask_admitted : (book : PlainBook) (caller : By) (a : Ask) → IsValid book.config → IsLawful book → IsDueAsk book.config book.entries a → has_room book 2 ≡ true
    → Admits book (entry_by book caller (what.Asked a))
ask_admitted book caller a valid lawful = ask_admits book (moment_at book.entries caller.now) caller.actor a valid lawful (in_time book caller (what.Asked a) lawful)

-- what is booked of an ask is due and has room
ask_facts : (book : PlainBook) (peer : ℕ) (ask : Ask) → IsValid book.config → IsKnown book.config peer → ask_checked book peer ≡ Ok ask
    → IsDueAsk book.config book.entries ask × (has_room book 2 ≡ true)
unfolding ask_checked
ask_facts book peer ask valid known e =
    let owed = balance book.entries peer in
    let a = none_refused (still_open book.entries peer) _ ask e in
    let b = found (due_amount owed (peer_at book.config peer).levels) (ask_fault.NotDue owed) _ ask a.1 in
    let c = refused_not (not (has_room book 2)) ask_fault.Full _ ask b.2 in
    (subst (IsDueAsk book.config book.entries) (ok_same _ ask c.1) (due_ask book.config book.entries peer b.0 valid known a.0 b.1), not_true _ c.0)

pub ask_lawful : (book : PlainBook) (caller : By) (peer : ℕ) (growth : Growth) → IsValid book.config → IsKnown book.config peer → IsLawful book
    → IsLawful (with_entry book (ask_step book caller peer growth).entry)
unfolding ask_step
ask_lawful book caller peer growth valid known lawful =
    of (ask_checked book peer) growth (λ a e. let facts = ask_facts book peer a valid known e in ask_admitted book caller a valid lawful facts.0 facts.1)
  where
    of : (r : Result Ask AskFault) (g : Growth) → ((a : Ask) → r ≡ Ok a → Admits book (entry_by book caller (what.Asked a)))
        → IsLawful (with_entry book (ask_booked book caller g r).entry)
    of (Err fault) g h = lawful
    of (Ok a) denied h = lawful
    of (Ok a) granted h = lawful_push book _ lawful (h a refl)
