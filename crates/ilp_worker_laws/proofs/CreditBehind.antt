-- A credit is told behind its entry.
use Rattle.std.proofs.Common.{◌≡◌, ℕ, ℤ, Bool, true, false, List, [], ◌∷◌, ◌++◌, length, Option, Some, None, inl, inr, refl, sym, ap, subst, arith}
use Rattle.std.specs.Prelude.{Result, Ok, Err, ◌==◌, ◌&&◌, not, ◌<◌, ◌≤◌, nat_lt, slice_get, option_and_then, if◌then◌else◌}
use Rattle.std.proofs.lemmas.Option.{slice_get_within}
use Rattle.ilp_assets.specs.Quote.{most}
use Rattle.ilp_journal.specs.declared.entry.Entry.{Entry}
use Rattle.ilp_journal.specs.declared.entry.What.TheVariants as what
use Rattle.ilp_journal.specs.declared.entry.Credited.{Credited}
use Rattle.ilp_journal.specs.Journal.{Entries}
use Rattle.ilp_order.specs.Refusals.{◌>>=◌, refuse_if}
use Rattle.ilp_book.specs.declared.calls.Kept.{Kept}
use Rattle.ilp_book.specs.declared.fault.CreditFault.{CreditFault}
use Rattle.ilp_book.specs.declared.fault.CreditFault.TheVariants as credit_fault
use Rattle.ilp_book.specs.Book.{PlainBook, By, by, Growth, granted, denied, Does, has_room, entry_by, appended, with_entry}
use Rattle.ilp_journal.specs.Credits.{same_kind, as_credit, credit_at}
use Rattle.ilp_book.specs.SettleStep.{kept, credit_kept, Payment, amount_of, credit_of, credit_fresh, credit_checked, credit_growth, credit_booked, credit_step}
use Rattle.ilp_desk.specs.Desk.{PlainDesk}
use Rattle.ilp_keeping.specs.declared.keeper.NotKept.{NotKept}
use Rattle.ilp_keeping.specs.Keeping.{ToKeeper}
use Rattle.ilp_keeping.specs.Keeping as keeper
use Rattle.ilp_link_traits.specs.Links.{Tells}
use Rattle.ilp_workers.specs.declared.crediting.NotCredited.{NotCredited}
use Rattle.ilp_workers.specs.Worker.{PlainWorker, Seat, seat_of, IsKept}
use Rattle.ilp_workers.specs.Crediting.{PlainBookedCredit, BooksCredit, IsCredited, CreditsAt, answer_kept, IsAnswered, Credits}
use Rattle.ilp_worker_laws.specs.Outcome.{IsCreditBehind, IsCreditWithin}
use Rattle.ilp_workers.proofs.CreditSessions.{kept_is_its}
use Rattle.ilp_worker_laws.proofs.Behind.{get_last, told_last}

-- the journal has the entry of a credit that is answered
record IsEntered (j : Entries) (p : Payment) (credit : Kept) : Type 0 where
  entry : Credited
  stands : credit_at j credit.number ≡ Some entry
  peer : entry.peer ≡ p.peer
  key : entry.key ≡ p.key
  amount : entry.credited ≡ credit.amount

-- one that was kept before
by_kept : (j : Entries) (p : Payment) (n : ℕ) (c : Credited) (credit : Kept) → kept j p.peer p.key ≡ Some (n, c) → ◌≡◌ {A = Result Kept CreditFault} (Ok credit) (credit_kept p.quantity p.kind (n, c)) → IsEntered j p credit
by_kept j p n c credit is replied = of ((c.named == p.quantity.amount) && (c.scale == p.quantity.scale) && same_kind c.kind p.kind) replied
  where
    of : (b : Bool) → ◌≡◌ {A = Result Kept CreditFault} (Ok credit) (if b then Ok (record { number = n; amount = c.credited; fresh = false }) else Err (credit_fault.KeyTaken n)) → IsEntered j p credit
    of true e =
        let its = kept_is_its j p.peer p.key n c is in
        let same : record { number = n; amount = c.credited; fresh = false } ≡ credit = cc in
        subst (IsEntered j p) same (record { entry = c; stands = its.0; peer = its.1; key = its.2; amount = refl })
    of false e = absurd cc

-- a new one, if there is room and memory for it
by_fitted : (book : PlainBook) (caller : By) (p : Payment) (growth : Growth) (owed least : ℤ) (room short : Bool) (credit : Kept)
    → ◌≡◌ {A = Result Kept CreditFault} (Ok credit) (credit_booked book caller growth (refuse_if (not room) (Err credit_fault.Full) >>= λ _. refuse_if short (Err (credit_fault.BelowLeast owed least)) >>= λ _. Ok (credit_of book.config p))).reply
    → IsEntered (appended book.entries (credit_booked book caller growth (refuse_if (not room) (Err credit_fault.Full) >>= λ _. refuse_if short (Err (credit_fault.BelowLeast owed least)) >>= λ _. Ok (credit_of book.config p))).entry) p credit
by_fitted book caller p growth owed least false short credit e = absurd cc
by_fitted book caller p growth owed least true true credit e = absurd cc
by_fitted book caller p denied owed least true false credit e = absurd cc
by_fitted book caller p granted owed least true false credit e =
    let c = credit_of book.config p in
    let entry = entry_by book caller (what.Credited c) in
    let same : record { number = length book.entries; amount = c.credited; fresh = true } ≡ credit = cc in
    subst (IsEntered (book.entries ++ entry ∷ []) p) same (record {
      entry = c;
      stands = ap (λ (o : Option Entry). option_and_then (λ (x : Entry). as_credit x.what) o) (get_last book.entries entry (length book.entries) refl);
      peer = refl;
      key = refl;
      amount = refl;
    })

by_checked : (book : PlainBook) (caller : By) (p : Payment) (growth : Growth) (large : Bool) (o : Option (ℕ × Credited)) (credit : Kept) → kept book.entries p.peer p.key ≡ o
    → ◌≡◌ {A = Result Kept CreditFault} (Ok credit) (credit_booked book caller growth (refuse_if large (Err credit_fault.TooLarge) >>= λ _. credit_fresh book p o)).reply
    → IsEntered (appended book.entries (credit_booked book caller growth (refuse_if large (Err credit_fault.TooLarge) >>= λ _. credit_fresh book p o)).entry) p credit
by_checked book caller p growth true o credit is e = absurd cc
by_checked book caller p growth false None credit is e = by_fitted book caller p growth _ _ (has_room book 1) _ credit e
by_checked book caller p growth false (Some x) credit is e = by_kept book.entries p x.0 x.1 credit is e

of_step : (book : PlainBook) (caller : By) (p : Payment) (growth : Growth) (credit : Kept) → ◌≡◌ {A = Result Kept CreditFault} (Ok credit) (credit_step book caller p growth).reply
    → IsEntered (with_entry book (credit_step book caller p growth).entry).entries p credit
unfolding credit_step credit_checked
of_step book caller p growth credit e = by_checked book caller p growth (nat_lt most (amount_of book.config p)) (kept book.entries p.peer p.key) credit refl e

session_credits : (desk : PlainDesk) (p : Payment) (before after : Seat) (credit : Kept) → IsCredited desk p before after (Ok credit) → IsEntered after.seen p credit
session_credits desk p before after credit done =
    let at = done.booked in
    let caller = by before.share.actor done.now in
    let does : Does at.0 at.1 (Ok credit) (credit_step at.0 caller p (credit_growth (Ok credit))) = at.3 in
    subst (λ (j : Entries). IsEntered j p credit) (sym at.5)
    (subst (λ (b : PlainBook). IsEntered b.entries p credit) (sym does.book) (of_step at.0 caller p (credit_growth (Ok credit)) credit does.reply))

-- ---- what was told

not_refused : {credit : Kept} {fault : CreditFault} → ◌≡◌ {A = Result Kept CreditFault} (Ok credit) (Err fault) → ⊥
not_refused e = cc

by_session : (desk : PlainDesk) (p : Payment) (before after : Seat) (credit : Kept) → CreditsAt desk p before after (Ok credit) → IsEntered after.seen p credit
by_session desk p before after credit at =
    elim at [
      | inl un ↦ absurd (elim un.why [ inl large ↦ not_refused large.0 | inr memory ↦ not_refused memory.0 ])
      | inr done ↦ session_credits desk p before after credit done
    ]

by_answer : (p : Payment) (found credit : Kept) (said : Result (Unit {0}) NotKept) (left after : Seat) (told : List ToKeeper) → IsEntered left.seen p found → IsKept said left after
    → ◌≡◌ {A = Result Kept NotCredited} (Ok credit) (answer_kept found said) → after.kept ≡ Some told → IsCreditBehind told p credit
by_answer p found credit (Err fault) left after told entered is_kept same tells = absurd cc
by_answer p found credit (Ok x) left after told entered is_kept same tells =
    let mine : found ≡ credit = cc in
    let its = subst (IsEntered left.seen p) mine entered in
    let handed = keeper.kept (keeper.keeping left.seen (Ok x)) in
    let last = told_last left.kept told handed (subst (λ t. Tells left.kept handed t) tells is_kept.handed.tells) in
    record {
      earlier = last.0;
      journal = left.seen;
      last = last.1;
      entry = its.entry;
      stands = its.stands;
      peer = its.peer;
      key = its.key;
      amount = its.amount;
    }

pub credit_behind : (desk : PlainDesk) (p : Payment) (before after : PlainWorker) (credit : Kept) (told : List ToKeeper) → Credits desk p before after (Ok credit) → after.kept ≡ Some told → IsCreditBehind told p credit
credit_behind desk p before after credit told credits tells = of credits.paid.reply credits.paid.answered credits.paid.told
  where
    of : (reply : Result Kept CreditFault) → IsAnswered reply credits.paid.left (seat_of after) (Ok credit) → CreditsAt desk p (seat_of before) credits.paid.left reply → IsCreditBehind told p credit
    of (Err fault) answered at = let two = answered.0 in absurd cc
    of (Ok found) answered at =
        by_answer p found credit answered.0 credits.paid.left (seat_of after) told (by_session desk p (seat_of before) credits.paid.left found at) answered.1 answered.2 tells

-- ---- what waits to be told

-- what stands at a place of a journal lies within it
credit_within : (j : Entries) (n : ℕ) (c : Credited) → credit_at j n ≡ Some c → n < length j
credit_within j n c stands = of (slice_get j n) refl stands
  where
    of : (o : Option Entry) → slice_get j n ≡ o → option_and_then (λ (e : Entry). as_credit e.what) o ≡ Some c → n < length j
    of (Some e) at is = slice_get_within j n e at
    of None at is = absurd cc

pub waits_within : (desk : PlainDesk) (p : Payment) (before after : PlainWorker) (b : PlainBookedCredit) → BooksCredit desk p before after (Ok b) → IsCreditWithin after.seen p b
waits_within desk p before after b booked =
    let its = by_session desk p (seat_of before) (seat_of after) b.credit booked.told in
    record {
      entry = its.entry;
      within = subst (λ n. b.credit.number < n) (sym booked.behind) (credit_within after.seen b.credit.number its.entry its.stands);
      all = subst (λ n. n ≤ length after.seen) (sym booked.behind) (omega arith);
      stands = its.stands;
      peer = its.peer;
      key = its.key;
      amount = its.amount;
    }
