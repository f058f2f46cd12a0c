-- A hold that a step appends to a lawful journal is admitted by its rules.
use Rattle.std.proofs.Common.{◌≡◌, ℕ, ◌+◌, ◌≤◌, ℤ, pos, ◌+ℤ◌, ◌-ℤ◌, Bool, true, false, cond, not, length, Option, Some, None, refl, sym, ◌∙◌, subst, arith}
use Rattle.std.specs.Prelude.{Result, Ok, Err, ◌≤ℤ◌, ◌<ℤ◌, int_le, int_lt, nat_lt, nat_le, ◌==◌}
use Rattle.std.specs.Int.{int_min}
use Rattle.std.proofs.lemmas.Int.{ints, clamps}
use Rattle.std.proofs.lemmas.Bool.{eqb-false, ltb-false, leb-true, and_parts}
use Rattle.ilp_order.specs.Refusals.{◌>>=◌}
use Rattle.ilp_lookup.specs.Route.{IsRoute}
use Rattle.ilp_assets.specs.declared.quote.Quote.{Quote}
use Rattle.ilp_assets.specs.declared.quote.QuoteFault.{QuoteFault}
use Rattle.ilp_assets.specs.Quote.{most}
use Rattle.ilp_accounts.specs.Configuration.{Configuration, peer_at}
use Rattle.ilp_accounts.specs.Valid.{IsValid}
use Rattle.ilp_journal.specs.declared.entry.What.TheVariants as what
use Rattle.ilp_journal.specs.declared.entry.Hold.{Hold}
use Rattle.ilp_journal.specs.Balance.{balance}
use Rattle.ilp_journal.specs.TrialBalance.{total_in, total_out, has_asset, amount_in, amount_out}
use Rattle.ilp_packet.specs.Packet.{PlainPrepare}
use Rattle.ilp_lookup.specs.Answer.{routed_peer}
use Rattle.ilp_lookup.proofs.RoutedPeer.{IsRoute-routed_peer}
use Rattle.ilp_book.specs.declared.calls.Held.{Held}
use Rattle.ilp_book.specs.declared.fault.HoldFault.{HoldFault}
use Rattle.ilp_book.specs.declared.fault.HoldFault.TheVariants as hold_fault
use Rattle.ilp_rules.specs.Configured.{IsKnown, peer_assets, asset_of, quote_between}
use Rattle.ilp_rules.specs.Lawful.{IsLawful, IsWithinLimits, HasTerms}
use Rattle.ilp_rules.specs.Book.{PlainBook, By, Growth, granted, denied, moment_at, entry_by, has_room, with_entry, Made, Does}
use Rattle.ilp_book.specs.HoldStep.{Incoming, given_route, incoming, with_quote_fault, latest_answer, has_total, hold_terms, hold_fitted, hold_checked, hold_booked, hold_step}
use Rattle.ilp_rules.proofs.Known.{route_known, asset_is}
use Rattle.ilp_rules.proofs.LawfulGrowth.{Admits, at_most, lawful_push, limits_now}
use Rattle.ilp_rules.proofs.Admitting.{hold_admits}
use Rattle.ilp_order.proofs.RefusalLemmas.{refused_not, found, bound, ok_same, not_true}
use Rattle.ilp_rules.proofs.InTime.{in_time}

quoted : {A B : Type 0} (r : Result A QuoteFault) (next : A → Result B HoldFault) (y : B) → (with_quote_fault r >>= next) ≡ Ok y → (x : A) × (r ≡ Ok x) × (next x ≡ Ok y)
quoted (Err fault) next y e = absurd cc
quoted (Ok x) next y e = (x, refl, e)

-- what the terms of a hold are
pub record TermsFacts (C : Configuration) (m : ℤ) (sent : Incoming) (h : Hold) : Type 0 where
  pub sender : h.from ≡ sent.from
  pub small : nat_lt (peer_at C sent.from).max_packet sent.packet.amount ≡ false
  pub routed : sent.route ≡ Some h.to
  pub onward : (h.to == sent.from) ≡ false
  pub in_time : int_le (latest_answer C sent.packet) m ≡ false
  pub terms : (q : Quote) × (quote_between C sent.from h.to sent.packet.amount ≡ Ok q) × (h.fee ≡ q.fee) × (h.out ≡ q.out)
  pub amount : h.amount ≡ sent.packet.amount
  pub deadline : h.deadline ≡ int_min (latest_answer C sent.packet) (m +ℤ pos C.settings.max_hold_ms)

terms_facts : (C : Configuration) (m : ℤ) (sent : Incoming) (h : Hold) → hold_terms C m sent ≡ Ok h → TermsFacts C m sent h
unfolding hold_terms
terms_facts C m sent h e =
    let packet = sent.packet in
    let max = (peer_at C sent.from).max_packet in
    let a = refused_not (nat_lt max packet.amount) (hold_fault.AmountTooLarge max) _ h e in
    let b = found sent.route hold_fault.NoRoute _ h a.1 in
    let c = refused_not (b.0 == sent.from) hold_fault.BackToSender _ h b.2 in
    let d = refused_not (int_le packet.expires m) hold_fault.Expired _ h c.1 in
    let f = refused_not (int_le (latest_answer C packet) m) hold_fault.TooShort _ h d.1 in
    let g = quoted (quote_between C sent.from b.0 packet.amount) _ h f.1 in
    subst (TermsFacts C m sent) (ok_same _ h g.2)
    (record { sender = refl; small = a.0; routed = b.1; onward = c.0; in_time = f.0; terms = (g.0, g.1, refl, refl); amount = refl; deadline = refl })

-- what a hold that a book has for a Prepare is
record HoldFacts (book : PlainBook) (m : ℤ) (sent : Incoming) (h : Hold) : Type 0 where
  terms : TermsFacts book.config m sent h
  room : not (has_room book 2) ≡ false
  total : not (has_total book h) ≡ false
  least : int_lt (balance book.entries h.from -ℤ pos h.amount) (peer_at book.config h.from).least ≡ false

hold_facts : (book : PlainBook) (m : ℤ) (sent : Incoming) (h : Hold) → hold_checked book m sent ≡ Ok h → HoldFacts book m sent h
unfolding hold_checked hold_fitted
hold_facts book m sent h e =
    let b = bound (hold_terms book.config m sent) _ h e in
    let made : Hold = b.0 in
    let owed = balance book.entries made.from in
    let i = refused_not (not (has_room book 2)) hold_fault.Full _ h b.2 in
    let k = refused_not (not (has_total book made)) hold_fault.TotalFull _ h i.1 in
    let l = refused_not (int_lt (owed -ℤ pos made.amount) (peer_at book.config made.from).least) (hold_fault.BelowLeast owed) _ h k.1 in
    subst (HoldFacts book m sent) (ok_same made h l.1)
    (record { terms = terms_facts book.config m sent made b.1; room = i.0; total = k.0; least = l.0 })

-- what a Prepare may be given with: a known sender, and its destination's own route
abbrev IsGiven : Configuration → Incoming → Type 0
IsGiven C sent = IsKnown C sent.from × IsRoute C.routes sent.packet.destination sent.route

-- a hold of these terms is one that the configuration allows
terms_kept : (C : Configuration) (m : ℤ) (sent : Incoming) (h : Hold) → IsValid C → IsGiven C sent → TermsFacts C m sent h → HasTerms C m h
terms_kept C m sent h valid given facts =
    let sender = facts.sender in
    let small : sent.packet.amount ≤ (peer_at C sent.from).max_packet = ltb-false _ _ facts.small in
    record {
      sender = subst (IsKnown C) (sym sender) given.0;
      receiver = route_known C sent.packet.destination h.to valid (subst (IsRoute C.routes sent.packet.destination) facts.routed given.1);
      different = λ e. eqb-false h.to sent.from facts.onward (sym e ∙ sender);
      amount = rw (sender, facts.amount) small;
      quoted = rw (sender, facts.amount, facts.terms.1) (facts.terms.2, facts.terms.3);
      begins = rw facts.deadline (starts _ m C.settings.max_hold_ms facts.in_time valid.settings.max_hold_ms.0);
      ends = rw facts.deadline (stops _ m C.settings.max_hold_ms);
    }
  where
    starts : (a m : ℤ) (n : ℕ) → int_le a m ≡ false → 1 ≤ n → m <ℤ int_min a (m +ℤ pos n)
    starts a m n e some = omega (arith, ints, clamps)

    stops : (a m : ℤ) (n : ℕ) → int_min a (m +ℤ pos n) ≤ℤ (m +ℤ pos n)
    stops a m n = omega (arith, ints, clamps)

-- so the terms that a Prepare asks for are allowed
pub terms_allowed : (C : Configuration) (m : ℤ) (sent : Incoming) (h : Hold) → IsValid C → IsKnown C sent.from → IsRoute C.routes sent.packet.destination sent.route
    → hold_terms C m sent ≡ Ok h → HasTerms C m h
terms_allowed C m sent h valid known route e = terms_kept C m sent h valid (known, route) (terms_facts C m sent h e)

-- an amount of the asset of a peer keeps all totals, where it keeps that asset's
within : (C : Configuration) (x p v total : ℕ) → total ≤ most → (asset_of C p ≡ x → total + v ≤ most) → total + cond (has_asset (peer_assets C) x p) v 0 ≤ most
within C x p v total now new = by_test (has_asset (peer_assets C) x p) (asset_is C x p)
  where
    by_test : (b : Bool) → (b ≡ true → asset_of C p ≡ x) → total + cond b v 0 ≤ most
    by_test true h = new (h refl)
    by_test false h = omega (arith, now)

-- so it is at the moment of a call, where the totals of both assets have room for it
pub fitted_admitted : (book : PlainBook) (caller : By) (h : Hold) → IsLawful book → HasTerms book.config (moment_at book.entries caller.now) h
    → has_room book 2 ≡ true → has_total book h ≡ true → int_lt (balance book.entries h.from -ℤ pos h.amount) (peer_at book.config h.from).least ≡ false
    → Admits book (entry_by book caller (what.Hold h))
fitted_admitted book caller h lawful terms room total least =
    let C = book.config in
    let limits : IsWithinLimits book = limits_now book lawful in
    let since = nat_le book.base (length book.entries) in
    let in_fits = nat_le (total_in (peer_assets C) book.base book.entries (asset_of C h.from) + h.amount) most in
    let out_fits = nat_le (total_out (peer_assets C) book.base book.entries (asset_of C h.to) + h.out) most in
    let totals : (in_fits ≡ true) × (out_fits ≡ true) = and_parts in_fits out_fits total in
    hold_admits book (moment_at book.entries caller.now) caller.actor h lawful (in_time book caller (what.Hold h) lawful) terms room (lower _ _ _ least)
    (λ x. omega (
      arith,
      at_most since (amount_in (peer_assets C) x h),
      within C x h.from h.amount (total_in (peer_assets C) book.base book.entries x) (limits.totals_in x)
          (λ same. subst (λ y. total_in (peer_assets C) book.base book.entries y + h.amount ≤ most) same (leb-true _ _ totals.0)),
    ))
    (λ x. omega (
      arith,
      at_most since (amount_out (peer_assets C) x h),
      within C x h.to h.out (total_out (peer_assets C) book.base book.entries x) (limits.totals_out x)
          (λ same. subst (λ y. total_out (peer_assets C) book.base book.entries y + h.out ≤ most) same (leb-true _ _ totals.1)),
    ))
  where
    lower : (b l : ℤ) (a : ℕ) → int_lt (b -ℤ pos a) l ≡ false → (l +ℤ pos a) ≤ℤ b
    lower b l a t = omega (arith, ints)

hold_admitted : (book : PlainBook) (caller : By) (sent : Incoming) (h : Hold) → IsValid book.config → IsLawful book → IsGiven book.config sent
    → hold_checked book (moment_at book.entries caller.now) sent ≡ Ok h → Admits book (entry_by book caller (what.Hold h))
hold_admitted book caller sent h valid lawful given e =
    let m = moment_at book.entries caller.now in
    let facts : HoldFacts book m sent h = hold_facts book m sent h e in
    fitted_admitted book caller h lawful (terms_kept book.config m sent h valid given facts.terms) (not_true _ facts.room) (not_true _ facts.total) facts.least

pub hold_lawful : (book : PlainBook) (caller : By) (sent : Incoming) (growth : Growth) → IsValid book.config → IsLawful book → IsKnown book.config sent.from
    → IsRoute book.config.routes sent.packet.destination sent.route → IsLawful (with_entry book (hold_step book caller sent growth).entry)
unfolding hold_step
hold_lawful book caller sent growth valid lawful known route =
    of (hold_checked book (moment_at book.entries caller.now) sent) growth (λ h. hold_admitted book caller sent h valid lawful (known, route))
  where
    of : (r : Result Hold HoldFault) (g : Growth) → ((h : Hold) → r ≡ Ok h → Admits book (entry_by book caller (what.Hold h)))
        → IsLawful (with_entry book (hold_booked book caller g r).entry)
    of (Err fault) g h = lawful
    of (Ok hold) denied h = lawful
    of (Ok hold) granted h = lawful_push book _ lawful (h hold refl)

-- ---- a step by its parts

-- where the terms are refused a step says so
pub hold_refused : (book : PlainBook) (caller : By) (sent : Incoming) (growth : Growth) (fault : HoldFault) → hold_terms book.config (moment_at book.entries caller.now) sent ≡ Err fault
    → Does book book (Err fault) (hold_step book caller sent growth)
unfolding hold_step hold_checked
hold_refused book caller sent growth fault e =
    subst (λ r. Does book book (Err fault) (hold_booked book caller growth (r >>= λ h. hold_fitted book h))) (sym e) (record { reply = refl; book = refl })

-- where they are allowed it is what the book has for the hold
pub hold_termed : (book new : PlainBook) (caller : By) (sent : Incoming) (growth : Growth) (result : Result Held HoldFault) (h : Hold) → hold_terms book.config (moment_at book.entries caller.now) sent ≡ Ok h
    → Does book new result (hold_booked book caller growth (hold_fitted book h)) → Does book new result (hold_step book caller sent growth)
unfolding hold_step hold_checked
hold_termed book new caller sent growth result h e does =
    subst (λ r. Does book new result (hold_booked book caller growth (r >>= λ x. hold_fitted book x))) (sym e) does

-- a step by the route that was looked up is one by the route itself
pub hold_by_route : (book new : PlainBook) (caller : By) (from : ℕ) (packet : PlainPrepare) (growth : Growth) (result : Result Held HoldFault) (route : Option ℕ) → route ≡ routed_peer book.config.routes packet.destination
    → Does book new result (hold_step book caller (given_route from packet route) growth) → Does book new result (hold_step book caller (incoming book.config from packet) growth)
hold_by_route book new caller from packet growth result route e does = subst (λ o. Does book new result (hold_step book caller (given_route from packet o) growth)) e does

-- the route that a destination has is its own
pub own_route : (C : Configuration) (from : ℕ) (packet : PlainPrepare) → IsRoute C.routes packet.destination (incoming C from packet).route
own_route C from packet = IsRoute-routed_peer C.routes packet.destination

-- ---- what a step answers, and what it books

-- a step accepts a Prepare: it books a hold of these terms, and tells what of it is for the next peer
pub record Accepts (book : PlainBook) (caller : By) (sent : Incoming) (made : Made (Result Held HoldFault)) (held : Held) : Type 0 where
  pub hold : Hold
  pub terms : TermsFacts book.config (moment_at book.entries caller.now) sent hold
  pub told : held ≡ record { number = length book.entries; to = hold.to; out = hold.out; deadline = hold.deadline }
  pub entry : made.entry ≡ Some (entry_by book caller (what.Hold hold))

-- whatever a step answers with, it accepts
pub accepted : (book : PlainBook) (caller : By) (sent : Incoming) (growth : Growth) (held : Held) → (hold_step book caller sent growth).reply ≡ Ok held
    → Accepts book caller sent (hold_step book caller sent growth) held
unfolding hold_step
accepted book caller sent growth held = of (hold_checked book (moment_at book.entries caller.now) sent) growth (λ h e. (hold_facts book (moment_at book.entries caller.now) sent h e).terms)
  where
    of : (r : Result Hold HoldFault) (g : Growth) → ((h : Hold) → r ≡ Ok h → TermsFacts book.config (moment_at book.entries caller.now) sent h)
        → (hold_booked book caller g r).reply ≡ Ok held → Accepts book caller sent (hold_booked book caller g r) held
    of (Err fault) g facts e = absurd cc
    of (Ok h) denied facts e = absurd cc
    of (Ok h) granted facts e = record { hold = h; terms = facts h refl; told = sym (ok_same _ held e); entry = refl }

-- a step that refuses a Prepare books nothing
pub refusal_books_nothing : (book : PlainBook) (caller : By) (sent : Incoming) (growth : Growth) (fault : HoldFault) → (hold_step book caller sent growth).reply ≡ Err fault
    → (hold_step book caller sent growth).entry ≡ None
unfolding hold_step
refusal_books_nothing book caller sent growth fault = of (hold_checked book (moment_at book.entries caller.now) sent) growth
  where
    of : (r : Result Hold HoldFault) (g : Growth) → (hold_booked book caller g r).reply ≡ Err fault → (hold_booked book caller g r).entry ≡ None
    of (Err found) g e = refl
    of (Ok h) denied e = refl
    of (Ok h) granted e = absurd cc
