-- What a worker learns of a credit: how many entries it booked, and what amount it answers.
use Rattle.std.proofs.Common.{◌≡◌, ◌≢◌, ℕ, ◌≤◌, ℤ, Bool, true, false, cond, List, [], ◌∷◌, ◌++◌, length, Option, Some, None, refl, sym, ap, ◌∙◌, subst, arith, inl, inr}
use Rattle.std.specs.Prelude.{◌<◌, ◌^◌, ◌⊎◌, Result, Ok, Err, slice_get, nat_lt, ◌==◌, ◌&&◌, not, option_and_then, option_map, unwrap_or, IfOk}
use Rattle.std.specs.Str.{bytes_eq}
use Rattle.std.proofs.lemmas.Bool.{eqb-true, le-ltb}
use Rattle.std.proofs.lemmas.Result.{IfOk-weaker}
use Rattle.std.proofs.lemmas.Slice.Eq.{bytes_eq-Decides}
use Rattle.ilp_assets.specs.Quote.{most}
use Rattle.ilp_settlement.specs.declared.quantity.Quantity.{Quantity}
use Rattle.ilp_settlement.specs.Quantity.{credited_at}
use Rattle.ilp_accounts.specs.Configuration.{Configuration}
use Rattle.ilp_journal.specs.declared.entry.Entry.{Entry}
use Rattle.ilp_journal.specs.declared.entry.What.{What}
use Rattle.ilp_journal.specs.declared.entry.What.TheVariants as what
use Rattle.ilp_journal.specs.declared.entry.Credited.{Credited}
use Rattle.ilp_journal.specs.Places.{Each}
use Rattle.ilp_journal.specs.Journal.{Entries}
use Rattle.ilp_order.proofs.Sums.{by_push, Each-parts}
use Rattle.ilp_journal.proofs.Naming.{stands_at-push}
use Rattle.ilp_order.specs.Refusals.{◌>>=◌, refuse_if}
use Rattle.ilp_order.proofs.RefusalLemmas.{some_same}
use Rattle.ilp_book.specs.declared.calls.Kept.{Kept}
use Rattle.ilp_book.specs.declared.fault.CreditFault.{CreditFault}
use Rattle.ilp_book.specs.declared.fault.CreditFault.TheVariants as credit_fault
use Rattle.ilp_book.specs.Configured.{scale_at}
use Rattle.ilp_book.specs.Book.{PlainBook, By, by, Growth, granted, denied, Made, Does, has_room}
use Rattle.ilp_journal.specs.Credits.{same_kind, as_credit, credit_at, has_key, kept_at}
use Rattle.ilp_journal.proofs.KindLemmas.{same_kinds}
use Rattle.ilp_book.specs.Lawful.{IsLawful, KeepsRule, KeepsRuleOf, quantity_named}
use Rattle.ilp_book.specs.SettleStep.{kept, credit_kept, Payment, amount_of, credit_of, credit_fresh, credit_checked, credit_growth, credit_booked, credit_step}
use Rattle.ilp_rules.proofs.Standing.{first_found}
use Rattle.ilp_desk.specs.Desk.{PlainDesk, IsBookOf}
use Rattle.ilp_desk.proofs.Heads.{same_stands}
use Rattle.ilp_link_traits.specs.Links.{Tells}
use Rattle.ilp_workers.specs.Worker.{Seat}
use Rattle.ilp_workers.specs.Crediting.{IsCreditedAt, kept_of, as_known, known_at, TellsAmount, IsCredited}
use Rattle.ilp_desk.proofs.Raising.{raised_by, count_in, booked_more}

-- ---- credits of a lawful journal

-- a credit has its quantity at the scale of its peer's balance
abbrev IsRounded : Configuration → Credited → Type 0
IsRounded C c = c.credited ≡ credited_at (quantity_named c) (scale_at C c.peer)

-- or it is one of an earlier period
abbrev IsRoundedOr : PlainBook → Option Credited → Credited → Type 0
IsRoundedOr book known c = IsRounded book.config c ⊎ ((0 < book.period) × (known ≡ Some c))

rule_rounds : (book : PlainBook) (j : Entries) (m : ℤ) (w : What) (c : Credited) → as_credit w ≡ Some c → KeepsRule book.config book.period book.base j m w → IsRoundedOr book (as_known w) c
rule_rounds book j m (what.Hold h) c is rule = absurd cc
rule_rounds book j m (what.Fulfilled n preimage) c is rule = absurd cc
rule_rounds book j m (what.Released n cause) c is rule = absurd cc
rule_rounds book j m (what.Credited d) c is rule = inl (subst (IsRounded book.config) (some_same d c is) rule.rounded)
rule_rounds book j m (what.Asked a) c is rule = absurd cc
rule_rounds book j m (what.Confirmed n) c is rule = absurd cc
rule_rounds book j m (what.Undone n) c is rule = absurd cc
rule_rounds book j m (what.Opened peer balance) c is rule = absurd cc
rule_rounds book j m (what.Known d) c is rule = inr (rule.later, is)
rule_rounds book j m (what.Pending peer amount key) c is rule = absurd cc

-- whichever it is
all_rounded : (book : PlainBook) (j : Entries) → Each (KeepsRuleOf book) j → (n : ℕ) (c : Credited) → credit_at j n ≡ Some c → IsRoundedOr book (known_at j n) c
all_rounded book = by_push (λ j. Each (KeepsRuleOf book) j → (n : ℕ) (c : Credited) → credit_at j n ≡ Some c → IsRoundedOr book (known_at j n) c) (λ _ n c at. absurd cc) more
  where
    more : (j : Entries) (e : Entry) → (Each (KeepsRuleOf book) j → (n : ℕ) (c : Credited) → credit_at j n ≡ Some c → IsRoundedOr book (known_at j n) c)
        → Each (KeepsRuleOf book) (j ++ e ∷ []) → (n : ℕ) (c : Credited) → credit_at (j ++ e ∷ []) n ≡ Some c → IsRoundedOr book (known_at (j ++ e ∷ []) n) c
    more j e before each n c at =
        let parts : Each (KeepsRuleOf book) j × KeepsRuleOf book j e = Each-parts (KeepsRuleOf book) j e each in
        of (n == length j) (known_at (j ++ e ∷ []) n) (stands_at-push as_known j e n) (sym (stands_at-push as_credit j e n) ∙ at) parts
      where
        of : (last : Bool) (known : Option Credited) → known ≡ cond last (as_known e.what) (known_at j n) → cond last (as_credit e.what) (credit_at j n) ≡ Some c
            → Each (KeepsRuleOf book) j × KeepsRuleOf book j e → IsRoundedOr book known c
        of true known is at parts = subst (λ o. IsRoundedOr book o c) (sym is) (rule_rounds book j e.moment e.what c at parts.1)
        of false known is at parts = subst (λ o. IsRoundedOr book o c) (sym is) (before parts.0 n c at)

-- the credit that is kept under a peer's key is the peer's
pub kept_is_its : (j : Entries) (peer : ℕ) (key : List ℕ) (n : ℕ) (c : Credited) → kept j peer key ≡ Some (n, c) → (credit_at j n ≡ Some c) × (c.peer ≡ peer) × (c.key ≡ key)
kept_is_its j peer key n c e = of (kept_at j peer key) refl e
  where
    both : (a b : Bool) → (a && b) ≡ true → (a ≡ true) × (b ≡ true)
    both true b e = (refl, e)
    both false b e = absurd cc

    its : (w : What) → as_credit w ≡ Some c → has_key peer key w ≡ true → (c.peer ≡ peer) × (c.key ≡ key)
    its w is has =
        let same = both (c.peer == peer) (bytes_eq c.key key) (sym (ap (λ o. unwrap_or (option_map (λ (d : Credited). (d.peer == peer) && bytes_eq d.key key) o) false) is) ∙ has) in
        (eqb-true c.peer peer same.0, (bytes_eq-Decides c.key key).0 same.1)

    numbered : (k : ℕ) (o : Option Credited) → option_map {U = ℕ × Credited} (λ (d : Credited). (k, d)) o ≡ Some (n, c) → (k ≡ n) × (o ≡ Some c)
    numbered k None e = absurd cc
    numbered k (Some d) e = let same = some_same (k, d) (n, c) e in (ap (λ x. x.0) same, ap (λ x. Some x.1) same)

    of : (o : Option ℕ) → kept_at j peer key ≡ o → option_and_then {U = ℕ × Credited} (λ k. option_map (λ (d : Credited). (k, d)) (credit_at j k)) o ≡ Some (n, c) → (credit_at j n ≡ Some c) × (c.peer ≡ peer) × (c.key ≡ key)
    of None is e = absurd cc
    of (Some k) is e =
        let named = numbered k (credit_at j k) e in
        let f = first_found (λ _ (x : Entry). has_key peer key x.what) 0 k j is in
        let place : f.0 ≡ k = omega (arith, f.2) in
        let stands : slice_get j k ≡ Some f.1 = subst (λ i. slice_get j i ≡ Some f.1) place f.3 in
        let credit : as_credit f.1.what ≡ Some c = sym (ap (option_and_then (λ (x : Entry). as_credit x.what)) stands) ∙ named.1 in
        let same = its f.1.what credit f.4 in
        (subst (λ i. credit_at j i ≡ Some c) named.0 named.1, same.0, same.1)

-- ---- steps

-- A step of a payment makes as many entries as are kept of its reply, answers what the payment comes to, and refuses none as too
-- large that isn't.
record IsCreditStep (book : PlainBook) (p : Payment) (made : Made (Result Kept CreditFault)) : Type 0 where
  pub counted : count_in made.entry ≡ length (kept_of p made.reply)
  pub amount : IfOk made.reply (TellsAmount book.config book.period book.entries p)
  pub allowed : made.reply ≢ Err credit_fault.TooLarge

-- a credit that is kept is answered as it was
by_kept : (book : PlainBook) (caller : By) (p : Payment) (growth : Growth) (n : ℕ) (c : Credited) → IsLawful book → kept book.entries p.peer p.key ≡ Some (n, c)
    → IsCreditStep book p (credit_booked book caller growth (Err (credit_kept p.quantity p.kind (n, c))))
by_kept book caller p growth n c lawful is = of (c.named == p.quantity.amount) (c.scale == p.quantity.scale) (same_kind c.kind p.kind) refl refl refl
  where
    its : (credit_at book.entries n ≡ Some c) × (c.peer ≡ p.peer) × (c.key ≡ p.key)
    its = kept_is_its book.entries p.peer p.key n c is

    rounded : IsRounded book.config c → c.named ≡ p.quantity.amount → c.scale ≡ p.quantity.scale → c.credited ≡ amount_of book.config p
    rounded is named scale =
        is
        ∙ (ap (λ a. credited_at (record { amount = a; scale = c.scale }) (scale_at book.config c.peer)) named
        ∙ (ap (λ s. credited_at (record { amount = p.quantity.amount; scale = s }) (scale_at book.config c.peer)) scale
        ∙ ap (λ x. credited_at p.quantity (scale_at book.config x)) its.1))

    kept_now : Kept
    kept_now = record { number = n; amount = c.credited; fresh = false }

    amount : c.named ≡ p.quantity.amount → c.scale ≡ p.quantity.scale → c.kind ≡ p.kind → IsRoundedOr book (known_at book.entries n) c → TellsAmount book.config book.period book.entries p kept_now
    amount named scale kind (inl is) = inl (rounded is named scale)
    amount named scale kind (inr is) = inr (record {
      later = is.0;
      credit = c;
      known = is.1;
      peer = its.1;
      key = its.2;
      named = named;
      scale = scale;
      kind = kind;
      amount = refl;
    })

    of : (a b k : Bool) → (c.named == p.quantity.amount) ≡ a → (c.scale == p.quantity.scale) ≡ b → same_kind c.kind p.kind ≡ k
        → IsCreditStep book p (credit_booked book caller growth (Err (cond ((a && b) && k) (Ok (record { number = n; amount = c.credited; fresh = false })) (Err (credit_fault.KeyTaken n)))))
    of true true true named scale kind = record { counted = refl; amount = amount (eqb-true _ _ named) (eqb-true _ _ scale) (same_kinds c.kind p.kind kind) (all_rounded book book.entries lawful.rules n c its.0); allowed = λ e. cc }
    of true true false named scale kind = record { counted = refl; amount = tt; allowed = λ e. cc }
    of true false k named scale kind = record { counted = refl; amount = tt; allowed = λ e. cc }
    of false b k named scale kind = record { counted = refl; amount = tt; allowed = λ e. cc }

-- a new one is booked, if there is room and memory for it
by_fitted : (book : PlainBook) (caller : By) (p : Payment) (growth : Growth) (owed least : ℤ) (room short : Bool)
    → IsCreditStep book p (credit_booked book caller growth (refuse_if (not room) (Err credit_fault.Full) >>= λ _. refuse_if short (Err (credit_fault.BelowLeast owed least)) >>= λ _. Ok (credit_of book.config p)))
by_fitted book caller p growth owed least false short = record { counted = refl; amount = tt; allowed = λ e. cc }
by_fitted book caller p growth owed least true true = record { counted = refl; amount = tt; allowed = λ e. cc }
by_fitted book caller p denied owed least true false = record { counted = refl; amount = tt; allowed = λ e. cc }
by_fitted book caller p granted owed least true false = record { counted = refl; amount = inl refl; allowed = λ e. cc }

credit_step_is : (book : PlainBook) (caller : By) (p : Payment) (growth : Growth) → IsLawful book → amount_of book.config p ≤ most → IsCreditStep book p (credit_step book caller p growth)
unfolding credit_step credit_checked
credit_step_is book caller p growth lawful fits =
    let Step : Bool → Option (ℕ × Credited) → Type 0 = λ large o.
    IsCreditStep book p (credit_booked book caller growth (refuse_if large (Err credit_fault.TooLarge) >>= λ _. credit_fresh book p o)) in
    let small : nat_lt most (amount_of book.config p) ≡ false = le-ltb most (amount_of book.config p) fits in
    subst (λ b. Step b (kept book.entries p.peer p.key)) (sym small) (of (kept book.entries p.peer p.key) refl)
  where
    of : (o : Option (ℕ × Credited)) → kept book.entries p.peer p.key ≡ o → IsCreditStep book p (credit_booked book caller growth (credit_fresh book p o))
    of None is = by_fitted book caller p growth _ _ (has_room book 1) _
    of (Some x) is = by_kept book caller p growth x.0 x.1 lawful is

-- ---- sessions

-- nothing of an earlier period is credited again since the desk was opened
no_later_known : (C : Configuration) (period base : ℕ) (before : Entries) (m : ℤ) (w : What) → base ≤ length before → KeepsRule C period base before m w → as_known w ≡ None
no_later_known C period base before m (what.Hold h) later rule = refl
no_later_known C period base before m (what.Fulfilled hold preimage) later rule = refl
no_later_known C period base before m (what.Released hold cause) later rule = refl
no_later_known C period base before m (what.Credited c) later rule = refl
no_later_known C period base before m (what.Asked a) later rule = refl
no_later_known C period base before m (what.Confirmed ask) later rule = refl
no_later_known C period base before m (what.Undone ask) later rule = refl
no_later_known C period base before m (what.Opened peer balance) later rule = refl
no_later_known C period base before m (what.Known c) later rule = absurd (omega (arith, rule.begun, later))
no_later_known C period base before m (what.Pending peer amount key) later rule = refl

-- so what a book of the desk tells, the desk tells
tells_of_desk : (desk : PlainDesk) (book : PlainBook) (p : Payment) (told : Kept) → IsBookOf desk book → TellsAmount book.config book.period book.entries p told
    → TellsAmount desk.config desk.period desk.opening p told
tells_of_desk desk book p told of_desk (inl same) = inl (same ∙ ap (λ C. amount_of C p) of_desk.config)
tells_of_desk desk book p told of_desk (inr was) = inr (record {
  later = subst (λ period. 0 < period) of_desk.period was.later;
  credit = was.credit;
  known = sym (same_stands as_known no_later_known desk book told.number of_desk) ∙ was.known;
  peer = was.peer;
  key = was.key;
  named = was.named;
  scale = was.scale;
  kind = was.kind;
  amount = was.amount;
})

-- A session with a payment that is not too large, at a moment that the clock gave, and what is kept of it.
pub credited_by : (desk : PlainDesk) (p : Payment) (before after : Seat) (now : ℤ) (reply : Result Kept CreditFault)
    → amount_of desk.config p ≤ most → Tells before.moments now after.moments → IsCreditedAt desk p now before.seen after.seen before.share after.share reply
    → after.records ≡ before.records ++ kept_of p reply → after.kept ≡ before.kept → IsCredited desk p before after reply
credited_by desk p before after now reply fits asked at is unkept =
    let old = at.0 in
    let made = credit_step old (by before.share.actor now) p (credit_growth reply) in
    let does : Does old at.1 reply made = at.3 in
    let small : amount_of old.config p ≤ most = subst (λ C. amount_of C p ≤ most) (sym at.2.found.config) fits in
    let step = credit_step_is old (by before.share.actor now) p (credit_growth reply) at.2.found.lawful small in
    record {
      fits = fits;
      now = now;
      asked = asked;
      booked = at;
      raised = raised_by desk old at.1 before.share after.share (length (kept_of p reply)) at.2
          (booked_more old at.1 reply made (length (kept_of p reply)) does (step.counted ∙ ap (λ r. length (kept_of p r)) (sym does.reply)));
      records = is;
      amount = subst (λ r. IfOk r (TellsAmount desk.config desk.period desk.opening p)) (sym does.reply)
          (IfOk-weaker made.reply (TellsAmount old.config old.period old.entries p) (TellsAmount desk.config desk.period desk.opening p) (λ told. tells_of_desk desk old p told at.2.found) step.amount);
      allowed = λ e. step.allowed (sym does.reply ∙ e);
      unkept = unkept;
    }

-- a payment whose amount is told at the scale of its peer's balance is not too large
pub small : (config desk : Configuration) (q : Quantity) (peer scale : ℕ) → config ≡ desk → scale ≡ scale_at config peer → credited_at q scale < 2 ^ 64 → credited_at q (scale_at desk peer) ≤ most
small config desk q peer scale same is fits =
    subst (λ s. credited_at q s ≤ most) (is ∙ ap (λ C. scale_at C peer) same) (omega (arith, fits))
