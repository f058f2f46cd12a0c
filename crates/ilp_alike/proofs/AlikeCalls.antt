-- Two books that are alike answer each call alike, and stay alike.
use Rattle.std.proofs.Common.{◌≡◌, ◌⊎◌, ℕ, ◌+◌, ◌-◌, ◌≤◌, ℤ, pos, ◌-ℤ◌, Bool, true, false, cond, not, ◌&&◌, List, [], ◌∷◌, ◌++◌, length, Option, Some, None, inl, inr, refl, sym, ap, ap₂, ◌∙◌, subst, arith, IsSome, is_some, option_map, option_and_then, ◌==◌}
use Rattle.std.specs.Prelude.{Result, Ok, Err, ◌≤ℤ◌, ◌<ℤ◌, int_le, int_lt, nat_lt, nat_le}
use Rattle.std.specs.Int.{int_min, int_max}
use Rattle.std.proofs.lemmas.Bool.{cases_lt}
use Rattle.std.proofs.lemmas.Int.{ints, clamps}
use Rattle.ilp_order.specs.Refusals.{◌>>=◌, refuse_if, refuse_some, found_or}
use Rattle.ilp_order.proofs.RefusalLemmas.{some_same}
use Rattle.ilp_terms.specs.Expiry.{last_of_all}
use Rattle.ilp_assets.specs.Quote.{most}
use Rattle.ilp_settlement.specs.declared.quantity.Quantity.{Quantity}
use Rattle.ilp_settlement.specs.declared.verdict.EngineVerdict.{EngineVerdict}
use Rattle.ilp_settlement.specs.declared.verdict.EngineVerdict.TheVariants as engine
use Rattle.ilp_accounts.specs.Configuration.{Configuration, peer_at}
use Rattle.ilp_accounts.specs.Valid.{IsValid}
use Rattle.ilp_journal.specs.declared.entry.What.{What}
use Rattle.ilp_journal.specs.declared.entry.What.TheVariants as what
use Rattle.ilp_journal.specs.declared.entry.Cause.{Cause}
use Rattle.ilp_journal.specs.declared.entry.Cause.TheVariants as cause
use Rattle.ilp_journal.specs.declared.entry.Hold.{Hold}
use Rattle.ilp_journal.specs.declared.entry.Ask.{Ask}
use Rattle.ilp_journal.specs.declared.entry.Credited.{Credited}
use Rattle.ilp_journal.specs.Journal.{Entries, open_hold_at, open_ask_at, open_asks, next_open_ask}
use Rattle.ilp_journal.specs.Balance.{balance}
use Rattle.ilp_journal.specs.Credits.{lowering, same_kind, credit_at, kept_at}
use Rattle.ilp_journal.specs.declared.credit_kind.CreditKind.{CreditKind}
use Rattle.ilp_rules.specs.Book.{PlainBook, By, Growth, granted, denied, Made, replied_as, appended, entry_by, moment_at, has_room}
use Rattle.ilp_rules.specs.Configured.{IsKnown, peer_assets, asset_of}
use Rattle.ilp_rules.specs.Open.{earliest, IsEarliest}
use Rattle.ilp_rules.specs.Lawful.{most_open_asks, due_amount}
use Rattle.ilp_book.specs.declared.calls.Kept.{Kept}
use Rattle.ilp_book.specs.declared.calls.PeerReply.{PeerReply}
use Rattle.ilp_book.specs.declared.fault.HoldFault.{HoldFault}
use Rattle.ilp_book.specs.declared.fault.HoldFault.TheVariants as hold_fault
use Rattle.ilp_book.specs.declared.fault.CreditFault.{CreditFault}
use Rattle.ilp_book.specs.declared.fault.CreditFault.TheVariants as credit_fault
use Rattle.ilp_book.specs.declared.fault.AskFault.{AskFault}
use Rattle.ilp_book.specs.declared.fault.AskFault.TheVariants as ask_fault
use Rattle.ilp_book.specs.HoldStep.{Incoming, has_total, hold_terms, hold_fitted, hold_checked, hold_booked, hold_step}
use Rattle.ilp_book.specs.AnswerStep.{judged_reply, ending, outcome_of, answer_booked, answer_step, due, expire_booked, expire_step}
use Rattle.ilp_book.specs.SettleStep.{Payment, kept, credit_kept, amount_of, credit_of, credit_fresh, credit_checked, credit_booked, credit_step, still_open, ask_fitted, ask_checked, ask_booked, ask_step, closing_of_verdict, close_booked, close_step}
use Rattle.ilp_book.specs.Run.{hold, CallReply, of_hold, of_answer, of_expire, of_credit, of_ask, of_close, IsAllowed}
use Rattle.ilp_book.proofs.HoldSteps.{terms_allowed}
use Rattle.ilp_book.proofs.Earliest.{earliest_is_first, earliest_is}
use Rattle.ilp_book.proofs.AnswerSteps.{due_facts}
use Rattle.ilp_alike.specs.Alike.{reply_with, is_full}
use Rattle.ilp_alike.proofs.Numbered.{numbered, IsNumbering}
use Rattle.ilp_alike.proofs.AlikeJournals.{AreAlike, Joins, alike_on, last_number}
use Rattle.ilp_alike.proofs.FirstOpen.{next_alike}

module _ (C : Configuration) (valid : IsValid C) (first later : ℕ) (number : ℕ → ℕ) (IsNamed : ℕ → Type 0) (start : ℤ) (numbering : IsNumbering first later number IsNamed) (in_years : start ≤ℤ last_of_all) where
  abbrev pub Alike : Entries → Entries → Type 0
  Alike before after = AreAlike (length C.peers) (peer_assets C) first later number IsNamed start before after

  module _ (earlier_period period : ℕ) (before after : Entries) (alike : Alike before after) (caller : By) (come : start ≤ℤ caller.now) where
    -- both books
    abbrev old : PlainBook
    old = record { config = C; period = earlier_period; base = first; entries = before }

    abbrev new : PlainBook
    new = record { config = C; period = period; base = later; entries = after }

    -- both answer the same, by the numbers of both, and are alike with what they book
    pub record Twins (x y : Made CallReply) : Type 0 where
      pub replies : reply_with number x.reply ≡ y.reply
      pub stay : Alike (appended before y.entry) (appended after x.entry)

    same_moment : moment_at after caller.now ≡ moment_at before caller.now
    same_moment = alike.moments (int_max (pos 0) (int_min caller.now last_of_all)) (low start caller.now last_of_all come in_years)
      where
        low : (s t l : ℤ) → s ≤ℤ t → s ≤ℤ l → s ≤ℤ int_max (pos 0) (int_min t l)
        low s t l one two = omega (arith, ints, clamps)

    -- one entry more
    with_both : (w v : What) → v ≡ numbered number w → Joins (length C.peers) (peer_assets C) first later number IsNamed start after w
        → Alike (before ++ entry_by old caller v ∷ []) (after ++ entry_by new caller w ∷ [])
    with_both w v same joins =
        alike_on (length C.peers) (peer_assets C) first later number IsNamed start numbering before after alike (entry_by new caller w) (entry_by old caller v) same_moment same joins

    -- ---- ends of holds

    ending_is : (n : ℕ) (v : Result (List ℕ) Cause) → ending (number n) v ≡ numbered number (ending n v)
    ending_is n (Ok preimage) = refl
    ending_is n (Err c) = refl

    ending_joins : (n : ℕ) (v : Result (List ℕ) Cause) → later ≤ n → IsSome (open_hold_at after n) → Joins (length C.peers) (peer_assets C) first later number IsNamed start after (ending n v)
    ending_joins n (Ok preimage) high some = record { ends = (high, some); closes = tt }
    ending_joins n (Err c) high some = record { ends = (high, some); closes = tt }

    outcome_is : (v : Result (List ℕ) Cause) (k : ℕ) → reply_with number (of_answer (Ok (outcome_of k v))) ≡ of_answer (Ok (outcome_of (number k) v))
    outcome_is (Ok preimage) k = refl
    outcome_is (Err c) k = refl

    same_end : number (length after) ≡ length before
    same_end = last_number (length C.peers) (peer_assets C) first later number IsNamed start numbering before after alike

    pub ends_alike : (n : ℕ) (reply : PeerReply) → later ≤ n → Twins (replied_as of_answer (answer_step new caller n reply)) (replied_as of_answer (answer_step old caller (number n) reply))
    unfolding answer_step
    ends_alike n reply high = of (open_hold_at after n) (open_hold_at before (number n)) refl (alike.holds n high)
      where
        of : (o p : Option Hold) → open_hold_at after n ≡ o → o ≡ p → Twins (replied_as of_answer (answer_booked new caller n reply o)) (replied_as of_answer (answer_booked old caller (number n) reply p))
        of None None is same = record { replies = ap (λ c. of_answer (Err (record { closer = c }))) (alike.answers n high); stay = alike }
        of None (Some g) is same = absurd cc
        of (Some h) None is same = absurd cc
        of (Some h) (Some g) is same =
            let one : judged_reply h (moment_at after caller.now) reply ≡ judged_reply g (moment_at before caller.now) reply = ap₂ (λ x m. judged_reply x m reply) (some_same h g same) same_moment in
            record {
              replies = outcome_is (judged_reply h (moment_at after caller.now) reply) (length after) ∙ ap₂ (λ v k. of_answer (Ok (outcome_of k v))) one same_end;
              stay = with_both (ending n (judged_reply h (moment_at after caller.now) reply)) (ending (number n) (judged_reply g (moment_at before caller.now) reply))
                  (ap (ending (number n)) (sym one) ∙ ending_is n (judged_reply h (moment_at after caller.now) reply)) (ending_joins n (judged_reply h (moment_at after caller.now) reply) high (ap is_some is));
            }

    -- ---- sweeps

    held_since : (k : ℕ) (h : Hold) → open_hold_at after k ≡ Some h → later ≤ k
    held_since k h is = elim (cases_lt k later) [ inl low ↦ absurd (none (alike.no_holds_after k low)) | inr high ↦ high ]
      where
        none : open_hold_at after k ≡ None → ⊥
        none e = cc

    held_before : (m : ℕ) (h : Hold) → open_hold_at before m ≡ Some h → (k : ℕ) × (later ≤ k) × (number k ≡ m)
    held_before m h is = elim (cases_lt m first) [
      | inl low ↦ absurd (none (alike.no_holds_before m low))
      | inr high ↦
          let k = later + (m - first) in
          let from : later ≤ k = omega arith in
          (k, from, omega (arith, numbering.shifted k from, high))
    ]
      where
        none : open_hold_at before m ≡ None → ⊥
        none e = cc

    earliest_before : (k : ℕ) (h : Hold) → IsEarliest after k h → IsEarliest before (number k) h
    earliest_before k h is =
        let high = held_since k h is.is_open in
        record {
          is_open = sym (alike.holds k high) ∙ is.is_open;
          first = λ m g there.
              let found = held_before m g there in
              order (h.deadline <ℤ g.deadline) (h.deadline ≡ g.deadline) k found.0 m high found.1 found.2 (is.first found.0 g (alike.holds found.0 found.1 ∙ ap (open_hold_at before) found.2 ∙ there));
        }
      where
        order : (P Q : Type 0) (k i m : ℕ) → later ≤ k → later ≤ i → number i ≡ m → P ⊎ (Q × (k ≤ i)) → P ⊎ (Q × (number k ≤ m))
        order P Q k i m high also at (inl less) = inl less
        order P Q k i m high also at (inr equal) = inr (equal.0, omega (arith, numbering.shifted k high, numbering.shifted i also, at, equal.1))

    earliest_after : (k : ℕ) (g : Hold) → later ≤ k → IsEarliest before (number k) g → IsEarliest after k g
    earliest_after k g high is = record {
      is_open = alike.holds k high ∙ is.is_open;
      first = λ i h there.
          let also = held_since i h there in
          order (g.deadline <ℤ h.deadline) (g.deadline ≡ h.deadline) i also (is.first (number i) h (sym (alike.holds i also) ∙ there));
    }
      where
        order : (P Q : Type 0) (i : ℕ) → later ≤ i → P ⊎ (Q × (number k ≤ number i)) → P ⊎ (Q × (k ≤ i))
        order P Q i also (inl less) = inl less
        order P Q i also (inr equal) = inr (equal.0, omega (arith, numbering.shifted k high, numbering.shifted i also, equal.1))

    abbrev due_by : ℤ → Option (ℕ × Hold) → Option ℕ
    due_by m o = option_and_then (λ (x : ℕ × Hold). cond (int_le x.1.deadline m) (Some x.0) None) o

    due_alike : due before (moment_at before caller.now) ≡ option_map number (due after (moment_at after caller.now))
    due_alike = of (earliest after) (earliest before) refl refl
      where
        under : (b : Bool) (k : ℕ) → cond b (Some (number k)) None ≡ option_map number (cond b (Some k) None)
        under true k = refl
        under false k = refl

        of : (o p : Option (ℕ × Hold)) → earliest after ≡ o → earliest before ≡ p → due_by (moment_at before caller.now) (earliest before) ≡ option_map number (due_by (moment_at after caller.now) (earliest after))
        of None None is also = ap (due_by (moment_at before caller.now)) also ∙ sym (ap (λ o. option_map number (due_by (moment_at after caller.now) o)) is)
        of None (Some y) is also =
            let at = earliest_is_first before y.0 y.1 also in
            let found = held_before y.0 y.1 at.is_open in
            let there : earliest after ≡ Some (found.0, y.1) = earliest_is after found.0 y.1 (earliest_after found.0 y.1 found.1 (subst (λ n. IsEarliest before n y.1) (sym found.2) at)) in
            absurd cc
        of (Some x) p is also =
            let there : earliest before ≡ Some (number x.0, x.1) = earliest_is before (number x.0) x.1 (earliest_before x.0 x.1 (earliest_is_first after x.0 x.1 is)) in
            ap (due_by (moment_at before caller.now)) there
            ∙ ap (λ m. cond (int_le x.1.deadline m) (Some (number x.0)) None) (sym same_moment)
            ∙ under (int_le x.1.deadline (moment_at after caller.now)) x.0
            ∙ sym (ap (λ o. option_map number (due_by (moment_at after caller.now) o)) is)

    pub sweeps_alike : Twins (replied_as of_expire (expire_step new caller)) (replied_as of_expire (expire_step old caller))
    unfolding expire_step
    sweeps_alike =
        subst (λ p. Twins (replied_as of_expire (expire_booked new caller (due after (moment_at after caller.now)))) (replied_as of_expire (expire_booked old caller p))) (sym due_alike)
        (of (due after (moment_at after caller.now)) refl)
      where
        of : (o : Option ℕ) → due after (moment_at after caller.now) ≡ o → Twins (replied_as of_expire (expire_booked new caller o)) (replied_as of_expire (expire_booked old caller (option_map number o)))
        of None is = record { replies = refl; stay = alike }
        of (Some k) is =
            let facts = due_facts after (moment_at after caller.now) k is in
            let there : open_hold_at after k ≡ Some facts.0 = ap₂ (λ b o. cond b o None) facts.2 facts.1 in
            record {
              replies = refl;
              stay = with_both (what.Released k cause.Late) (what.Released (number k) cause.Late) refl (record { ends = (held_since k facts.0 there, ap is_some there); closes = tt });
            }

    -- ---- closings

    verdict_is : (n : ℕ) (verdict : EngineVerdict) → closing_of_verdict (number n) verdict ≡ numbered number (closing_of_verdict n verdict)
    verdict_is n engine.Accepted = refl
    verdict_is n engine.Refused = refl

    verdict_joins : (n : ℕ) (verdict : EngineVerdict) → IsNamed n → IsSome (open_ask_at after n) → Joins (length C.peers) (peer_assets C) first later number IsNamed start after (closing_of_verdict n verdict)
    verdict_joins n engine.Accepted named some = record { ends = tt; closes = (named, some) }
    verdict_joins n engine.Refused named some = record { ends = tt; closes = (named, some) }

    pub closes_alike : (n : ℕ) (verdict : EngineVerdict) → IsNamed n → Twins (replied_as of_close (close_step new caller n verdict)) (replied_as of_close (close_step old caller (number n) verdict))
    unfolding close_step
    closes_alike n verdict named = of (open_ask_at after n) (open_ask_at before (number n)) refl (alike.asks n named)
      where
        of : (o p : Option Ask) → open_ask_at after n ≡ o → o ≡ p → Twins (replied_as of_close (close_booked new caller n verdict o)) (replied_as of_close (close_booked old caller (number n) verdict p))
        of None None is same = record { replies = ap (λ c. of_close (Err (record { closer = c }))) (alike.closings n named); stay = alike }
        of None (Some b) is same = absurd cc
        of (Some a) None is same = absurd cc
        of (Some a) (Some b) is same = record {
          replies = ap (λ k. of_close (Ok k)) same_end;
          stay = with_both (closing_of_verdict n verdict) (closing_of_verdict (number n) verdict) (verdict_is n verdict) (verdict_joins n verdict named (ap is_some is));
        }

    -- ---- credits

    -- a credit by its number before
    abbrev credit_before : ℕ × Credited → ℕ × Credited
    credit_before x = (number x.0, x.1)

    kept_alike : (q : ℕ) (key : List ℕ) → IsKnown C q → option_map credit_before (kept after q key) ≡ kept before q key
    kept_alike q key known = of (kept_at after q key) (kept_at before q key) (alike.kept_numbers q key known) (alike.credits q key known)
      where
        at : (k n : ℕ) (o p : Option Credited) → number k ≡ n → o ≡ p
            → option_map credit_before (option_map {U = ℕ × Credited} (λ (c : Credited). (k, c)) o) ≡ option_map {U = ℕ × Credited} (λ (c : Credited). (n, c)) p
        at k n None None one two = refl
        at k n None (Some d) one two = absurd cc
        at k n (Some c) None one two = absurd cc
        at k n (Some c) (Some d) one two = let pair : ◌≡◌ {A = ℕ × Credited} (number k, c) (n, d) = ap₂ (λ (i : ℕ) (x : Credited). (i, x)) one (some_same c d two) in ap Some pair

        of : (o p : Option ℕ) → option_map number o ≡ p → option_and_then (credit_at after) o ≡ option_and_then (credit_at before) p
            → option_map credit_before (option_and_then {U = ℕ × Credited} (λ n. option_map {U = ℕ × Credited} (λ (c : Credited). (n, c)) (credit_at after n)) o)
            ≡ option_and_then {U = ℕ × Credited} (λ n. option_map {U = ℕ × Credited} (λ (c : Credited). (n, c)) (credit_at before n)) p
        of None None one two = refl
        of None (Some n) one two = absurd cc
        of (Some k) None one two = absurd cc
        of (Some k) (Some n) one two = at k n (credit_at after k) (credit_at before n) (some_same (number k) n one) two

    kept_told : (q : Quantity) (kind : CreditKind) (k : ℕ) (c : Credited) → reply_with number (of_credit (credit_kept q kind (k, c))) ≡ of_credit (credit_kept q kind (number k, c))
    kept_told q kind k c = of ((c.named == q.amount) && (c.scale == q.scale) && same_kind c.kind kind)
      where
        of : (b : Bool) → reply_with number (of_credit (cond b (Ok (record { number = k; amount = c.credited; fresh = false })) (Err (credit_fault.KeyTaken k))))
            ≡ of_credit (cond b (Ok (record { number = number k; amount = c.credited; fresh = false })) (Err (credit_fault.KeyTaken (number k))))
        of true = refl
        of false = refl

    abbrev fitted_credit : Bool → Bool → ℤ → ℤ → Credited → Result Credited (Result Kept CreditFault)
    fitted_credit room short owed least c = refuse_if (not room) (Err credit_fault.Full) >>= λ _. refuse_if short (Err (credit_fault.BelowLeast owed least)) >>= λ _. Ok c

    credits_booked : (growth : Growth) (c : Credited) (owed least : ℤ) (r s short : Bool)
        → is_full (of_credit (credit_booked new caller growth (fitted_credit r short owed least c)).reply) ≡ false → is_full (of_credit (credit_booked old caller growth (fitted_credit s short owed least c)).reply) ≡ false
        → Twins (replied_as of_credit (credit_booked new caller growth (fitted_credit r short owed least c))) (replied_as of_credit (credit_booked old caller growth (fitted_credit s short owed least c)))
    credits_booked growth c owed least false s short full also = absurd cc
    credits_booked growth c owed least true false short full also = absurd cc
    credits_booked growth c owed least true true true full also = record { replies = refl; stay = alike }
    credits_booked denied c owed least true true false full also = record { replies = refl; stay = alike }
    credits_booked granted c owed least true true false full also = record { replies = ap (λ k. of_credit (Ok (record { number = k; amount = c.credited; fresh = true }))) same_end; stay = with_both (what.Credited c) (what.Credited c) refl (record { ends = tt; closes = tt }) }

    -- where both owe the peer the same
    credits_fitted : (growth : Growth) (c : Credited) (least owed owed' : ℤ) (r s : Bool) → owed ≡ owed'
        → is_full (of_credit (credit_booked new caller growth (fitted_credit r (int_lt (owed -ℤ pos (lowering c.kind c.credited)) least) owed least c)).reply) ≡ false
        → is_full (of_credit (credit_booked old caller growth (fitted_credit s (int_lt (owed' -ℤ pos (lowering c.kind c.credited)) least) owed' least c)).reply) ≡ false
        → Twins (replied_as of_credit (credit_booked new caller growth (fitted_credit r (int_lt (owed -ℤ pos (lowering c.kind c.credited)) least) owed least c)))
        (replied_as of_credit (credit_booked old caller growth (fitted_credit s (int_lt (owed' -ℤ pos (lowering c.kind c.credited)) least) owed' least c)))
    credits_fitted growth c least owed owed' r s same full also =
        let Fits : ℤ → Type 0 = λ z. is_full (of_credit (credit_booked old caller growth (fitted_credit s (int_lt (z -ℤ pos (lowering c.kind c.credited)) least) z least c)).reply) ≡ false
        → Twins (replied_as of_credit (credit_booked new caller growth (fitted_credit r (int_lt (owed -ℤ pos (lowering c.kind c.credited)) least) owed least c)))
        (replied_as of_credit (credit_booked old caller growth (fitted_credit s (int_lt (z -ℤ pos (lowering c.kind c.credited)) least) z least c))) in
        subst Fits same (credits_booked growth c owed least r s (int_lt (owed -ℤ pos (lowering c.kind c.credited)) least) full) also

    pub credits_alike : (p : Payment) (growth : Growth) → IsKnown C p.peer → is_full (of_credit (credit_step new caller p growth).reply) ≡ false → is_full (of_credit (credit_step old caller p growth).reply) ≡ false
        → Twins (replied_as of_credit (credit_step new caller p growth)) (replied_as of_credit (credit_step old caller p growth))
    unfolding credit_step credit_checked
    credits_alike p growth known = of (nat_lt most (amount_of C p)) (kept after p.peer p.key) (kept before p.peer p.key) (kept_alike p.peer p.key known)
      where
        of : (b : Bool) (o q : Option (ℕ × Credited)) → option_map credit_before o ≡ q
            → is_full (of_credit (credit_booked new caller growth (refuse_if b (Err credit_fault.TooLarge) >>= λ _. credit_fresh new p o)).reply) ≡ false
            → is_full (of_credit (credit_booked old caller growth (refuse_if b (Err credit_fault.TooLarge) >>= λ _. credit_fresh old p q)).reply) ≡ false
            → Twins (replied_as of_credit (credit_booked new caller growth (refuse_if b (Err credit_fault.TooLarge) >>= λ _. credit_fresh new p o)))
            (replied_as of_credit (credit_booked old caller growth (refuse_if b (Err credit_fault.TooLarge) >>= λ _. credit_fresh old p q)))
        of true o q same full also = record { replies = refl; stay = alike }
        of false None None same full also = credits_fitted growth (credit_of C p) (peer_at C p.peer).least (balance after p.peer) (balance before p.peer) (has_room new 1) (has_room old 1) (alike.balances p.peer known) full also
        of false None (Some y) same full also = absurd cc
        of false (Some x) None same full also = absurd cc
        of false (Some x) (Some y) same full also = record {
          replies = kept_told p.quantity p.kind x.0 x.1 ∙ ap (λ (z : ℕ × Credited). of_credit (credit_kept p.quantity p.kind z)) (some_same (credit_before x) y same);
          stay = alike;
        }

    -- ---- asks

    -- a refusal by the number before of what it names
    abbrev fault_before : AskFault → AskFault
    fault_before (ask_fault.StillOpen n amount) = ask_fault.StillOpen (number n) amount
    fault_before (ask_fault.NotDue owed) = ask_fault.NotDue owed
    fault_before ask_fault.Full = ask_fault.Full
    fault_before ask_fault.Memory = ask_fault.Memory

    fault_told : (f : AskFault) → reply_with number (of_ask (Err f)) ≡ of_ask (Err (fault_before f))
    fault_told (ask_fault.StillOpen n amount) = refl
    fault_told (ask_fault.NotDue owed) = refl
    fault_told ask_fault.Full = refl
    fault_told ask_fault.Memory = refl

    still_alike : (q : ℕ) → IsKnown C q → option_map fault_before (still_open after q) ≡ still_open before q
    still_alike q known =
        of (nat_lt (open_asks after q) most_open_asks) (next_open_ask after q None)
        ∙ ap₂ (λ n o. cond (nat_lt n most_open_asks) None (option_map (λ (x : ℕ × Ask). ask_fault.StillOpen x.0 x.1.amount) o)) (alike.open_counts q known)
        (next_alike (length C.peers) (peer_assets C) first later number IsNamed start numbering before after alike q known None tt)
      where
        of : (b : Bool) (o : Option (ℕ × Ask)) → option_map fault_before (cond b None (option_map (λ (x : ℕ × Ask). ask_fault.StillOpen x.0 x.1.amount) o))
            ≡ cond b None (option_map (λ (x : ℕ × Ask). ask_fault.StillOpen x.0 x.1.amount) (option_map {U = ℕ × Ask} (λ (x : ℕ × Ask). (number x.0, x.1)) o))
        of true o = refl
        of false None = refl
        of false (Some x) = refl

    abbrev fitted_ask : Bool → Ask → Result Ask AskFault
    fitted_ask room a = refuse_if (not room) ask_fault.Full >>= λ _. Ok a

    asks_booked : (growth : Growth) (a : Ask) (r s : Bool) → is_full (of_ask (ask_booked new caller growth (fitted_ask r a)).reply) ≡ false → is_full (of_ask (ask_booked old caller growth (fitted_ask s a)).reply) ≡ false
        → Twins (replied_as of_ask (ask_booked new caller growth (fitted_ask r a))) (replied_as of_ask (ask_booked old caller growth (fitted_ask s a)))
    asks_booked growth a false s full also = absurd cc
    asks_booked growth a true false full also = absurd cc
    asks_booked denied a true true full also = record { replies = refl; stay = alike }
    asks_booked granted a true true full also = record { replies = ap (λ k. of_ask (Ok (record { number = k; amount = a.amount }))) same_end; stay = with_both (what.Asked a) (what.Asked a) refl (record { ends = tt; closes = tt }) }

    asks_due : (q : ℕ) (growth : Growth) (owed : ℤ) (due_now : Option ℕ)
        → is_full (of_ask (ask_booked new caller growth (found_or due_now (ask_fault.NotDue owed) >>= λ amount. ask_fitted new (record { peer = q; amount = amount }))).reply) ≡ false
        → is_full (of_ask (ask_booked old caller growth (found_or due_now (ask_fault.NotDue owed) >>= λ amount. ask_fitted old (record { peer = q; amount = amount }))).reply) ≡ false
        → Twins (replied_as of_ask (ask_booked new caller growth (found_or due_now (ask_fault.NotDue owed) >>= λ amount. ask_fitted new (record { peer = q; amount = amount }))))
        (replied_as of_ask (ask_booked old caller growth (found_or due_now (ask_fault.NotDue owed) >>= λ amount. ask_fitted old (record { peer = q; amount = amount }))))
    asks_due q growth owed None full also = record { replies = refl; stay = alike }
    asks_due q growth owed (Some amount) full also = asks_booked growth (record { peer = q; amount = amount }) (has_room new 2) (has_room old 2) full also

    pub asks_alike : (q : ℕ) (growth : Growth) → IsKnown C q → is_full (of_ask (ask_step new caller q growth).reply) ≡ false → is_full (of_ask (ask_step old caller q growth).reply) ≡ false
        → Twins (replied_as of_ask (ask_step new caller q growth)) (replied_as of_ask (ask_step old caller q growth))
    unfolding ask_step ask_checked
    asks_alike q growth known =
        of (still_open after q) (still_open before q) (still_alike q known) (balance after q) (balance before q) (alike.balances q known)
      where
        of : (o p : Option AskFault) → option_map fault_before o ≡ p → (owed owed_before : ℤ) → owed ≡ owed_before
            → is_full (of_ask (ask_booked new caller growth (refuse_some o >>= λ _. found_or (due_amount owed (peer_at C q).levels) (ask_fault.NotDue owed) >>= λ amount. ask_fitted new (record { peer = q; amount = amount }))).reply) ≡ false
            → is_full (of_ask (ask_booked old caller growth (refuse_some p >>= λ _. found_or (due_amount owed_before (peer_at C q).levels) (ask_fault.NotDue owed_before) >>= λ amount. ask_fitted old (record { peer = q; amount = amount }))).reply) ≡ false
            → Twins (replied_as of_ask (ask_booked new caller growth (refuse_some o >>= λ _. found_or (due_amount owed (peer_at C q).levels) (ask_fault.NotDue owed) >>= λ amount. ask_fitted new (record { peer = q; amount = amount }))))
            (replied_as of_ask (ask_booked old caller growth (refuse_some p >>= λ _. found_or (due_amount owed_before (peer_at C q).levels) (ask_fault.NotDue owed_before) >>= λ amount. ask_fitted old (record { peer = q; amount = amount }))))
        of None None same owed owed_before equal full also =
            let Paired : ℤ → Type 0 = λ b.
            is_full (of_ask (ask_booked old caller growth (found_or (due_amount b (peer_at C q).levels) (ask_fault.NotDue b) >>= λ amount. ask_fitted old (record { peer = q; amount = amount }))).reply) ≡ false
            → Twins (replied_as of_ask (ask_booked new caller growth (found_or (due_amount owed (peer_at C q).levels) (ask_fault.NotDue owed) >>= λ amount. ask_fitted new (record { peer = q; amount = amount }))))
            (replied_as of_ask (ask_booked old caller growth (found_or (due_amount b (peer_at C q).levels) (ask_fault.NotDue b) >>= λ amount. ask_fitted old (record { peer = q; amount = amount })))) in
            subst Paired equal (λ fits. asks_due q growth owed (due_amount owed (peer_at C q).levels) full fits) also
        of None (Some g) same owed owed_before equal full also = absurd cc
        of (Some f) None same owed owed_before equal full also = absurd cc
        of (Some f) (Some g) same owed owed_before equal full also = record {
          replies = fault_told f ∙ ap (λ x. of_ask (Err x)) (some_same (fault_before f) g same);
          stay = alike;
        }

    -- ---- holds

    abbrev fitted_hold : Bool → Bool → ℤ → Hold → Result Hold HoldFault
    fitted_hold room total owed h =
        refuse_if (not room) hold_fault.Full >>= λ _. refuse_if (not total) hold_fault.TotalFull
        >>= λ _. refuse_if (int_lt (owed -ℤ pos h.amount) (peer_at C h.from).least) (hold_fault.BelowLeast owed) >>= λ _. Ok h

    holds_booked : (growth : Growth) (h : Hold) (r s t : Bool) (owed : ℤ) → is_full (of_hold (hold_booked new caller growth (fitted_hold r t owed h)).reply) ≡ false → is_full (of_hold (hold_booked old caller growth (fitted_hold s t owed h)).reply) ≡ false
        → Twins (replied_as of_hold (hold_booked new caller growth (fitted_hold r t owed h))) (replied_as of_hold (hold_booked old caller growth (fitted_hold s t owed h)))
    holds_booked growth h false s t owed full also = absurd cc
    holds_booked growth h true false t owed full also = absurd cc
    holds_booked growth h true true false owed full also = record { replies = refl; stay = alike }
    holds_booked growth h true true true owed full also = of (int_lt (owed -ℤ pos h.amount) (peer_at C h.from).least) growth
      where
        of : (b : Bool) (g : Growth) → Twins (replied_as of_hold (hold_booked new caller g (refuse_if b (hold_fault.BelowLeast owed) >>= λ _. Ok h))) (replied_as of_hold (hold_booked old caller g (refuse_if b (hold_fault.BelowLeast owed) >>= λ _. Ok h)))
        of true g = record { replies = refl; stay = alike }
        of false denied = record { replies = refl; stay = alike }
        of false granted = record { replies = ap (λ k. of_hold (Ok (record { number = k; to = h.to; out = h.out; deadline = h.deadline }))) same_end; stay = with_both (what.Hold h) (what.Hold h) refl (record { ends = tt; closes = tt }) }

    holds_fitted : (growth : Growth) (h : Hold) → IsKnown C h.from → is_full (of_hold (hold_booked new caller growth (hold_fitted new h)).reply) ≡ false → is_full (of_hold (hold_booked old caller growth (hold_fitted old h)).reply) ≡ false
        → Twins (replied_as of_hold (hold_booked new caller growth (hold_fitted new h))) (replied_as of_hold (hold_booked old caller growth (hold_fitted old h)))
    unfolding hold_fitted
    holds_fitted growth h known full =
        subst Paired same_total (subst Owing (alike.balances h.from known) (λ also. holds_booked growth h (has_room new 2) (has_room old 2) (has_total new h) (balance after h.from) full also))
      where
        same_total : has_total new h ≡ has_total old h
        same_total = ap₂ (λ x y. nat_le (x + h.amount) most && nat_le (y + h.out) most) (alike.totals_in (asset_of C h.from)) (alike.totals_out (asset_of C h.to))

        Owing : ℤ → Type 0
        Owing owed = is_full (of_hold (hold_booked old caller growth (fitted_hold (has_room old 2) (has_total new h) owed h)).reply) ≡ false
            → Twins (replied_as of_hold (hold_booked new caller growth (fitted_hold (has_room new 2) (has_total new h) (balance after h.from) h))) (replied_as of_hold (hold_booked old caller growth (fitted_hold (has_room old 2) (has_total new h) owed h)))

        Paired : Bool → Type 0
        Paired t = is_full (of_hold (hold_booked old caller growth (fitted_hold (has_room old 2) t (balance before h.from) h)).reply) ≡ false
            → Twins (replied_as of_hold (hold_booked new caller growth (fitted_hold (has_room new 2) (has_total new h) (balance after h.from) h))) (replied_as of_hold (hold_booked old caller growth (fitted_hold (has_room old 2) t (balance before h.from) h)))

    pub holds_alike : (sent : Incoming) (growth : Growth) → IsAllowed C (hold sent) → is_full (of_hold (hold_step new caller sent growth).reply) ≡ false → is_full (of_hold (hold_step old caller sent growth).reply) ≡ false
        → Twins (replied_as of_hold (hold_step new caller sent growth)) (replied_as of_hold (hold_step old caller sent growth))
    unfolding hold_step hold_checked
    holds_alike sent growth allowed = subst Paired same_moment (of (hold_terms C (moment_at after caller.now) sent) refl)
      where
        Paired : ℤ → Type 0
        Paired m = is_full (of_hold (hold_booked new caller growth (hold_terms C (moment_at after caller.now) sent >>= λ h. hold_fitted new h)).reply) ≡ false
            → is_full (of_hold (hold_booked old caller growth (hold_terms C m sent >>= λ h. hold_fitted old h)).reply) ≡ false
            → Twins (replied_as of_hold (hold_booked new caller growth (hold_terms C (moment_at after caller.now) sent >>= λ h. hold_fitted new h)))
            (replied_as of_hold (hold_booked old caller growth (hold_terms C m sent >>= λ h. hold_fitted old h)))

        of : (r : Result Hold HoldFault) → hold_terms C (moment_at after caller.now) sent ≡ r
            → is_full (of_hold (hold_booked new caller growth (r >>= λ h. hold_fitted new h)).reply) ≡ false
            → is_full (of_hold (hold_booked old caller growth (r >>= λ h. hold_fitted old h)).reply) ≡ false
            → Twins (replied_as of_hold (hold_booked new caller growth (r >>= λ h. hold_fitted new h))) (replied_as of_hold (hold_booked old caller growth (r >>= λ h. hold_fitted old h)))
        of (Err fault) is full also = record { replies = refl; stay = alike }
        of (Ok h) is full also = holds_fitted growth h (terms_allowed C (moment_at after caller.now) sent h valid allowed.0 allowed.1 is).sender full also
