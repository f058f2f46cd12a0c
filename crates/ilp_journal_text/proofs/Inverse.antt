-- The fields of an entry give the entry back.
use Rattle.std.proofs.Common.{◌≡◌, ◌≢◌, ℕ, suc, ◌^◌, ◌<◌, ℤ, pos, negsuc, ◌-ℤ◌, Bool, true, false, cond, ◌==◌, subst, List, [], ◌∷◌, Option, Some, None, unwrap_or, drop, slice_index_or, codes, sym, ap, ◌∙◌, refl, arith, w64, FitsSigned}
use Rattle.std.specs.Fmt.{decimal, signed_decimal}
use Rattle.std.specs.Result.{result_unwrap_or}
use Rattle.std.specs.Str.{bytes_eq}
use Rattle.std.specs.Str.Parse.{AllDigits, digits_value}
use Rattle.std.proofs.lemmas.Bool.{eqb-true}
use Rattle.std.proofs.lemmas.Str.Parse.{digit_from_value}
use Rattle.std.proofs.lemmas.Fmt.{decimal_is_IsNumeral_wide}
use Rattle.std.proofs.lemmas.Int.{ints}
use Rattle.hex.specs.Hex.{IsBytes, decode_of, encode_lower}
use Rattle.hex.proofs.HexLemmas.{decode_of-encode_lower}
use Rattle.ilp_accounts.specs.Configuration.{Configuration, peer_names, place_named}
use Rattle.ilp_accounts.specs.Valid.{IsValid}
use Rattle.ilp_journal.specs.declared.entry.Entry.{Entry}
use Rattle.ilp_journal.specs.declared.entry.What.{What}
use Rattle.ilp_journal.specs.declared.entry.What.TheVariants as what
use Rattle.ilp_journal.specs.declared.entry.Credited.{Credited}
use Rattle.ilp_journal.specs.declared.credit_kind.CreditKind.{CreditKind}
use Rattle.ilp_journal.specs.declared.credit_kind.CreditKind.TheVariants.{Settled, Raised, Lowered}
use Rattle.ilp_journal.specs.declared.entry.Cause.{Cause}
use Rattle.ilp_journal.specs.declared.entry.Cause.TheVariants.{Late, WrongPreimage, NoReply, Peer, Restart}
use Rattle.ilp_journal_text.specs.declared.parsing.Kind.{Kind}
use Rattle.ilp_journal_text.specs.declared.parsing.Kind.TheVariants as kind
use Rattle.ilp_journal_text.specs.Text.{name_at, cause_fields, kind_fields, credit_word, credited_fields, what_fields}
use Rattle.ilp_journal_text.specs.Reading.{IsPeer, IsMoment, CauseStands, KindStands, CreditStands, WhatStands, CanStand}
use Rattle.ilp_journal_text.specs.Fields.{kind_of, named_cause, entry_fields}
use Rattle.ilp_journal_text.proofs.Peers.{peer_back}
use Rattle.ilp_journal_text.proofs.Same.{made_hold, same_hold, made_credited, same_credited, made_ask, same_ask, made_entry, same_entry}

-- ---- single fields

pub number_back : (n : ℕ) → n < 10 ^ 64 → digits_value 10 (decimal n) ≡ n
number_back n fits = (decimal_is_IsNumeral_wide n fits).1

moment_of : List ℕ → ℤ
moment_of field = pos (digits_value 10 field)

moment_back : (m : ℤ) → IsMoment m → moment_of (signed_decimal m) ≡ m
unfolding moment_of
moment_back (pos n) within =
    let below : n < 2 ^ 63 = omega (arith, ints, within.1) in
    ap pos (number_back n (omega (arith, below)))
moment_back (negsuc n) within = absurd (omega (arith, ints, within.0))

balance_of : List ℕ → ℤ
balance_of [] = pos 0
balance_of (x ∷ digits) = cond (x == 45) (pos 0 -ℤ pos (digits_value 10 digits)) (pos (digits_value 10 (x ∷ digits)))

-- a number does not begin with a minus
no_minus : (n : ℕ) (digits : List ℕ) → n < 2 ^ 63 → decimal n ≢ 45 ∷ digits
no_minus n digits fits e = omega (arith, digit_from_value 45 (subst (AllDigits 10) e (decimal_is_IsNumeral_wide n (omega (arith, fits))).0.1).0)

balance_back : (b : ℤ) → FitsSigned w64 b → balance_of (signed_decimal b) ≡ b
unfolding balance_of
balance_back (pos n) fits =
    whole n (number_back n (omega (arith, fits.sfits))) (λ digits. no_minus n digits fits.sfits) (decimal n) refl
  where
    whole : (n : ℕ) → digits_value 10 (decimal n) ≡ n → ((digits : List ℕ) → decimal n ≢ 45 ∷ digits) → (field : List ℕ) → decimal n ≡ field → balance_of field ≡ pos n
    whole n back plain [] e = ap pos (sym (ap (digits_value 10) e) ∙ back)
    whole n back plain (x ∷ digits) e = by_test (x == 45) refl
      where
        by_test : (b : Bool) → (x == 45) ≡ b → cond b (pos 0 -ℤ pos (digits_value 10 digits)) (pos (digits_value 10 (x ∷ digits))) ≡ pos n
        by_test true is = absurd (plain digits (e ∙ ap (λ c. c ∷ digits) (eqb-true x 45 is)))
        by_test false is = ap pos (sym (ap (digits_value 10) e) ∙ back)
balance_back (negsuc n) fits = ap (λ k. pos 0 -ℤ pos k) (number_back (suc n) (omega (arith, fits.sfits))) ∙ omega (arith, ints)

octets_of : List ℕ → List ℕ
octets_of field = result_unwrap_or (decode_of field) []

octets_back : (octets : List ℕ) → IsBytes octets → octets_of (encode_lower octets) ≡ octets
unfolding octets_of
octets_back octets bytes = ap (λ decoded. result_unwrap_or decoded []) (decode_of-encode_lower octets bytes)

field_at : List (List ℕ) → ℕ → List ℕ
field_at fields place = slice_index_or fields place []

-- ---- a peer, a cause and what happened

module _ (C : Configuration) where
  peer_of : List ℕ → ℕ
  peer_of field = unwrap_or (place_named (peer_names C.peers) field) 0

  cause_of : List (List ℕ) → Cause
  cause_of fields = unwrap_or (named_cause (field_at fields 0)) (Peer (octets_of (field_at fields 1)))

  credit_kind_of : List (List ℕ) → CreditKind
  credit_kind_of [] = Settled
  credit_kind_of (word ∷ fields) = cond (bytes_eq word (codes "rises")) (Raised (octets_of (field_at fields 0))) (Lowered (octets_of (field_at fields 0)))

  -- what the fields behind the word tell
  told : Option Kind → List (List ℕ) → What
  told (Some kind.Hold) f =
      what.Hold (made_hold (peer_of (field_at f 0)) (peer_of (field_at f 1)) (digits_value 10 (field_at f 2)) (digits_value 10 (field_at f 3)) (digits_value 10 (field_at f 4)) (moment_of (field_at f 5)) (octets_of (field_at f 6)))
  told (Some kind.Fulfilled) f = what.Fulfilled (digits_value 10 (field_at f 0)) (octets_of (field_at f 1))
  told (Some kind.Released) f = what.Released (digits_value 10 (field_at f 0)) (cause_of (drop 1 f))
  told (Some kind.Credited) f =
      what.Credited (made_credited (peer_of (field_at f 0)) (octets_of (field_at f 1)) (digits_value 10 (field_at f 2)) (digits_value 10 (field_at f 3)) (digits_value 10 (field_at f 4)) (credit_kind_of (drop 5 f)))
  told (Some kind.Asked) f = what.Asked (made_ask (peer_of (field_at f 0)) (digits_value 10 (field_at f 1)))
  told (Some kind.Confirmed) f = what.Confirmed (digits_value 10 (field_at f 0))
  told (Some kind.Undone) f = what.Undone (digits_value 10 (field_at f 0))
  told (Some kind.Opened) f = what.Opened (peer_of (field_at f 0)) (balance_of (field_at f 1))
  told (Some kind.Known) f =
      what.Known (made_credited (peer_of (field_at f 0)) (octets_of (field_at f 1)) (digits_value 10 (field_at f 2)) (digits_value 10 (field_at f 3)) (digits_value 10 (field_at f 4)) (credit_kind_of (drop 5 f)))
  told (Some kind.Pending) f = what.Pending (peer_of (field_at f 0)) (digits_value 10 (field_at f 1)) (octets_of (field_at f 2))
  told None f = what.Undone 0

  what_of : List (List ℕ) → What
  what_of fields = told (kind_of (field_at fields 0)) (drop 1 fields)

  entry_of : List (List ℕ) → Entry
  entry_of fields = made_entry (moment_of (field_at fields 0)) (digits_value 10 (field_at fields 1)) (what_of (drop 2 fields))

  cause_back : (cause : Cause) → CauseStands cause → cause_of (cause_fields cause) ≡ cause
  unfolding cause_of field_at
  cause_back Late stands = refl
  cause_back WrongPreimage stands = refl
  cause_back NoReply stands = refl
  cause_back (Peer code) stands = ap Peer (octets_back code stands.1)
  cause_back Restart stands = refl

  kind_back : (k : CreditKind) → KindStands k → credit_kind_of (kind_fields k) ≡ k
  unfolding credit_kind_of field_at
  kind_back Settled stands = refl
  kind_back (Raised reason) stands = ap Raised (octets_back reason stands.1)
  kind_back (Lowered reason) stands = ap Lowered (octets_back reason stands.1)

  small_back : (n : ℕ) → n < 2 ^ 32 → digits_value 10 (decimal n) ≡ n
  small_back n fits = number_back n (omega (arith, fits))

  amount_back : (n : ℕ) → n < 2 ^ 64 → digits_value 10 (decimal n) ≡ n
  amount_back n fits = number_back n (omega (arith, fits))

  module _ (valid : IsValid C) where
    place_back : (peer : ℕ) → IsPeer C peer → peer_of (name_at C peer) ≡ peer
    unfolding peer_of
    place_back peer known = ap (λ (place : Option ℕ). unwrap_or place 0) (sym (peer_back C valid peer known))

    -- a credit and a correction have one kind of line
    word_back : (k : CreditKind) → kind_of (credit_word k) ≡ Some kind.Credited
    word_back Settled = refl
    word_back (Raised reason) = refl
    word_back (Lowered reason) = refl

    credit_back : (c : Credited) → CreditStands C c
        → made_credited (peer_of (name_at C c.peer)) (octets_of (encode_lower c.key)) (digits_value 10 (decimal c.named)) (digits_value 10 (decimal c.scale)) (digits_value 10 (decimal c.credited)) (credit_kind_of (kind_fields c.kind)) ≡ c
    credit_back c stands =
        same_credited c _ _ _ _ _ _ (place_back c.peer stands.peer) (octets_back c.key stands.key.1) (number_back c.named (omega (arith, stands.named))) (number_back c.scale (omega (arith, stands.scale)))
        (amount_back c.credited stands.credited) (kind_back c.kind stands.kind)

    what_back : (w : What) → WhatStands C w → what_of (what_fields C w) ≡ w
    unfolding what_of told field_at
    what_back (what.Hold h) stands =
        ap what.Hold (same_hold h _ _ _ _ _ _ _ (place_back h.from stands.from) (place_back h.to stands.to) (amount_back h.amount stands.amount) (amount_back h.fee stands.fee) (amount_back h.out stands.out)
        (moment_back h.deadline stands.deadline) (octets_back h.condition stands.condition.1))
    what_back (what.Fulfilled hold preimage) stands =
        ap (λ n. what.Fulfilled n (octets_of (encode_lower preimage))) (small_back hold stands.0) ∙ ap (what.Fulfilled hold) (octets_back preimage stands.1.1)
    what_back (what.Released hold cause) stands =
        ap (λ n. what.Released n (cause_of (cause_fields cause))) (small_back hold stands.0) ∙ ap (what.Released hold) (cause_back cause stands.1)
    what_back (what.Credited c) stands = ap (λ k. told k (credited_fields C c)) (word_back c.kind) ∙ ap what.Credited (credit_back c stands)
    what_back (what.Asked a) stands = ap what.Asked (same_ask a _ _ (place_back a.peer stands.0) (amount_back a.amount stands.1))
    what_back (what.Confirmed ask) stands = ap what.Confirmed (small_back ask stands)
    what_back (what.Undone ask) stands = ap what.Undone (small_back ask stands)
    what_back (what.Opened peer balance) stands =
        ap (λ p. what.Opened p (balance_of (signed_decimal balance))) (place_back peer stands.0) ∙ ap (what.Opened peer) (balance_back balance stands.1)
    what_back (what.Known c) stands = ap what.Known (credit_back c stands)
    what_back (what.Pending peer amount key) stands =
        ap (λ p. what.Pending p (digits_value 10 (decimal amount)) (octets_of (encode_lower key))) (place_back peer stands.0)
        ∙ ap (λ n. what.Pending peer n (octets_of (encode_lower key))) (amount_back amount stands.1)
        ∙ ap (what.Pending peer amount) (octets_back key stands.2.1)

    entry_back : (e : Entry) → CanStand C e → entry_of (entry_fields C e) ≡ e
    unfolding entry_of field_at
    entry_back e stands = same_entry e _ _ _ (moment_back e.moment stands.moment) (small_back e.actor stands.actor) (what_back e.what stands.what)

    -- entries with the same fields are the same
    pub one_entry : (d e : Entry) → CanStand C d → CanStand C e → entry_fields C d ≡ entry_fields C e → d ≡ e
    one_entry d e stands_d stands_e same = sym (entry_back d stands_d) ∙ ap entry_of same ∙ entry_back e stands_e
