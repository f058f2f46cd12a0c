-- No field of an entry whose numbers are of their types has a space or a line end.
use Rattle.std.proofs.Common.{◌≡◌, ℕ, suc, ◌+◌, ◌/◌, ◌%◌, ◌^◌, ◌<◌, ◌≤◌, ℤ, pos, negsuc, true, List, [], ◌∷◌, ◌++◌, length, Some, slice_index, nat_le, Option, None, unwrap_or, refl, subst, arith, w64, FitsSigned, All, codes}
use Rattle.std.specs.Prelude.{slice_get}
use Rattle.std.specs.List.{AllByRecursion, list_all}
use Rattle.std.specs.Fmt.{decimal, signed_decimal}
use Rattle.std.proofs.lemmas.Fmt.{decimal_by_steps_wide}
use Rattle.std.proofs.lemmas.Bool.{and_parts}
use Rattle.std.proofs.lemmas.Bool.Decides.{nat_tests}
use Rattle.std.proofs.lemmas.List.Elements.{All-nil, All-cons, All-push, All-weaker, All-get_or, All-from_recursion}
use Rattle.std.proofs.lemmas.List.Sums.{AllPass-from_list_all}
use Rattle.std.proofs.lemmas.Int.{ints}
use Rattle.std.proofs.lemmas.Option.{slice_get_within, get_or_from_slice_get}
use Rattle.hex.specs.Hex.{IsBytes, encode_lower, encode_with, lower_digits, hex_digit_value}
use Rattle.hex.proofs.HexLemmas.{IsDigits-lower_digits}
use Rattle.ilp_fields.specs.declared.form.Form.TheVariants as form
use Rattle.ilp_fields.specs.Forms.{is_name_octet}
use Rattle.ilp_accounts.specs.Configuration.{Configuration, PlainPeer, nobody}
use Rattle.ilp_accounts.specs.Valid.{IsValid, HasForm, IsPeer as IsGivenPeer}
use Rattle.ilp_journal.specs.declared.entry.Entry.{Entry}
use Rattle.ilp_journal.specs.declared.entry.What.{What}
use Rattle.ilp_journal.specs.declared.entry.What.TheVariants as what
use Rattle.ilp_journal.specs.declared.entry.Credited.{Credited}
use Rattle.ilp_journal.specs.declared.credit_kind.CreditKind.{CreditKind}
use Rattle.ilp_journal.specs.declared.credit_kind.CreditKind.TheVariants.{Settled, Raised, Lowered}
use Rattle.ilp_journal.specs.declared.entry.Cause.{Cause}
use Rattle.ilp_journal.specs.declared.entry.Cause.TheVariants.{Late, WrongPreimage, NoReply, Peer, Restart}
use Rattle.ilp_journal_text.specs.Text.{name_at, cause_fields, kind_fields, credit_word, credited_fields, what_fields}
use Rattle.ilp_journal_text.specs.Reading.{IsMoment, CauseStands, KindStands, WhatStands, CanStand, CreditIsTyped, WhatIsTyped, IsTyped}

-- neither a space nor a line end
abbrev pub IsInk : ℕ → Type 0
IsInk octet = 33 ≤ octet

abbrev pub AreInk : List (List ℕ) → Type 0
AreInk fields = All (All IsInk) fields

-- fields that are listed
are_ink : (fields : List (List ℕ)) → AllByRecursion (All IsInk) fields → AreInk fields
are_ink fields inks = All-from_recursion (All IsInk) fields inks

-- a word that is written out
pub word_ink : (word : List ℕ) → list_all (nat_le 33) word ≡ true → All IsInk word
word_ink word ink = All-weaker (λ octet. nat_le 33 octet ≡ true) IsInk (λ octet is. grind (arith, nat_tests, is)) word (AllPass-from_list_all (nat_le 33) word ink)

-- digits
pub decimal_ink : (n : ℕ) → n < 10 ^ 64 → All IsInk (decimal n)
decimal_ink n fits = decimal_by_steps_wide (λ _ (digits : List ℕ). All IsInk digits) one more n fits
  where
    one : (k : ℕ) → k < 10 → All IsInk ((48 + k) ∷ [])
    one k digit = All-cons IsInk (48 + k) [] (omega arith) (All-nil IsInk)

    more : (k : ℕ) (digits : List ℕ) → 10 ≤ k → All IsInk digits → All IsInk (digits ++ ((48 + k % 10) ∷ []))
    more k digits many ink = All-push IsInk digits (48 + k % 10) ink (omega arith)

pub moment_ink : (m : ℤ) → FitsSigned w64 m → All IsInk (signed_decimal m)
moment_ink (pos n) fits = decimal_ink n (omega (arith, fits.sfits))
moment_ink (negsuc n) fits = All-cons IsInk 45 (decimal (suc n)) (omega arith) (decimal_ink (suc n) (omega (arith, fits.sfits)))

ink_digit : (c d : ℕ) → hex_digit_value c ≡ Some d → IsInk c
ink_digit c d reads = grind (arith, nat_tests, reads)

pub hex_ink : (octets : List ℕ) → IsBytes octets → All IsInk (encode_lower octets)
unfolding encode_with
hex_ink [] bytes = All-nil IsInk
hex_ink (b ∷ rest) bytes =
    let byte : b < 256 = bytes 0 in
    let high : b / 16 < 16 = omega arith in
    let low : b % 16 < 16 = omega arith in
    All-cons IsInk (slice_index lower_digits (b / 16)) (slice_index lower_digits (b % 16) ∷ encode_lower rest)
    (ink_digit (slice_index lower_digits (b / 16)) (b / 16) (IsDigits-lower_digits (b / 16) high))
    (All-cons IsInk (slice_index lower_digits (b % 16)) (encode_lower rest)
    (ink_digit (slice_index lower_digits (b % 16)) (b % 16) (IsDigits-lower_digits (b % 16) low)) (hex_ink rest (λ k. bytes (suc k))))

-- names
name_ink : (name : List ℕ) → HasForm form.Name name → All IsInk name
name_ink name formed =
    let octets : list_all is_name_octet name ≡ true = (and_parts _ (list_all is_name_octet name) formed).1 in
    All-weaker (λ octet. is_name_octet octet ≡ true) IsInk (λ octet is. grind (arith, nat_tests, is)) name (AllPass-from_list_all is_name_octet name octets)

module _ (C : Configuration) (valid : IsValid C) where
  -- a peer that isn't there has no name
  pub peer_ink : (peer : ℕ) → All IsInk (name_at C peer)
  peer_ink peer = of (slice_get C.peers peer) refl
    where
      of : (o : Option PlainPeer) → slice_get C.peers peer ≡ o → All IsInk (unwrap_or o nobody).name
      of None is = All-nil IsInk
      of (Some p) is =
          let kept = All-get_or (IsGivenPeer (length C.table.assets)) C.peers peer nobody (slice_get_within C.peers peer p is) valid.peers in
          name_ink p.name (subst (IsGivenPeer (length C.table.assets)) (get_or_from_slice_get C.peers peer p nobody is) kept).name

  cause_ink : (cause : Cause) → CauseStands cause → AreInk (cause_fields cause)
  cause_ink Late stands = are_ink (cause_fields Late) (word_ink (codes "Late") refl, tt)
  cause_ink WrongPreimage stands = are_ink (cause_fields WrongPreimage) (word_ink (codes "WrongPreimage") refl, tt)
  cause_ink NoReply stands = are_ink (cause_fields NoReply) (word_ink (codes "NoReply") refl, tt)
  cause_ink (Peer code) stands = are_ink (cause_fields (Peer code)) (word_ink (codes "Peer") refl, (hex_ink code stands.1, tt))
  cause_ink Restart stands = are_ink (cause_fields Restart) (word_ink (codes "Restart") refl, tt)

  number_ink : (n : ℕ) → n < 2 ^ 32 → All IsInk (decimal n)
  number_ink n fits = decimal_ink n (omega (arith, fits))

  amount_ink : (n : ℕ) → n < 2 ^ 64 → All IsInk (decimal n)
  amount_ink n fits = decimal_ink n (omega (arith, fits))

  credit_word_ink : (kind : CreditKind) → All IsInk (credit_word kind)
  credit_word_ink Settled = word_ink (codes "credited") refl
  credit_word_ink (Raised reason) = word_ink (codes "corrected") refl
  credit_word_ink (Lowered reason) = word_ink (codes "corrected") refl

  kind_ink : (kind : CreditKind) → KindStands kind → AreInk (kind_fields kind)
  kind_ink Settled typed = are_ink [] tt
  kind_ink (Raised reason) typed = are_ink (kind_fields (Raised reason)) (word_ink (codes "rises") refl, (hex_ink reason typed.1, tt))
  kind_ink (Lowered reason) typed = are_ink (kind_fields (Lowered reason)) (word_ink (codes "falls") refl, (hex_ink reason typed.1, tt))

  credit_ink : (c : Credited) → CreditIsTyped c → AreInk (credited_fields C c)
  credit_ink c typed =
      All-cons (All IsInk) (name_at C c.peer) (encode_lower c.key ∷ decimal c.named ∷ decimal c.scale ∷ decimal c.credited ∷ kind_fields c.kind) (peer_ink c.peer)
      (All-cons (All IsInk) (encode_lower c.key) (decimal c.named ∷ decimal c.scale ∷ decimal c.credited ∷ kind_fields c.kind) (hex_ink c.key typed.key.1)
      (All-cons (All IsInk) (decimal c.named) (decimal c.scale ∷ decimal c.credited ∷ kind_fields c.kind) (decimal_ink c.named (omega (arith, typed.named)))
      (All-cons (All IsInk) (decimal c.scale) (decimal c.credited ∷ kind_fields c.kind) (decimal_ink c.scale (omega (arith, typed.scale)))
      (All-cons (All IsInk) (decimal c.credited) (kind_fields c.kind) (amount_ink c.credited typed.credited) (kind_ink c.kind typed.kind)))))

  pub what_ink : (w : What) → WhatIsTyped w → AreInk (what_fields C w)
  what_ink (what.Hold h) typed =
      are_ink (what_fields C (what.Hold h)) (
        word_ink (codes "hold") refl,
        (
          peer_ink h.from,
          (
            peer_ink h.to,
            (
              amount_ink h.amount typed.amount,
              (
                amount_ink h.fee typed.fee,
                (amount_ink h.out typed.out, (moment_ink h.deadline typed.deadline, (hex_ink h.condition typed.condition.1, tt))),
              ),
            ),
          ),
        ),
      )
  what_ink (what.Fulfilled hold preimage) typed =
      are_ink (what_fields C (what.Fulfilled hold preimage)) (word_ink (codes "fulfilled") refl, (number_ink hold typed.0, (hex_ink preimage typed.1.1, tt)))
  what_ink (what.Released hold cause) typed =
      All-cons (All IsInk) (codes "released") (decimal hold ∷ cause_fields cause) (word_ink (codes "released") refl)
      (All-cons (All IsInk) (decimal hold) (cause_fields cause) (number_ink hold typed.0) (cause_ink cause typed.1))
  what_ink (what.Credited c) typed = All-cons (All IsInk) (credit_word c.kind) (credited_fields C c) (credit_word_ink c.kind) (credit_ink c typed)
  what_ink (what.Asked a) typed =
      are_ink (what_fields C (what.Asked a)) (word_ink (codes "asked") refl, (peer_ink a.peer, (amount_ink a.amount typed, tt)))
  what_ink (what.Confirmed ask) typed = are_ink (what_fields C (what.Confirmed ask)) (word_ink (codes "confirmed") refl, (number_ink ask typed, tt))
  what_ink (what.Undone ask) typed = are_ink (what_fields C (what.Undone ask)) (word_ink (codes "undone") refl, (number_ink ask typed, tt))
  what_ink (what.Opened peer balance) typed =
      are_ink (what_fields C (what.Opened peer balance)) (word_ink (codes "opened") refl, (peer_ink peer, (moment_ink balance typed, tt)))
  what_ink (what.Known c) typed = All-cons (All IsInk) (codes "known") (credited_fields C c) (word_ink (codes "known") refl) (credit_ink c typed)
  what_ink (what.Pending peer amount key) typed =
      are_ink (what_fields C (what.Pending peer amount key)) (word_ink (codes "pending") refl, (peer_ink peer, (amount_ink amount typed.0, (hex_ink key typed.1.1, tt))))

  -- what follows the moment
  pub further_ink : (e : Entry) → IsTyped e → AreInk (decimal e.actor ∷ what_fields C e.what)
  further_ink e typed = All-cons (All IsInk) (decimal e.actor) (what_fields C e.what) (number_ink e.actor typed.actor) (what_ink e.what typed.what)

-- the numbers of an entry that can stand are of their types
pub typed_of : (C : Configuration) (e : Entry) → CanStand C e → IsTyped e
typed_of C e stands = record { moment = moment_fits e.moment stands.moment; actor = stands.actor; what = of e.what stands.what }
  where
    moment_fits : (m : ℤ) → IsMoment m → FitsSigned w64 m
    moment_fits (pos n) within = record { sfits = omega (arith, ints, within.1) }
    moment_fits (negsuc n) within = absurd (omega (arith, ints, within.0))

    of : (w : What) → WhatStands C w → WhatIsTyped w
    of (what.Hold h) stands = record { amount = stands.amount; fee = stands.fee; out = stands.out; deadline = moment_fits h.deadline stands.deadline; condition = stands.condition }
    of (what.Fulfilled hold preimage) stands = stands
    of (what.Released hold cause) stands = stands
    of (what.Credited c) stands = record { key = stands.key; named = stands.named; scale = stands.scale; credited = stands.credited; kind = stands.kind }
    of (what.Asked a) stands = stands.1
    of (what.Confirmed ask) stands = stands
    of (what.Undone ask) stands = stands
    of (what.Opened peer balance) stands = stands.1
    of (what.Known c) stands = record { key = stands.key; named = stands.named; scale = stands.scale; credited = stands.credited; kind = stands.kind }
    of (what.Pending peer amount key) stands = (stands.1, stands.2)
