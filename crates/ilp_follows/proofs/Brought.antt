-- What of a head is made, as far as peers and entries were gone over.
use Rattle.std.proofs.Common.{◌≡◌, ℕ, zero, suc, ◌+◌, ◌≤◌, pos, Bool, true, false, cond, List, [], ◌∷◌, ◌++◌, map, take, length, Option, Some, None, refl, sym, ap, ap₂, ◌∙◌, subst, arith, add-one, slice_get, option_and_then, option_map, unwrap_or}
use Rattle.std.specs.List.{cons_option}
use Rattle.std.proofs.Math.Seq.{take-length}
use Rattle.std.proofs.lemmas.List.{length-map, map-append}
use Rattle.ilp_accounts.specs.Configuration.{Configuration, PlainPeer, peer_names, place_named}
use Rattle.ilp_journal.specs.declared.entry.Entry.{Entry}
use Rattle.ilp_journal.specs.declared.entry.What.{What}
use Rattle.ilp_journal.specs.declared.entry.What.TheVariants as what
use Rattle.ilp_journal.specs.declared.entry.Ask.{Ask}
use Rattle.ilp_journal.specs.declared.entry.Credited.{Credited}
use Rattle.ilp_journal.specs.Made.{filter_map_from}
use Rattle.ilp_journal.specs.Journal.{Entries, as_ask, is_unclosed}
use Rattle.ilp_journal.specs.Credits.{as_credit}
use Rattle.ilp_journal.specs.BroughtForward.{brought_forward, credited_to, earlier_balance, earlier_key, known_credit, next_place, opening_of, pending_settlement, settlement_key}
use Rattle.ilp_rules.specs.Book.{PlainBook}
use Rattle.ilp_rules.specs.Heads.{settlement_key_of}
use Rattle.ilp_next_period.specs.NextPeriod.{next_credit, next_head, next_opening, period_end, place_in_next, places_by_name}
use Rattle.ilp_follows.specs.Follows.{booked_in_head, credits_of, openings_of, settlement_from, settlement_on, settlements_of}

-- ---- lists

append_option : {X : Type 0} (o : Option X) (xs ys : List X) → cons_option o xs ++ ys ≡ cons_option o (xs ++ ys)
append_option None xs ys = refl
append_option (Some x) xs ys = refl

made_suc : {X Y : Type 0} (f : ℕ → X → Option Y) (s n : ℕ) (xs : List X)
    → filter_map_from f s (take (suc n) xs) ≡ filter_map_from f s (take n xs) ++ cons_option (option_and_then (f (s + n)) (slice_get xs n)) []
made_suc f s zero [] = refl
made_suc f s (suc n) [] = refl
made_suc f s zero (x ∷ xs) = ap (λ k. cons_option (f k x) []) (omega arith)
made_suc f s (suc n) (x ∷ xs) =
    ap (cons_option (f s x)) (made_suc f (s + 1) n xs ∙ ap (λ k. filter_map_from f (s + 1) (take n xs) ++ cons_option (option_and_then (f k) (slice_get xs n)) []) (omega arith))
    ∙ sym (append_option (f s x) (filter_map_from f (s + 1) (take n xs)) (cons_option (option_and_then (f (s + suc n)) (slice_get xs n)) []))

mapped_option : {X Y : Type 0} (h : X → Y) (o : Option X) → map h (cons_option o []) ≡ cons_option (option_map h o) []
mapped_option h None = refl
mapped_option h (Some x) = refl

-- one more place of a list
more : {X Y Z : Type 0} (h : Y → Z) (f : ℕ → X → Option Y) (n : ℕ) (xs : List X) (o : Option Y) → option_and_then (f n) (slice_get xs n) ≡ o
    → map h (filter_map_from f 0 (take (n + 1) xs)) ≡ map h (filter_map_from f 0 (take n xs)) ++ cons_option (option_map h o) []
more h f n xs o is =
    ap (λ k. map h (filter_map_from f 0 (take k xs))) (add-one n)
    ∙ ap (map h) (made_suc f 0 n xs ∙ ap (λ k. filter_map_from f 0 (take n xs) ++ cons_option (option_and_then (f k) (slice_get xs n)) []) (omega arith))
    ∙ map-append h (filter_map_from f 0 (take n xs)) (cons_option (option_and_then (f n) (slice_get xs n)) [])
    ∙ ap (λ zs. map h (filter_map_from f 0 (take n xs)) ++ zs) (mapped_option h (option_and_then (f n) (slice_get xs n)) ∙ ap (λ q. cons_option (option_map h q) []) is)

-- ---- the parts of a head

module _ (book : PlainBook) (next : Configuration) where
  abbrev j : Entries
  j = book.entries

  abbrev h : What → Entry
  h = booked_in_head book

  abbrev places : List (Option ℕ)
  places = places_by_name book.config next

  pub openings_more : (q : ℕ) → openings_of book next (q + 1) ≡ openings_of book next q ++ cons_option (option_map h (next_opening book next q)) []
  openings_more q = more h (λ k old. opening_of k (earlier_balance j old)) q places (next_opening book next q) (of (slice_get places q))
    where
      of : (o : Option (Option ℕ)) → option_and_then (λ old. opening_of q (earlier_balance j old)) o ≡ opening_of q (earlier_balance j (option_and_then (λ (old : Option ℕ). old) o))
      of None = refl
      of (Some old) = refl

  pub credits_more : (n : ℕ) → credits_of book next (n + 1) ≡ credits_of book next n ++ cons_option (option_map h (next_credit book next n)) []
  credits_more n = more h (λ _ (e : Entry). known_credit places e.what) n j (next_credit book next n) (of (slice_get j n))
    where
      of : (o : Option Entry) → option_and_then (λ (e : Entry). known_credit places e.what) o
          ≡ option_and_then (λ (c : Credited). option_map (λ q. what.Known (credited_to q c)) (place_in_next book.config next c.peer)) (option_and_then (λ (e : Entry). as_credit e.what) o)
      of None = refl
      of (Some e) = refl

  pub settlements_more : (n : ℕ) → settlements_of book next (n + 1) ≡ settlements_of book next n ++ cons_option (option_map h (settlement_on book next n)) []
  settlements_more n = more h (settlement_from book next) n j (settlement_on book next n) (of (slice_get j n) (is_unclosed j n))
    where
      of : (o : Option Entry) (b : Bool)
          → option_and_then (λ (e : Entry). cond b (option_and_then (λ (a : Ask). option_map (λ q. what.Pending q a.amount (unwrap_or (earlier_key e.what) (settlement_key_of book.config book.period n))) (place_in_next book.config next a.peer)) (as_ask e.what)) None) o
          ≡ option_and_then (λ (a : Ask). option_map (λ q. what.Pending q a.amount (unwrap_or (option_and_then (λ (e : Entry). earlier_key e.what) o) (settlement_key_of book.config book.period n))) (place_in_next book.config next a.peer)) (cond b (option_and_then (λ (e : Entry). as_ask e.what) o) None)
      of None true = refl
      of None false = refl
      of (Some e) true = refl
      of (Some e) false = refl

  -- all of them are the head
  pub all_brought : openings_of book next (length next.peers) ++ (credits_of book next (length j) ++ settlements_of book next (length j)) ≡ next_head book next (pos 0)
  unfolding brought_forward
  all_brought =
      let count : length places ≡ length next.peers = length-map (peer_names next.peers) (place_named (peer_names book.config.peers)) ∙ length-map next.peers (λ (p : PlainPeer). p.name) in
      let whole : take (length next.peers) places ≡ places = ap (λ k. take k places) (sym count) ∙ take-length places in
      let balances : List What = filter_map_from (λ k old. opening_of k (earlier_balance j old)) 0 places in
      let credits : List What = filter_map_from (λ _ (e : Entry). known_credit places e.what) 0 j in
      let settlements : List What = filter_map_from (settlement_from book next) 0 j in
      ap₂ ◌++◌ (ap (λ xs. map h (filter_map_from (λ k old. opening_of k (earlier_balance j old)) 0 xs)) whole)
      (ap₂ ◌++◌ (ap (λ xs. map h (filter_map_from (λ _ (e : Entry). known_credit places e.what) 0 xs)) (take-length j)) (ap (λ xs. map h (filter_map_from (settlement_from book next) 0 xs)) (take-length j))
      ∙ sym (map-append h credits settlements))
      ∙ sym (map-append h balances (credits ++ settlements))
