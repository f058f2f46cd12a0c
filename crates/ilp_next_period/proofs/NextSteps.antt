-- The head of the next period, as it is made: what comes next, and that it may.
use Rattle.std.proofs.Common.{◌≡◌, ℕ, suc, ◌+◌, ◌-◌, ◌<◌, ◌≤◌, ℤ, Bool, true, false, cond, ◌&&◌, ◌||◌, List, [], ◌∷◌, ◌++◌, map, length, drop, get_or, Option, Some, None, refl, sym, ap, ◌∙◌, subst, arith, append-nil, append_assoc, slice_get, option_and_then, option_map, unwrap_or, is_some, IfSome, filter_map, ◌==◌}
use Rattle.std.specs.Prelude.{nat_lt, nat_le, ◌≤ℤ◌}
use Rattle.std.specs.List.{cons_option}
use Rattle.std.proofs.lemmas.Bool.{leb-true, leb-false, ltb-true, lt-ltb}
use Rattle.std.proofs.lemmas.Bool.Decides.{nat_tests}
use Rattle.std.proofs.lemmas.List.{length-map, drop_all}
use Rattle.std.proofs.lemmas.Option.{slice_get-get_or}
use Rattle.ilp_accounts.specs.Configuration.{Configuration, PlainPeer, peer_at, peer_names, place_named}
use Rattle.ilp_accounts.specs.Valid.{IsValid}
use Rattle.ilp_journal.specs.declared.entry.Entry.{Entry}
use Rattle.ilp_journal.specs.declared.entry.What.{What}
use Rattle.ilp_journal.specs.declared.entry.What.TheVariants as what
use Rattle.ilp_journal.specs.declared.entry.Ask.{Ask}
use Rattle.ilp_journal.specs.declared.entry.Credited.{Credited}
use Rattle.ilp_order.specs.Places.{first_from}
use Rattle.ilp_journal.specs.Made.{filter_map_from}
use Rattle.ilp_journal.specs.Journal.{Entries, as_ask, ask_at, is_ask_of, is_behind, is_unclosed, next_open_number, open_count, opening}
use Rattle.ilp_journal.specs.Balance.{balance}
use Rattle.ilp_journal.specs.Credits.{as_credit}
use Rattle.ilp_journal.specs.BroughtForward.{next_place, earlier_key, earlier_balance, head_entry, known_credit, credited_to, opening_of, settlement_key, pending_settlement, brought_forward}
use Rattle.ilp_journal.proofs.Heads.{opened_at, pending_at}
use Rattle.ilp_tallies.specs.Tallies.{KnowsAsk}
use Rattle.ilp_rules.specs.Book.{PlainBook, has_room, moment_at, pushed, with_entries}
use Rattle.ilp_rules.specs.Configured.{IsKnown}
use Rattle.ilp_rules.specs.CreditTables.{credit_numbers}
use Rattle.ilp_rules.specs.Heads.{settlement_key_of}
use Rattle.ilp_rules.specs.Judging.{carrying}
use Rattle.ilp_rules.specs.Lawful.{IsLawful}
use Rattle.ilp_rules.proofs.LawfulGrowth.{lawful_empty}
use Rattle.ilp_next_period.specs.NextPeriod.{HasLeft, MayFollow, lesser, behind_balances, behind_credits, handed_on, next_credit, next_head, next_open, next_opening, next_settlement, period_end, place_in_next, places_by_name}
use Rattle.ilp_next_period.proofs.NextLawful.{front_lawful, front_within, least_kept}
use Rattle.ilp_next_period.proofs.NextLists.{made-drop, mapped-drop, cons_option-append, made_by_places, made_none, made_first, first_either, first_same, first_never, mapped_same}

module _ (book : PlainBook) (next : Configuration) (now : ℤ) where
  abbrev j : Entries
  j = book.entries

  abbrev h : What → Entry
  h w = head_entry (moment_at book.entries now) w

  abbrev Left : PlainBook → List What → Type 0
  Left begun left = HasLeft book next now begun left

  -- at first all of the head is left
  pub begins : IsValid book.config → IsLawful book → IsValid next → MayFollow book next → Left (carrying next (book.period + 1)) (handed_on book next now)
  unfolding brought_forward
  begins valid lawful later may = record {
    valid = valid;
    lawful = lawful;
    later = later;
    may = may;
    begun = refl;
    front = lawful_empty (carrying next (book.period + 1)) later may.numbered;
    whole = refl;
  }

  -- in the end it is made
  pub all_made : (begun : PlainBook) → Left begun [] → begun ≡ with_entries (carrying next (book.period + 1)) (next_head book next now)
  all_made begun left = left.begun ∙ ap (with_entries (carrying next (book.period + 1))) (sym (append-nil begun.entries) ∙ left.whole)

  -- ---- an entry that comes next

  module _ (begun : PlainBook) (e : Entry) (left : List What) (has : Left begun (e.what ∷ left)) (booked : e ≡ h e.what) where
    rest : next_head book next now ≡ (begun.entries ++ e ∷ []) ++ map h left
    rest = sym has.whole ∙ ap (λ (d : Entry). begun.entries ++ d ∷ map h left) (sym booked) ∙ sym (append_assoc begun.entries (e ∷ []) (map h left))

    least : (q : ℕ) → IsKnown next q → (peer_at next q).least ≤ℤ balance (next_head book next now) q
    least = least_kept book next now has.valid has.later (λ p q known there. (has.may.peers p known).least q there)

    room_told : (more : ℕ) → has_room begun more ≡ nat_le (length begun.entries + open_count begun.entries + more) next.settings.journal
    room_told more = ap (λ (b : PlainBook). nat_le (length begun.entries + open_count begun.entries + more) b.config.settings.journal) has.begun

    pub next_is_lawful : (more : ℕ) → more ≡ 1 + opening e.what → has_room begun more ≡ true → IsLawful (pushed begun e)
    next_is_lawful more needed room =
        let fits : length begun.entries + open_count begun.entries + more ≤ next.settings.journal = leb-true _ _ (sym (room_told more) ∙ room) in
        subst (λ (b : PlainBook). IsLawful (pushed b e)) (sym has.begun)
        (front_lawful book next now has.valid has.later has.lawful has.may.run has.may.numbered begun.entries e (map h left) rest least (omega (arith, fits, needed)) (subst IsLawful has.begun has.front))

    pub next_left : IsLawful (pushed begun e) → Left (pushed begun e) left
    next_left lawful = record {
      valid = has.valid;
      lawful = has.lawful;
      later = has.later;
      may = has.may;
      begun = ap (λ (b : PlainBook). pushed b e) has.begun;
      front = lawful;
      whole = sym rest;
    }

    pub no_room : (more : ℕ) → more ≡ 1 + opening e.what → has_room begun more ≡ false → next.settings.journal < length (next_head book next now) + open_count (next_head book next now)
    no_room more needed full =
        let over : next.settings.journal < length begun.entries + open_count begun.entries + more = leb-false _ _ (sym (room_told more) ∙ full) in
        omega (arith, over, needed, front_within book next now has.valid has.later has.lawful has.may.run has.may.numbered begun.entries e (map h left) rest)

  -- ---- balances

  abbrev pub openings_left : ℕ → List What
  openings_left q = filter_map_from (opened_at j) q (drop q (places_by_name book.config next)) ++ behind_balances book next now

  places_count : length (places_by_name book.config next) ≡ length next.peers
  places_count = length-map (peer_names next.peers) (place_named (peer_names book.config.peers)) ∙ length-map next.peers (λ (p : PlainPeer). p.name)

  pub opening_next : (q : ℕ) → IsKnown next q → openings_left q ≡ cons_option (next_opening book next q) (openings_left (q + 1))
  opening_next q known =
      let places = places_by_name book.config next in
      let at = slice_get-get_or places q None (omega (arith, known, places_count)) in
      let old : Option ℕ = get_or places q None in
      ap (λ (l : List What). l ++ behind_balances book next now) (made-drop (opened_at j) places q old at)
      ∙ cons_option-append (opened_at j q old) (filter_map_from (opened_at j) (q + 1) (drop (q + 1) places)) (behind_balances book next now)
      ∙ ap (λ (o : Option (Option ℕ)). cons_option (opening_of q (earlier_balance j (option_and_then (λ (p : Option ℕ). p) o))) (openings_left (q + 1))) (sym at)

  pub openings_done : (q : ℕ) → length next.peers ≤ q → openings_left q ≡ behind_balances book next now
  openings_done q all =
      ap (λ (places : List (Option ℕ)). filter_map_from (opened_at j) q places ++ behind_balances book next now) (drop_all q (places_by_name book.config next) (omega (arith, all, places_count)))

  -- ---- credits

  abbrev pub credits_left : ℕ → List What
  credits_left i = filter_map (next_credit book next) (drop i (credit_numbers j)) ++ behind_credits book next now

  pub credits_begin : behind_balances book next now ≡ credits_left 0
  credits_begin =
      ap (λ (l : List What). l ++ behind_credits book next now)
      (made_by_places (λ (e : Entry). known_credit (places_by_name book.config next) e.what) (λ (e : Entry). is_some (as_credit e.what)) j (λ e fails. none (as_credit e.what) fails)
      ∙ mapped_same (λ k. option_and_then (λ (e : Entry). known_credit (places_by_name book.config next) e.what) (slice_get j k)) (next_credit book next) (credit_numbers j) (λ n. same (slice_get j n)))
    where
      none : (o : Option Credited) → is_some o ≡ false
          → option_and_then (λ (c : Credited). option_map (λ q. what.Known (credited_to q c)) (next_place (places_by_name book.config next) c.peer)) o ≡ None
      none None fails = refl
      none (Some c) fails = cc

      same : (o : Option Entry) → option_and_then (λ (e : Entry). known_credit (places_by_name book.config next) e.what) o
          ≡ option_and_then (λ (c : Credited). option_map (λ q. what.Known (credited_to q c)) (place_in_next book.config next c.peer)) (option_and_then (λ (e : Entry). as_credit e.what) o)
      same None = refl
      same (Some e) = refl

  pub credit_next : (i n : ℕ) → slice_get (credit_numbers j) i ≡ Some n → credits_left i ≡ cons_option (next_credit book next n) (credits_left (i + 1))
  credit_next i n at =
      ap (λ (l : List What). l ++ behind_credits book next now) (mapped-drop (next_credit book next) (credit_numbers j) i n at)
      ∙ cons_option-append (next_credit book next n) (filter_map (next_credit book next) (drop (i + 1) (credit_numbers j))) (behind_credits book next now)

  pub credits_done : (i : ℕ) → length (credit_numbers j) ≤ i → credits_left i ≡ behind_credits book next now
  credits_done i all = ap (λ (l : List ℕ). filter_map (next_credit book next) l ++ behind_credits book next now) (drop_all i (credit_numbers j) all)

  -- ---- settlements

  abbrev open_at : ℕ → Entry → Bool
  open_at n e = is_some (as_ask e.what) && is_unclosed j n

  abbrev pub settlements_left : Option ℕ → List What
  settlements_left tried = filter_map_from (λ n (e : Entry). cond (is_behind tried n) (pending_at (period_end book next now) j n e) None) 0 j

  pub settlements_begin : behind_credits book next now ≡ settlements_left None
  settlements_begin = refl

  -- nothing is made of what is not open
  not_open : (n : ℕ) (e : Entry) → open_at n e ≡ false → pending_at (period_end book next now) j n e ≡ None
  not_open n e fails = of (as_ask e.what) (is_unclosed j n) fails
    where
      of : (o : Option Ask) (b : Bool) → (is_some o && b) ≡ false
          → cond b (option_and_then (λ (a : Ask). option_map (λ q. what.Pending q a.amount (settlement_key (settlement_key_of book.config book.period) n e.what)) (next_place (places_by_name book.config next) a.peer)) o) None ≡ None
      of o false fails = refl
      of None true fails = refl
      of (Some a) true fails = cc

  onward : (tried : Option ℕ) (k m : ℕ) → is_behind tried k ≡ true → k ≤ m → is_behind tried m ≡ true
  onward None k m is later = refl
  onward (Some n) k m is later = lt-ltb n m (omega (arith, ltb-true n k is, later))

  -- what is made of the next open one
  pub settlement_next : (tried : Option ℕ) (n : ℕ) → next_open j tried ≡ Some n → settlements_left tried ≡ cons_option (next_settlement book next n) (settlements_left (Some n))
  settlement_next tried n is =
      let found = made_first (pending_at (period_end book next now) j) open_at not_open (is_behind tried) (onward tried) 0 n j is in
      let at : slice_get j n ≡ Some found.0 = subst (λ k. slice_get j k ≡ Some found.0) (omega (arith, found.2)) found.3 in
      found.5 ∙ ap (λ o. cons_option o (settlements_left (Some n))) (of found.0 at (open_both (is_some (as_ask found.0.what)) (is_unclosed j n) (is_behind tried n) found.4))
    where
      open_both : (a b c : Bool) → ((a && b) && c) ≡ true → b ≡ true
      open_both true true c is = refl
      open_both true false c is = cc
      open_both false b c is = cc

      of : (e : Entry) → slice_get j n ≡ Some e → is_unclosed j n ≡ true → pending_at (period_end book next now) j n e ≡ next_settlement book next n
      of e at unclosed =
          ap (λ b. cond b (pending_settlement (period_end book next now) n e.what) None) unclosed
          ∙ ap (λ (o : Option Entry). option_and_then (λ (a : Ask). option_map (λ q. what.Pending q a.amount (unwrap_or (option_and_then (λ (d : Entry). earlier_key d.what) o) (settlement_key_of book.config book.period n))) (place_in_next book.config next a.peer))
          (option_and_then (λ (d : Entry). as_ask d.what) o)) (sym at)

  pub settlements_done : (tried : Option ℕ) → next_open j tried ≡ None → settlements_left tried ≡ []
  settlements_done tried none = made_none (pending_at (period_end book next now) j) open_at not_open (is_behind tried) 0 j none

-- ---- which settlement is open next

-- it stands behind the one that was tried
pub next_open_behind : (j : Entries) (tried : Option ℕ) (n : ℕ) → next_open j tried ≡ Some n → (is_behind tried n ≡ true) × (n < length j)
next_open_behind j tried n is = let there = found 0 j is in (there.0, omega (arith, there.1))
  where
    behind : (a b : Bool) → (a && b) ≡ true → b ≡ true
    behind true true is = refl
    behind true false is = cc
    behind false b is = cc

    found : (s : ℕ) (es : Entries) → first_from (λ k (e : Entry). (is_some (as_ask e.what) && is_unclosed j k) && is_behind tried k) s es ≡ Some n → (is_behind tried n ≡ true) × (n < s + length es)
    found s [] is = cc
    found s (e ∷ es) is = by ((is_some (as_ask e.what) && is_unclosed j s) && is_behind tried s) refl is (found (s + 1) es)
      where
        by : (b : Bool) → ((is_some (as_ask e.what) && is_unclosed j s) && is_behind tried s) ≡ b
            → cond b (Some s) (first_from (λ k (d : Entry). (is_some (as_ask d.what) && is_unclosed j k) && is_behind tried k) (s + 1) es) ≡ Some n
            → (first_from (λ k (d : Entry). (is_some (as_ask d.what) && is_unclosed j k) && is_behind tried k) (s + 1) es ≡ Some n → (is_behind tried n ≡ true) × (n < s + 1 + length es))
            → (is_behind tried n ≡ true) × (n < s + suc (length es))
        by true passes is more =
            let same : s ≡ n = cc in
            (subst (λ k. is_behind tried k ≡ true) same (behind (is_some (as_ask e.what) && is_unclosed j s) (is_behind tried s) passes), omega (arith, same))
        by false fails is more = let later = more is in (later.0, omega (arith, later.1))

-- so fewer entries stand behind it
pub fewer_behind : (j : Entries) (tried : Option ℕ) (n : ℕ) → next_open j tried ≡ Some n → length j - n < unwrap_or (option_map (λ k. length j - k) tried) (length j + 1)
fewer_behind j None n is = omega (arith)
fewer_behind j (Some k) n is = let there = next_open_behind j (Some k) n is in omega (arith, ltb-true k n there.0, there.1)

module _ (j : Entries) (tried : Option ℕ) where
  -- whether an entry asks for a settlement to one of the first peers
  abbrev is_ask_below : ℕ → What → Bool
  is_ask_below p w = unwrap_or (option_map (λ (a : Ask). nat_lt a.peer p) (as_ask w)) false

  -- the least number of an open settlement to one of them
  abbrev pub next_below : ℕ → Option ℕ
  next_below p = first_from (λ n (e : Entry). (is_ask_below p e.what && is_unclosed j n) && is_behind tried n) 0 j

  pub below_none : next_below 0 ≡ None
  below_none = first_never (λ n (e : Entry). (is_ask_below 0 e.what && is_unclosed j n) && is_behind tried n) 0 j (λ n e. never (as_ask e.what) (is_unclosed j n) (is_behind tried n))
    where
      none_below : (q : ℕ) → nat_lt q 0 ≡ false
      none_below q = grind (arith, nat_tests)

      never : (o : Option Ask) (b c : Bool) → ((unwrap_or (option_map (λ (a : Ask). nat_lt a.peer 0) o) false && b) && c) ≡ false
      never None b c = refl
      never (Some a) b c = ap (λ t. (t && b) && c) (none_below a.peer)

  pub below_more : (p : ℕ) → lesser (next_below p) (next_open_number j p tried) ≡ next_below (p + 1)
  below_more p =
      first_either (λ n (e : Entry). (is_ask_below p e.what && is_unclosed j n) && is_behind tried n) (λ n (e : Entry). (is_ask_of p e.what && is_unclosed j n) && is_behind tried n) 0 j
      ∙ first_same (λ n (e : Entry). ((is_ask_below p e.what && is_unclosed j n) && is_behind tried n) || ((is_ask_of p e.what && is_unclosed j n) && is_behind tried n)) (λ n (e : Entry). (is_ask_below (p + 1) e.what && is_unclosed j n) && is_behind tried n) 0 j (λ k e at. of (as_ask e.what) (is_unclosed j (0 + k)) (is_behind tried (0 + k)))
    where
      joined : (a b c d : Bool) → (((a && c) && d) || ((b && c) && d)) ≡ (((a || b) && c) && d)
      joined true true true true = refl
      joined true true true false = refl
      joined true true false d = refl
      joined true false true true = refl
      joined true false true false = refl
      joined true false false d = refl
      joined false true true true = refl
      joined false true true false = refl
      joined false true false d = refl
      joined false false c d = refl

      one_more : (q : ℕ) → (nat_lt q p || (q == p)) ≡ nat_lt q (p + 1)
      one_more q = grind (arith, nat_tests)

      of : (o : Option Ask) (c d : Bool)
          → (((unwrap_or (option_map (λ (a : Ask). nat_lt a.peer p) o) false && c) && d) || ((unwrap_or (option_map (λ (a : Ask). a.peer == p) o) false && c) && d))
          ≡ ((unwrap_or (option_map (λ (a : Ask). nat_lt a.peer (p + 1)) o) false && c) && d)
      of None c d = refl
      of (Some a) c d = joined (nat_lt a.peer p) (a.peer == p) c d ∙ ap (λ b. (b && c) && d) (one_more a.peer)

  -- with all peers it is that of all
  pub below_all : (count : ℕ) → ((n : ℕ) → IfSome (ask_at j n) (KnowsAsk count)) → next_below count ≡ next_open j tried
  below_all count known = first_same (λ n (e : Entry). (is_ask_below count e.what && is_unclosed j n) && is_behind tried n) (λ n (e : Entry). (is_some (as_ask e.what) && is_unclosed j n) && is_behind tried n) 0 j (λ k e at. one (0 + k) e (as_ask e.what) refl (subst (λ (o : Option Entry). IfSome (option_and_then (λ (d : Entry). as_ask d.what) o) (KnowsAsk count)) at (known k)))
    where
      one : (n : ℕ) (e : Entry) (o : Option Ask) → as_ask e.what ≡ o → IfSome (as_ask e.what) (KnowsAsk count)
          → ((unwrap_or (option_map (λ (a : Ask). nat_lt a.peer count) (as_ask e.what)) false && is_unclosed j n) && is_behind tried n) ≡ ((is_some (as_ask e.what) && is_unclosed j n) && is_behind tried n)
      one n e None is knows = ap (λ (o : Option Ask). (unwrap_or (option_map (λ (a : Ask). nat_lt a.peer count) o) false && is_unclosed j n) && is_behind tried n) is ∙ sym (ap (λ (o : Option Ask). (is_some o && is_unclosed j n) && is_behind tried n) is)
      one n e (Some a) is knows =
          let low : nat_lt a.peer count ≡ true = lt-ltb a.peer count (subst (λ (o : Option Ask). IfSome o (KnowsAsk count)) is knows) in
          ap (λ (o : Option Ask). (unwrap_or (option_map (λ (b : Ask). nat_lt b.peer count) o) false && is_unclosed j n) && is_behind tried n) is
          ∙ ap (λ t. (t && is_unclosed j n) && is_behind tried n) low
          ∙ sym (ap (λ (o : Option Ask). (is_some o && is_unclosed j n) && is_behind tried n) is)
