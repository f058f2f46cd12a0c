-- The book that ends, by the next configuration, and the one that it brings forward are alike.
use Rattle.std.proofs.Common.{◌≡◌, ◌⊎◌, ℕ, zero, suc, ◌+◌, ◌-◌, ◌<◌, ◌≤◌, ℤ, pos, Bool, true, false, cond, ◌&&◌, List, [], ◌∷◌, ◌++◌, length, map, Option, Some, None, inl, inr, refl, sym, ap, ap₂, ◌∙◌, subst, arith, zero-add, add-zero, IsSome, is_none, is_some, fold, unwrap_or, option_map, option_and_then, slice_get, IsNone, ◌==◌}
use Rattle.std.specs.Option.{option_or}
use Rattle.std.specs.Prelude.{◌≤ℤ◌, nat_lt}
use Rattle.std.specs.Int.{int_min, int_max}
use Rattle.std.specs.Str.{bytes_eq}
use Rattle.std.specs.Fmt.{decimal}
use Rattle.std.proofs.lemmas.Bool.{cases_lt, and_parts, lt-ltb, ltb-true, eqb-true}
use Rattle.std.proofs.lemmas.Int.{ints, clamps}
use Rattle.std.proofs.lemmas.List.{length-map}
use Rattle.std.proofs.lemmas.Option.{slice_get_within, slice_get_past}
use Rattle.std.proofs.lemmas.Slice.Eq.{bytes_eq-Decides}
use Rattle.ilp_order.specs.Places.{first_from, Each}
use Rattle.ilp_order.proofs.RefusalLemmas.{chosen, some_same}
use Rattle.ilp_terms.specs.Expiry.{last_of_all}
use Rattle.ilp_accounts.specs.Configuration.{Configuration}
use Rattle.ilp_accounts.specs.Valid.{IsValid}
use Rattle.ilp_journal.specs.declared.entry.Credited.{Credited}
use Rattle.ilp_journal.specs.declared.entry.Entry.{Entry}
use Rattle.ilp_journal.specs.declared.entry.What.{What}
use Rattle.ilp_journal.specs.declared.entry.What.TheVariants as what
use Rattle.ilp_journal.specs.declared.entry.Ask.{Ask}
use Rattle.ilp_journal.specs.Journal.{Entries, last_moment, as_hold, as_ask, answered, closed, is_number, hold_at, ask_at, answer_of, closing_of, is_unclosed, open_hold_at, open_ask_at, open_asks, AnswersOnce, ClosesOnce}
use Rattle.ilp_journal.specs.Balance.{balance}
use Rattle.ilp_journal.specs.Credits.{kept_credit, as_credit, credit_at, has_key, kept_at}
use Rattle.ilp_journal.specs.BroughtForward.{PeriodEnd, earlier_place, head_entry, earlier_balance, earlier_key, balances_brought_forward, credits_brought_forward, settlements_brought_forward, brought_forward, open_settlements}
use Rattle.ilp_journal.proofs.Naming.{answer_of_past, closing_of_past}
use Rattle.ilp_journal.proofs.Made.{Every, first_from-every_none}
use Rattle.ilp_journal.proofs.Heads.{every_brought_forward, head_answers_once, head_closes_once, head_unclosed, balance_brought_forward, credit_kept, credit_of_new, settlements_kept, settlements_of_new}
use Rattle.ilp_journal.proofs.Peers.{open_asks_are, open_asks_kept}
use Rattle.ilp_tallies.proofs.Rebasing.{total_in-none, total_out-none}
use Rattle.ilp_rules.specs.Book.{PlainBook, moment_at}
use Rattle.ilp_rules.specs.Configured.{IsKnown, peer_assets}
use Rattle.ilp_rules.specs.Heads.{period_mark, settlement_key_of}
use Rattle.ilp_rules.specs.Lawful.{IsLawful}
use Rattle.ilp_rules.specs.SettlementKeys.{settlement_key_at}
use Rattle.ilp_rules.proofs.Standing.{first_found}
use Rattle.ilp_rules.proofs.Rules.{answers_once, closes_once}
use Rattle.ilp_rules.proofs.OwnKeys.{own_keys}
use Rattle.ilp_next_period.specs.NextPeriod.{period_end, next_head, next_book}
use Rattle.ilp_alike.specs.Alike.{moved, place_there, by_config, open_under, number_before, brought_from}
use Rattle.ilp_alike.proofs.Renamed.{renamed, moved_ask, balance-renamed, balance-nobody, kept_credit-renamed, kept_credit-nobody, open_asks-renamed, open_asks-nobody, open_settlements-renamed, open_settlements-nobody, open_hold_at-renamed, open_ask_at-renamed, ask_at-renamed, earlier_key_at-renamed, answers_once-renamed, closes_once-renamed, last_moment-renamed}
use Rattle.ilp_alike.proofs.HeadPlaces.{place_there_of, settlement_stands, IsBrought, settlement_from, settlements_in_order, every-at}
use Rattle.ilp_alike.proofs.Numbered.{IsNumbering}
use Rattle.ilp_alike.proofs.AlikeJournals.{AreAlike}
use Rattle.ilp_alike.proofs.NextPlaces.{comes_from, same_there, nobody_there, listed_there}

-- the only place that passes is the first
first_only : {X : Type 0} (test : ℕ → X → Bool) (n : ℕ) (xs : List X) (i : ℕ) (x : X) → slice_get xs i ≡ Some x → test (n + i) x ≡ true
    → ((k : ℕ) (y : X) → slice_get xs k ≡ Some y → test (n + k) y ≡ true → k ≡ i) → first_from test n xs ≡ Some (n + i)
first_only test n [] i x at passes only = absurd cc
first_only test n (z ∷ xs) zero x at passes only =
    let here : test n z ≡ true = subst (λ k. test k z ≡ true) (add-zero n) (subst (λ y. test (n + zero) y ≡ true) (sym (some_same z x at)) passes) in
    ap (λ b. cond b (Some n) (first_from test (n + 1) xs)) here ∙ ap Some (sym (add-zero n))
first_only test n (z ∷ xs) (suc i) x at passes only =
    let place : n + 1 + i ≡ n + suc i = omega arith in
    by (test n z) refl
    (first_only test (n + 1) xs i x at (subst (λ k. test k x ≡ true) (sym place) passes)
    (λ k y stands passed. let next : n + 1 + k ≡ n + suc k = omega arith in let same : suc k ≡ suc i = only (suc k) y stands (subst (λ m. test m y ≡ true) next passed) in omega (arith, same))
    ∙ ap Some place)
  where
    by : (b : Bool) → test n z ≡ b → first_from test (n + 1) xs ≡ Some (n + suc i) → cond b (Some n) (first_from test (n + 1) xs) ≡ Some (n + suc i)
    by true is rest = let same : zero ≡ suc i = only zero z refl (subst (λ k. test k z ≡ true) (sym (add-zero n)) is) in absurd (omega (arith, same))
    by false is rest = rest

-- what entries of one moment end at
last_at : (t : ℤ) (a : ℤ) (xs : Entries) → a ≤ℤ t → Every (λ (e : Entry). e.moment ≡ t) xs → fold (λ _ (e : Entry). e.moment) a xs ≤ℤ t
last_at t a [] low every = low
last_at t a (e ∷ xs) low every = last_at t e.moment xs (at e.moment every.0) every.1
  where
    at : (m : ℤ) → m ≡ t → m ≤ℤ t
    at m is = omega (arith, ints, is)

module _ (book : PlainBook) (next : Configuration) (now : ℤ) (valid : IsValid book.config) (later : IsValid next) (lawful : IsLawful book) (run : next.settings.run ≡ book.config.settings.run) (closed_all : (n : ℕ) → open_hold_at book.entries n ≡ None) where
  abbrev end : PeriodEnd
  end = period_end book next now

  abbrev to : ℕ → ℕ
  to = place_there book.config next

  -- the journal before, and the head
  abbrev before : Entries
  before = renamed to book.entries

  abbrev head : Entries
  head = next_head book next now

  abbrev number : ℕ → ℕ
  number = number_before (by_config book next) (next_book book next now)

  abbrev pub IsNamed : ℕ → Type 0
  IsNamed k = IsSome (ask_at head k) ⊎ (length head ≤ k)

  -- ---- peers

  module _ (q : ℕ) (known : IsKnown next q) where
    pub balance_alike : balance head q ≡ balance before q
    balance_alike = of (earlier_place end.places q) refl
      where
        of : (o : Option ℕ) → earlier_place end.places q ≡ o → balance head q ≡ balance before q
        of None is = balance_brought_forward end book.entries q ∙ ap (earlier_balance book.entries) is ∙ sym (balance-nobody to q (nobody_there book.config next later.names q known is) book.entries)
        of (Some p) is = balance_brought_forward end book.entries q ∙ ap (earlier_balance book.entries) is ∙ sym (balance-renamed to p q (same_there book.config next later.names q known p is) book.entries)

    pub credit_alike : (key : List ℕ) → kept_credit head q key ≡ kept_credit before q key
    credit_alike key = of (earlier_place end.places q) refl
      where
        of : (o : Option ℕ) → earlier_place end.places q ≡ o → kept_credit head q key ≡ kept_credit before q key
        of None is = credit_of_new end book.entries q key is ∙ sym (kept_credit-nobody to q (nobody_there book.config next later.names q known is) book.entries key)
        of (Some p) is = credit_kept end book.entries p q key (comes_from book.config next later.names q known p is) ∙ sym (kept_credit-renamed to p q (same_there book.config next later.names q known p is) book.entries key)

    pub open_count_alike : open_asks head q ≡ open_asks before q
    open_count_alike = of (earlier_place end.places q) refl
      where
        of : (o : Option ℕ) → earlier_place end.places q ≡ o → open_asks head q ≡ open_asks before q
        of None is =
            open_asks_are end.key_of head q ∙ ap length (settlements_of_new end.key_of end book.entries q is)
            ∙ sym (open_asks-nobody to q (nobody_there book.config next later.names q known is) book.entries)
        of (Some p) is = open_asks_kept end book.entries p q (comes_from book.config next later.names q known p is) ∙ sym (open_asks-renamed to p q (same_there book.config next later.names q known p is) book.entries)

    pub settlements_alike : open_settlements (settlement_key_of next (book.period + 1)) head q ≡ open_settlements (settlement_key_of next book.period) before q
    settlements_alike = of (earlier_place end.places q) refl
      where
        of : (o : Option ℕ) → earlier_place end.places q ≡ o → open_settlements (settlement_key_of next (book.period + 1)) head q ≡ open_settlements (settlement_key_of next book.period) before q
        of None is =
            settlements_of_new (settlement_key_of next (book.period + 1)) end book.entries q is
            ∙ sym (open_settlements-nobody to q (nobody_there book.config next later.names q known is) (settlement_key_of next book.period) book.entries)
        of (Some p) is =
            settlements_kept (settlement_key_of next (book.period + 1)) end book.entries p q (comes_from book.config next later.names q known p is)
            ∙ sym (open_settlements-renamed to p q (same_there book.config next later.names q known p is) (settlement_key_of next book.period) end.key_of
            (λ n. ap (λ (r : List ℕ). (r ++ period_mark book.period) ++ decimal n) run) book.entries)

  -- ---- what names nothing

  same_length : length before ≡ length book.entries
  same_length = length-map book.entries (λ (e : Entry). record e { what = moved to e.what })

  head_has_no_hold : (k : ℕ) → hold_at head k ≡ None
  head_has_no_hold k = of (slice_get head k) refl
    where
      of : (o : Option Entry) → slice_get head k ≡ o → option_and_then (λ (e : Entry). as_hold e.what) o ≡ None
      of None is = refl
      of (Some e) is = every-at (λ (d : Entry). as_hold d.what ≡ None) head k e (every_brought_forward (λ w. as_hold w ≡ None) (λ q b. refl) (λ c. refl) (λ q amount key. refl) end book.entries) is

  head_unanswered : (k : ℕ) → answer_of head k ≡ None
  head_unanswered k =
      first_from-every_none (λ _ (e : Entry). is_number k (answered e.what)) 0 head
      (every_brought_forward (λ w. (i : ℕ) → is_number k (answered w) ≡ false) (λ q b i. refl) (λ c i. refl) (λ q amount key i. refl) end book.entries)

  head_not_closed : (k : ℕ) → closing_of head k ≡ None
  head_not_closed k =
      first_from-every_none (λ _ (e : Entry). is_number k (closed e.what)) 0 head
      (every_brought_forward (λ w. (i : ℕ) → is_number k (closed w) ≡ false) (λ q b i. refl) (λ c i. refl) (λ q amount key i. refl) end book.entries)

  head_closed_holds : (k : ℕ) → open_hold_at head k ≡ None
  head_closed_holds k = ap (λ o. cond (is_none o) (hold_at head k) None) (head_unanswered k) ∙ head_has_no_hold k

  before_closed_holds : (k : ℕ) → open_hold_at before k ≡ None
  before_closed_holds k = open_hold_at-renamed to book.entries k ∙ ap (option_map _) (closed_all k)

  answers_before : Each AnswersOnce before
  answers_before = answers_once-renamed to book.entries (answers_once book lawful)

  closes_before : Each ClosesOnce before
  closes_before = closes_once-renamed to book.entries (closes_once book lawful)

  -- ---- numbers of settlements

  open_ask_head : (k : ℕ) → open_ask_at head k ≡ ask_at head k
  open_ask_head k = ap (λ b. cond b (ask_at head k) None) (head_unclosed end book.entries k)

  key_in_head : (k : ℕ) (b : Ask) (is : IsBrought end book.entries k b) → settlement_key_at next (book.period + 1) head k ≡ settlement_key_at book.config book.period book.entries is.number
  key_in_head k b is =
      ap (λ (o : Option Entry). unwrap_or (option_and_then (λ (e : Entry). earlier_key e.what) o) (settlement_key_of next (book.period + 1) k))
      (ap (slice_get head) is.place ∙ settlement_stands end book.entries is.number is.ask b.peer is.is_open is.peer)

  key_before_is : (n : ℕ) → settlement_key_at next book.period before n ≡ settlement_key_at book.config book.period book.entries n
  key_before_is n = ap₂ (λ o (r : List ℕ). unwrap_or o ((r ++ period_mark book.period) ++ decimal n)) (earlier_key_at-renamed to book.entries n) run

  all_pass : (a b c : Bool) → a ≡ true → b ≡ true → c ≡ true → ((a && b) && c) ≡ true
  all_pass a b c one two three = rw (one, two, three) refl

  ask_before : (m : ℕ) (a : Ask) → open_ask_at book.entries m ≡ Some a → open_ask_at before m ≡ Some (moved_ask to a)
  ask_before m a is = open_ask_at-renamed to book.entries m ∙ ap (option_map (moved_ask to)) is

  -- whether an entry before opens a settlement of the key that one in the head has, and that is open
  abbrev has_its_key : ℕ → ℕ → Entry → Bool
  has_its_key k n e = (is_some (as_ask e.what) && is_unclosed before n) && bytes_eq (settlement_key_at next book.period before n) (settlement_key_at next (book.period + 1) head k)

  -- the settlement that a number in the head stands for is the only one of its key
  found_under : (k : ℕ) (b : Ask) (is : IsBrought end book.entries k b) → open_under (by_config book next) (settlement_key_at next (book.period + 1) head k) ≡ Some is.number
  found_under k b is = at (slice_get before is.number) refl parts.1
    where
      parts : (is_unclosed before is.number ≡ true) × (ask_at before is.number ≡ Some (moved_ask to is.ask))
      parts = chosen (is_unclosed before is.number) (ask_at before is.number) (moved_ask to is.ask) (ask_before is.number is.ask is.is_open)

      there : ask_at book.entries is.number ≡ Some is.ask
      there = (chosen (is_unclosed book.entries is.number) (ask_at book.entries is.number) is.ask is.is_open).1

      same_key : settlement_key_at next book.period before is.number ≡ settlement_key_at next (book.period + 1) head k
      same_key = key_before_is is.number ∙ sym (key_in_head k b is)

      of_key : (i : ℕ) → IsSome (ask_at before i) → settlement_key_at next book.period before i ≡ settlement_key_at next (book.period + 1) head k → i ≡ is.number
      of_key i some keyed = of (ask_at book.entries i) refl (subst IsSome (ask_at-renamed to book.entries i) some)
        where
          of : (o : Option Ask) → ask_at book.entries i ≡ o → IsSome (option_map (moved_ask to) o) → i ≡ is.number
          of None at some = absurd cc
          of (Some c) at some = own_keys book i is.number c is.ask valid lawful at there (sym (key_before_is i) ∙ keyed ∙ key_in_head k b is)

      only : (i : ℕ) (y : Entry) → slice_get before i ≡ Some y → has_its_key k (0 + i) y ≡ true → i ≡ is.number
      only i y stands passed =
          let here : has_its_key k i y ≡ true = subst (λ n. has_its_key k n y ≡ true) (zero-add i) passed in
          let two = and_parts (is_some (as_ask y.what) && is_unclosed before i) (bytes_eq (settlement_key_at next book.period before i) (settlement_key_at next (book.period + 1) head k)) here in
          let one = and_parts (is_some (as_ask y.what)) (is_unclosed before i) two.0 in
          of_key i (ap (λ (o : Option Entry). is_some (option_and_then (λ (e : Entry). as_ask e.what) o)) stands ∙ one.0) ((bytes_eq-Decides _ _).0 two.1)

      at : (o : Option Entry) → slice_get before is.number ≡ o → option_and_then (λ (e : Entry). as_ask e.what) o ≡ Some (moved_ask to is.ask)
          → open_under (by_config book next) (settlement_key_at next (book.period + 1) head k) ≡ Some is.number
      at None stands asks = absurd cc
      at (Some x) stands asks =
          let passes : has_its_key k is.number x ≡ true = all_pass (is_some (as_ask x.what)) (is_unclosed before is.number) (bytes_eq (settlement_key_at next book.period before is.number) (settlement_key_at next (book.period + 1) head k))
          (ap is_some asks) parts.0 ((bytes_eq-Decides _ _).1 same_key) in
          first_only (has_its_key k) 0 before is.number x stands (subst (λ n. has_its_key k n x ≡ true) (sym (zero-add is.number)) passes) only ∙ ap Some (zero-add is.number)

  -- what stands before further calls comes from what it was brought forward from
  number_low : (k : ℕ) → k < length head → number k ≡ unwrap_or (brought_from (by_config book next) (next_book book next now) k) 0
  number_low k low = ap (λ t. cond t (unwrap_or (brought_from (by_config book next) (next_book book next now) k) 0) (length before + (k - length head))) (lt-ltb k (length head) low)

  no_credit : (w : What) (a : Ask) → as_ask w ≡ Some a → as_credit w ≡ None
  no_credit (what.Hold h) a is = refl
  no_credit (what.Fulfilled hold preimage) a is = refl
  no_credit (what.Released hold cause) a is = refl
  no_credit (what.Credited c) a is = absurd cc
  no_credit (what.Asked b) a is = refl
  no_credit (what.Confirmed ask) a is = refl
  no_credit (what.Undone ask) a is = refl
  no_credit (what.Opened peer b) a is = refl
  no_credit (what.Known c) a is = absurd cc
  no_credit (what.Pending peer amount key) a is = refl

  number_in_head : (k : ℕ) (b : Ask) → k < length head → ask_at head k ≡ Some b → (is : IsBrought end book.entries k b) → number k ≡ is.number
  number_in_head k b low asked is =
      number_low k low
      ∙ ap₂ (λ (c : Option Credited) (o : Option ℕ). unwrap_or (option_or (option_and_then (λ (x : Credited). kept_at before x.peer x.key) c) o) 0) (at (slice_get head k) asked) (found_under k b is)
    where
      at : (o : Option Entry) → option_and_then (λ (e : Entry). as_ask e.what) o ≡ Some b → option_and_then (λ (e : Entry). as_credit e.what) o ≡ None
      at None asks = refl
      at (Some e) asks = no_credit e.what b asks

  number_behind : (k : ℕ) → length head ≤ k → number k ≡ length before + (k - length head)
  number_behind k high = of (nat_lt k (length head)) refl
    where
      of : (t : Bool) → nat_lt k (length head) ≡ t → cond t (unwrap_or (brought_from (by_config book next) (next_book book next now) k) 0) (length before + (k - length head)) ≡ length before + (k - length head)
      of true is = absurd (omega (arith, ltb-true k (length head) is, high))
      of false is = refl

  -- ---- credits

  found_credit : (j : Entries) (q : ℕ) (key : List ℕ) (n : ℕ) → kept_at j q key ≡ Some n → (c : Credited) × (credit_at j n ≡ Some c) × (c.peer ≡ q) × (c.key ≡ key) × (n < length j)
  found_credit j q key n is =
      let f = first_found (λ _ (e : Entry). has_key q key e.what) 0 n j is in
      let place : f.0 ≡ n = omega (arith, f.2) in
      let stands : slice_get j n ≡ Some f.1 = subst (λ k. slice_get j k ≡ Some f.1) place f.3 in
      of f.1.what (as_credit f.1.what) refl f.4 (ap (option_and_then (λ (e : Entry). as_credit e.what)) stands) (slice_get_within j n f.1 stands)
    where
      of : (w : What) (o : Option Credited) → as_credit w ≡ o → unwrap_or (option_map (λ (c : Credited). (c.peer == q) && bytes_eq c.key key) o) false ≡ true → credit_at j n ≡ as_credit w → n < length j
          → (c : Credited) × (credit_at j n ≡ Some c) × (c.peer ≡ q) × (c.key ≡ key) × (n < length j)
      of w None keeps passes at within_it = absurd cc
      of w (Some c) keeps passes at within_it =
          let parts = and_parts (c.peer == q) (bytes_eq c.key key) passes in
          (c, at ∙ keeps, eqb-true c.peer q parts.0, (bytes_eq-Decides c.key key).0 parts.1, within_it)

  kept_numbers_alike : (q : ℕ) (key : List ℕ) → IsKnown next q → option_map number (kept_at head q key) ≡ kept_at before q key
  kept_numbers_alike q key known = of (kept_at head q key) (kept_at before q key) refl refl
    where
      same : option_and_then (credit_at head) (kept_at head q key) ≡ option_and_then (credit_at before) (kept_at before q key)
      same = credit_alike q known key

      of : (o p : Option ℕ) → kept_at head q key ≡ o → kept_at before q key ≡ p → option_map number o ≡ p
      of None None is also = refl
      of None (Some n) is also =
          let c = found_credit before q key n also in
          let none : credit_at before n ≡ None = sym (ap (option_and_then (credit_at before)) also) ∙ sym same ∙ ap (option_and_then (credit_at head)) is in
          let some : credit_at before n ≡ Some c.0 = c.1 in
          absurd cc
      of (Some k) None is also =
          let c = found_credit head q key k is in
          let none : credit_at head k ≡ None = sym (ap (option_and_then (credit_at head)) is) ∙ same ∙ ap (option_and_then (credit_at before)) also in
          let some : credit_at head k ≡ Some c.0 = c.1 in
          absurd cc
      of (Some k) (Some n) is also =
          let c = found_credit head q key k is in
          let there : kept_at before c.0.peer c.0.key ≡ Some n = ap₂ (kept_at before) c.2 c.3 ∙ also in
          ap Some
          (number_low k c.4
          ∙ ap (λ (o : Option Credited). unwrap_or (option_or (option_and_then (λ (x : Credited). kept_at before x.peer x.key) o) (open_under (by_config book next) (settlement_key_at next (book.period + 1) head k))) 0) c.1
          ∙ ap (λ (o : Option ℕ). unwrap_or (option_or o (open_under (by_config book next) (settlement_key_at next (book.period + 1) head k))) 0) there)

  -- ---- settlements

  within : (j : Entries) (k : ℕ) → IsSome (ask_at j k) → k < length j
  within j k some = of (slice_get j k) refl some
    where
      of : (o : Option Entry) → slice_get j k ≡ o → IsSome (option_and_then (λ (e : Entry). as_ask e.what) o) → k < length j
      of None is some = absurd cc
      of (Some e) is some = slice_get_within j k e is

  -- what is named in the head was brought there
  record HasCome (k : ℕ) : Type 0 where
    ask : Ask
    there : ask_at head k ≡ Some ask
    brought : IsBrought end book.entries k ask
    low : k < length head
    number_is : number k ≡ brought.number
    number_low : number k < length book.entries

  has_come : (k : ℕ) → IsSome (ask_at head k) → HasCome k
  has_come k some = of (ask_at head k) refl some
    where
      of : (o : Option Ask) → ask_at head k ≡ o → IsSome o → HasCome k
      of None at some = absurd cc
      of (Some b) at some =
          let low = within head k (ap is_some at) in
          let brought = settlement_from end book.entries k b at in
          let is = number_in_head k b low at brought in
          let there = (chosen (is_unclosed book.entries brought.number) (ask_at book.entries brought.number) brought.ask brought.is_open).1 in
          record {
            ask = b;
            there = at;
            brought = brought;
            low = low;
            number_is = is;
            number_low = omega (arith, is, within book.entries brought.number (ap is_some there));
          }

  past_none : (j : Entries) (k : ℕ) → length j ≤ k → open_ask_at j k ≡ None
  past_none j k high = ap (λ (o : Option Entry). cond (is_unclosed j k) (option_and_then (λ (e : Entry). as_ask e.what) o) None) (slice_get_past j k high) ∙ either (is_unclosed j k)
    where
      either : (b : Bool) → ◌≡◌ {A = Option Ask} (cond b None None) None
      either true = refl
      either false = refl

  behind_before : (k : ℕ) → length head ≤ k → length before ≤ number k
  behind_before k high = omega (arith, number_behind k high)

  came_open : (k : ℕ) (come : HasCome k) → open_ask_at before (number k) ≡ Some come.ask
  came_open k come =
      ap (open_ask_at before) come.number_is ∙ ask_before come.brought.number come.brought.ask come.brought.is_open
      ∙ ap₂ (λ p m. let a : Ask = record { peer = p; amount = m } in Some a) (ap (λ o. unwrap_or o (length next.peers)) come.brought.peer) come.brought.amount

  asks_alike : (k : ℕ) → IsNamed k → open_ask_at head k ≡ open_ask_at before (number k)
  asks_alike k (inl some) = let come = has_come k some in open_ask_head k ∙ come.there ∙ sym (came_open k come)
  asks_alike k (inr high) = past_none head k high ∙ sym (past_none before (number k) (behind_before k high))

  no_number : (o : Option ℕ) → IsNone o → o ≡ None
  no_number None none = refl
  no_number (Some n) none = cc

  closings_alike : (k : ℕ) → IsNamed k → option_map number (closing_of head k) ≡ closing_of before (number k)
  closings_alike k (inl some) =
      let come = has_come k some in
      ap (option_map number) (head_not_closed k)
      ∙ sym (unclosed (closing_of before (number k)) (chosen (is_unclosed before (number k)) (ask_at before (number k)) come.ask (came_open k come)).0)
    where
      unclosed : (o : Option ℕ) → is_none o ≡ true → o ≡ None
      unclosed None is = refl
      unclosed (Some n) is = cc
  closings_alike k (inr high) = ap (option_map number) (head_not_closed k) ∙ sym (no_number (closing_of before (number k)) (closing_of_past before (number k) closes_before (behind_before k high)))

  found : (m : ℕ) (a : Ask) → open_ask_at before m ≡ Some a → a.peer < length next.peers → (k : ℕ) × IsNamed k × (number k ≡ m)
  found m a there known = of (open_ask_at book.entries m) refl (sym (open_ask_at-renamed to book.entries m) ∙ there)
    where
      of : (o : Option Ask) → open_ask_at book.entries m ≡ o → option_map (moved_ask to) o ≡ Some a → (k : ℕ) × IsNamed k × (number k ≡ m)
      of None is e = absurd cc
      of (Some c) is e =
          let same : moved_ask to c ≡ a = some_same (moved_ask to c) a e in
          let listed = listed_there book.config next later.names a.peer known c.peer (ap (λ (x : Ask). x.peer) same) in
          let k = place_there_of end book.entries m in
          let b : Ask = record { peer = a.peer; amount = c.amount } in
          let stands : ask_at head k ≡ Some b = ap (option_and_then (λ (e : Entry). as_ask e.what)) (settlement_stands end book.entries m c a.peer is listed) in
          let brought : IsBrought end book.entries k b = record { number = m; ask = c; is_open = is; peer = listed; amount = refl; place = refl } in
          (k, inl (ap is_some stands), number_in_head k b (within head k (ap is_some stands)) stands brought)

  found_head : (k : ℕ) (a : Ask) → open_ask_at head k ≡ Some a → IsNamed k
  found_head k a there = inl (ap is_some (sym (open_ask_head k) ∙ there))

  pub numbering : IsNumbering (length book.entries) (length head) number IsNamed
  numbering = record {
    shifted = λ k high. omega (arith, number_behind k high, same_length, high);
    below = λ k named low. of_below k named low;
    rising = rises;
    named = λ k high. inr high;
  }
    where
      of_below : (k : ℕ) → IsNamed k → k < length head → number k < length book.entries
      of_below k (inl some) low = (has_come k some).number_low
      of_below k (inr high) low = absurd (omega (arith, high, low))

      rises : (k m : ℕ) → IsNamed k → IsNamed m → k < m → number k < number m
      rises k m (inl one) (inl other) less =
          let first = has_come k one in
          let second = has_come m other in
          elim (cases_lt first.brought.number second.brought.number) [
            | inl before_it ↦ omega (arith, first.number_is, second.number_is, before_it)
            | inr behind_it ↦ absurd (omega (arith, settlements_in_order end book.entries second.brought.number first.brought.number behind_it, first.brought.place, second.brought.place, less))
          ]
      rises k m (inl one) (inr high) less = omega (arith, (has_come k one).number_low, number_behind m high, same_length)
      rises k m (inr high) (inl other) less = absurd (omega (arith, (has_come m other).low, high, less))
      rises k m (inr high) (inr above) less = omega (arith, number_behind k high, number_behind m above, less, high)

  -- ---- moments

  all_then : (t : ℤ) (ws : List What) → Every (λ (e : Entry). e.moment ≡ t) (map (head_entry t) ws)
  all_then t [] = tt
  all_then t (w ∷ ws) = (refl, all_then t ws)

  head_then : Every (λ (e : Entry). e.moment ≡ moment_at book.entries now) head
  unfolding brought_forward
  head_then = all_then (moment_at book.entries now) (balances_brought_forward end.places book.entries ++ (credits_brought_forward end.places book.entries ++ settlements_brought_forward end book.entries))

  bounds : (x last : ℤ) → (pos 0 ≤ℤ int_max (int_max (pos 0) x) last) × (last ≤ℤ int_max (int_max (pos 0) x) last)
  bounds x last = (omega (arith, ints, clamps), omega (arith, ints, clamps))

  greater : (m a b t : ℤ) → t ≤ℤ m → a ≤ℤ t → b ≤ℤ t → int_max m a ≡ int_max m b
  greater m a b t above low also = omega (arith, ints, clamps)

  moments_alike : (m : ℤ) → moment_at book.entries now ≤ℤ m → int_max m (last_moment head) ≡ int_max m (last_moment before)
  moments_alike m from =
      let two = bounds (int_min now last_of_all) (last_moment book.entries) in
      greater m (last_moment head) (last_moment before) (moment_at book.entries now) from
      (last_at (moment_at book.entries now) (pos 0) head two.0 head_then)
      (subst (λ t. t ≤ℤ moment_at book.entries now) (sym (last_moment-renamed to book.entries)) two.1)

  -- both are alike
  pub begun_alike : AreAlike (length next.peers) (peer_assets next) (length book.entries) (length head) number IsNamed (moment_at book.entries now) before head
  begun_alike = record {
    answers_before = answers_before;
    answers_after = head_answers_once end book.entries;
    closes_before = closes_before;
    closes_after = head_closes_once end book.entries;
    lengths = omega (arith, same_length);
    begun = omega arith;
    balances = balance_alike;
    totals_in = λ x. total_in-none (peer_assets next) (length head) head x (omega arith) ∙ sym (total_in-none (peer_assets next) (length book.entries) before x (omega (arith, same_length)));
    totals_out = λ x. total_out-none (peer_assets next) (length head) head x (omega arith) ∙ sym (total_out-none (peer_assets next) (length book.entries) before x (omega (arith, same_length)));
    holds = λ k high. head_closed_holds k ∙ sym (before_closed_holds (number k));
    no_holds_after = λ k low. head_closed_holds k;
    no_holds_before = λ k low. before_closed_holds k;
    answers = λ k high. ap (option_map number) (head_unanswered k) ∙ sym (no_number (answer_of before (number k)) (answer_of_past before (number k) answers_before (behind_before k high)));
    asks = asks_alike;
    closings = closings_alike;
    found_before = found;
    found_after = found_head;
    open_counts = open_count_alike;
    credits = λ q key known. credit_alike q known key;
    kept_numbers = kept_numbers_alike;
    moments = moments_alike;
  }
