-- Where an open settlement stands in the head of the next period.
use Rattle.std.proofs.Common.{◌≡◌, ℕ, zero, suc, ◌+◌, ◌-◌, ◌<◌, ◌≤◌, ℤ, pos, negsuc, Bool, true, false, cond, List, [], ◌∷◌, ◌++◌, length, Option, Some, None, inl, inr, refl, sym, ap, ap₂, ◌∙◌, subst, arith, add-zero, zero-add, append_assoc, IfSome, is_some, unwrap_or, option_map, option_and_then, slice_get}
use Rattle.std.specs.List.{cons_option}
use Rattle.std.proofs.lemmas.Bool.{cases_lt}
use Rattle.std.proofs.lemmas.Option.{slice_get-map}
use Rattle.ilp_order.proofs.RefusalLemmas.{chosen, some_same}
use Rattle.ilp_journal.specs.declared.entry.Entry.{Entry}
use Rattle.ilp_journal.specs.declared.entry.What.{What}
use Rattle.ilp_journal.specs.declared.entry.What.TheVariants as what
use Rattle.ilp_journal.specs.declared.entry.Ask.{Ask}
use Rattle.ilp_journal.specs.declared.entry.Credited.{Credited}
use Rattle.ilp_journal.specs.Made.{filter_map_from}
use Rattle.ilp_journal.specs.Journal.{Entries, as_ask, ask_at, is_unclosed, open_ask_at}
use Rattle.ilp_journal.specs.Credits.{as_credit}
use Rattle.ilp_journal.specs.BroughtForward.{PeriodEnd, next_place, head_entry, earlier_balance, opening_of, credited_to, balances_brought_forward, credits_brought_forward, settlements_brought_forward, settlement_key, pending_settlement, earlier_key, earlier_key_at, brought_forward}
use Rattle.ilp_journal.proofs.Heads.{pending_at}
use Rattle.ilp_journal.proofs.Made.{Every, every-append, every-made}

-- ---- what is made of a list, by place

module _ {X Y : Type 0} (f : ℕ → X → Option Y) where
  -- how much is made before a place
  abbrev made_before : ℕ → List X → ℕ → ℕ
  made_before n [] m = 0
  made_before n (x ∷ xs) zero = 0
  made_before n (x ∷ xs) (suc m) = cond (is_some (f n x)) 1 0 + made_before (n + 1) xs m

  behind_first : (o : Option Y) (rest : List Y) (k : ℕ) → slice_get (cons_option o rest) (cond (is_some o) 1 0 + k) ≡ slice_get rest k
  behind_first None rest k = ap (slice_get rest) (zero-add k)
  behind_first (Some y) rest k = let next : suc k ≡ 1 + k = omega arith in subst (λ i. slice_get (y ∷ rest) i ≡ slice_get rest k) next refl

  -- what is made of an element stands behind that
  made_stands : (n : ℕ) (xs : List X) (m : ℕ) (x : X) (y : Y) → slice_get xs m ≡ Some x → f (n + m) x ≡ Some y → slice_get (filter_map_from f n xs) (made_before n xs m) ≡ Some y
  made_stands n [] m x y at is = cc
  made_stands n (z ∷ xs) zero x y at is =
      let here : f n z ≡ Some y = ap (f n) (some_same z x at) ∙ subst (λ k. f k x ≡ Some y) (add-zero n) is in
      ap (λ o. slice_get (cons_option o (filter_map_from f (n + 1) xs)) 0) here
  made_stands n (z ∷ xs) (suc m) x y at is =
      let place : n + suc m ≡ n + 1 + m = omega arith in
      behind_first (f n z) (filter_map_from f (n + 1) xs) (made_before (n + 1) xs m) ∙ made_stands (n + 1) xs m x y at (subst (λ k. f k x ≡ Some y) place is)

  -- whatever is made is made of an element
  made_from : (n : ℕ) (xs : List X) (i : ℕ) (y : Y) → slice_get (filter_map_from f n xs) i ≡ Some y
      → (m : ℕ) × (x : X) × (slice_get xs m ≡ Some x) × (f (n + m) x ≡ Some y) × (made_before n xs m ≡ i)
  made_from n [] i y at = absurd cc
  made_from n (x ∷ xs) i y at = by (f n x) refl i at (made_from (n + 1) xs)
    where
      by : (o : Option Y) → f n x ≡ o → (i : ℕ) → slice_get (cons_option o (filter_map_from f (n + 1) xs)) i ≡ Some y
          → ((k : ℕ) (z : Y) → slice_get (filter_map_from f (n + 1) xs) k ≡ Some z → (m : ℕ) × (v : X) × (slice_get xs m ≡ Some v) × (f (n + 1 + m) v ≡ Some z) × (made_before (n + 1) xs m ≡ k))
          → (m : ℕ) × (v : X) × (slice_get (x ∷ xs) m ≡ Some v) × (f (n + m) v ≡ Some y) × (made_before n (x ∷ xs) m ≡ i)
      by None is i at rest =
          let r = rest i y at in
          let place : n + 1 + r.0 ≡ n + suc r.0 = omega arith in
          (suc r.0, r.1, r.2, subst (λ k. f k r.1 ≡ Some y) place r.3, ap (λ o. cond (is_some o) 1 0 + made_before (n + 1) xs r.0) is ∙ omega (arith, r.4))
      by (Some z) is zero at rest = (0, x, refl, subst (λ k. f k x ≡ Some y) (sym (add-zero n)) (is ∙ at), refl)
      by (Some z) is (suc i) at rest =
          let r = rest i y at in
          let place : n + 1 + r.0 ≡ n + suc r.0 = omega arith in
          (suc r.0, r.1, r.2, subst (λ k. f k r.1 ≡ Some y) place r.3, ap (λ o. cond (is_some o) 1 0 + made_before (n + 1) xs r.0) is ∙ omega (arith, r.4))

  -- and in order
  made_in_order : (n : ℕ) (xs : List X) (m k : ℕ) → m ≤ k → made_before n xs m ≤ made_before n xs k
  made_in_order n [] m k low = omega arith
  made_in_order n (x ∷ xs) zero k low = omega arith
  made_in_order n (x ∷ xs) (suc m) zero low = absurd (omega (arith, low))
  made_in_order n (x ∷ xs) (suc m) (suc k) low = omega (arith, made_in_order (n + 1) xs m k (omega (arith, low)))

-- ---- what stands behind a list

behind : {X : Type 0} (xs ys : List X) (i : ℕ) → slice_get (xs ++ ys) (length xs + i) ≡ slice_get ys i
behind [] ys i = ap (slice_get ys) (zero-add i)
behind (x ∷ xs) ys i = let place : suc (length xs + i) ≡ suc (length xs) + i = omega arith in subst (λ k. slice_get (x ∷ (xs ++ ys)) k ≡ slice_get ys i) place (behind xs ys i)

before : {X : Type 0} (xs ys : List X) (k : ℕ) (x : X) → k < length xs → slice_get (xs ++ ys) k ≡ Some x → slice_get xs k ≡ Some x
before [] ys k x low at = absurd (omega (arith, low))
before (z ∷ xs) ys zero x low at = at
before (z ∷ xs) ys (suc k) x low at = before xs ys k x (omega (arith, low)) at

pub every-at : {X : Type 0} (P : X → Type 0) (xs : List X) (k : ℕ) (x : X) → Every P xs → slice_get xs k ≡ Some x → P x
every-at P [] k x every at = absurd cc
every-at P (z ∷ xs) zero x every at = subst P (some_same z x at) every.0
every-at P (z ∷ xs) (suc k) x every at = every-at P xs k x every.1 at

-- ---- settlements in a head

module _ (end : PeriodEnd) (j : Entries) where
  -- what stands before them
  abbrev front : List What
  front = balances_brought_forward end.places j ++ credits_brought_forward end.places j

  -- the place there of the settlement that the entry m opens
  abbrev pub place_there_of : ℕ → ℕ
  place_there_of m = length front + made_before (pending_at end j) 0 j m

  no_asks : Every (λ w. as_ask w ≡ None) front
  no_asks =
      every-append (λ w. as_ask w ≡ None) (balances_brought_forward end.places j) _ (every-made (λ w. as_ask w ≡ None) _ 0 end.places (λ q old. balances q (earlier_balance j old)))
      (every-made (λ w. as_ask w ≡ None) _ 0 j (λ n e. credits (as_credit e.what)))
    where
      balances : (q : ℕ) (b : ℤ) → IfSome (opening_of q b) (λ w. as_ask w ≡ None)
      balances q (pos zero) = tt
      balances q (pos (suc n)) = refl
      balances q (negsuc n) = refl

      placed : (c : Credited) (o : Option ℕ) → IfSome (option_map (λ q. what.Known (credited_to q c)) o) (λ w. as_ask w ≡ None)
      placed c None = tt
      placed c (Some q) = refl

      credits : (o : Option Credited) → IfSome (option_and_then (λ (c : Credited). option_map (λ q. what.Known (credited_to q c)) (next_place end.places c.peer)) o) (λ w. as_ask w ≡ None)
      credits None = tt
      credits (Some c) = placed c (next_place end.places c.peer)

  head_at : (k : ℕ) → slice_get (brought_forward end j) k ≡ option_map (head_entry end.moment) (slice_get (front ++ settlements_brought_forward end j) k)
  unfolding brought_forward
  head_at k =
      slice_get-map (head_entry end.moment) (balances_brought_forward end.places j ++ (credits_brought_forward end.places j ++ settlements_brought_forward end j)) k
      ∙ ap (λ (l : List What). option_map (head_entry end.moment) (slice_get l k)) (sym (append_assoc (balances_brought_forward end.places j) (credits_brought_forward end.places j) (settlements_brought_forward end j)))

  -- the key of a settlement
  abbrev pub key_before : ℕ → List ℕ
  key_before m = unwrap_or (earlier_key_at j m) (end.key_of m)

  -- an open settlement of a peer that stays stands there
  pub settlement_stands : (m : ℕ) (a : Ask) (q : ℕ) → open_ask_at j m ≡ Some a → next_place end.places a.peer ≡ Some q
      → slice_get (brought_forward end j) (place_there_of m) ≡ Some (head_entry end.moment (what.Pending q a.amount (key_before m)))
  settlement_stands m a q is there =
      let parts : (is_unclosed j m ≡ true) × (ask_at j m ≡ Some a) = chosen (is_unclosed j m) (ask_at j m) a is in
      at (slice_get j m) refl parts.0 parts.1
    where
      made : (e : Entry) → slice_get j m ≡ Some e → is_unclosed j m ≡ true → as_ask e.what ≡ Some a → pending_at end j (0 + m) e ≡ Some (what.Pending q a.amount (settlement_key end.key_of m e.what))
      made e stands unclosed asks =
          let P : ℕ → Type 0 = λ k. pending_at end j k e ≡ Some (what.Pending q a.amount (settlement_key end.key_of k e.what)) in
          let here : P m = ap (λ b. cond b (pending_settlement end m e.what) None) unclosed
          ∙ ap (option_and_then (λ (x : Ask). option_map (λ r. what.Pending r x.amount (settlement_key end.key_of m e.what)) (next_place end.places x.peer))) asks
          ∙ ap (option_map (λ r. what.Pending r a.amount (settlement_key end.key_of m e.what))) there in
          subst (λ k. pending_at end j k e ≡ Some (what.Pending q a.amount (settlement_key end.key_of m e.what))) (sym (zero-add m)) here

      at : (o : Option Entry) → slice_get j m ≡ o → is_unclosed j m ≡ true → option_and_then (λ (e : Entry). as_ask e.what) o ≡ Some a
          → slice_get (brought_forward end j) (place_there_of m) ≡ Some (head_entry end.moment (what.Pending q a.amount (key_before m)))
      at None stands unclosed asks = cc
      at (Some e) stands unclosed asks =
          let key : settlement_key end.key_of m e.what ≡ key_before m = ap (λ (o : Option Entry). unwrap_or (option_and_then (λ (d : Entry). earlier_key d.what) o) (end.key_of m)) (sym stands) in
          head_at (place_there_of m)
          ∙ ap (option_map (head_entry end.moment))
          (behind front (settlements_brought_forward end j) (made_before (pending_at end j) 0 j m)
          ∙ made_stands (pending_at end j) 0 j m e (what.Pending q a.amount (settlement_key end.key_of m e.what)) stands (made e stands unclosed asks))
          ∙ ap (λ k. Some (head_entry end.moment (what.Pending q a.amount k))) key

  -- a settlement of an earlier period that stands in a head
  pub record IsBrought (k : ℕ) (b : Ask) : Type 0 where
    pub number : ℕ
    pub ask : Ask
    pub is_open : open_ask_at j number ≡ Some ask
    pub peer : next_place end.places ask.peer ≡ Some b.peer
    pub amount : ask.amount ≡ b.amount
    pub place : k ≡ place_there_of number

  -- each settlement there was open
  pub settlement_from : (k : ℕ) (b : Ask) → ask_at (brought_forward end j) k ≡ Some b → IsBrought k b
  settlement_from k b is = at (slice_get (front ++ settlements_brought_forward end j) k) refl (sym (ap (option_and_then (λ (e : Entry). as_ask e.what)) (head_at k)) ∙ is)
    where
      brought : (i m : ℕ) (e : Entry) (w : What) (c : Bool) (o : Option Ask) → is_unclosed j m ≡ c → as_ask e.what ≡ o → slice_get j m ≡ Some e
          → cond c (option_and_then (λ (x : Ask). option_map (λ r. what.Pending r x.amount (settlement_key end.key_of m e.what)) (next_place end.places x.peer)) o) None ≡ Some w
          → as_ask w ≡ Some b → k ≡ place_there_of m → IsBrought k b
      brought i m e w false o open_now asks stands made is place = absurd cc
      brought i m e w true None open_now asks stands made is place = absurd cc
      brought i m e w true (Some a) open_now asks stands made is place = of (next_place end.places a.peer) refl made
        where
          of : (r : Option ℕ) → next_place end.places a.peer ≡ r → option_map (λ r. what.Pending r a.amount (settlement_key end.key_of m e.what)) r ≡ Some w → IsBrought k b
          of None there made = absurd cc
          of (Some q) there made =
              let same : what.Pending q a.amount (settlement_key end.key_of m e.what) ≡ w = some_same _ w made in
              let b_is : (let x : Ask = record { peer = q; amount = a.amount } in x) ≡ b = some_same _ b (ap as_ask same ∙ is) in
              record {
                number = m;
                ask = a;
                is_open = ap₂ (λ c o. cond c o None) open_now (ap (option_and_then (λ (d : Entry). as_ask d.what)) stands ∙ asks);
                peer = there ∙ ap (λ (x : Ask). Some x.peer) b_is;
                amount = ap (λ (x : Ask). x.amount) b_is;
                place = place;
              }

      at : (o : Option What) → slice_get (front ++ settlements_brought_forward end j) k ≡ o → option_and_then (λ (e : Entry). as_ask e.what) (option_map (head_entry end.moment) o) ≡ Some b → IsBrought k b
      at None stands is = absurd cc
      at (Some w) stands is = elim (cases_lt k (length front)) [
        | inl low ↦ let none : as_ask w ≡ None = every-at (λ x. as_ask x ≡ None) front k w no_asks (before front (settlements_brought_forward end j) k w low stands) in absurd cc
        | inr high ↦
            let place : length front + (k - length front) ≡ k = omega (arith, high) in
            let there : slice_get (settlements_brought_forward end j) (k - length front) ≡ Some w
            = sym (behind front (settlements_brought_forward end j) (k - length front)) ∙ ap (slice_get (front ++ settlements_brought_forward end j)) place ∙ stands in
            let r = made_from (pending_at end j) 0 j (k - length front) w there in
            let made : pending_at end j r.0 r.1 ≡ Some w = subst (λ i. pending_at end j i r.1 ≡ Some w) (zero-add r.0) r.3 in
            brought 0 r.0 r.1 w (is_unclosed j r.0) (as_ask r.1.what) refl refl r.2 made is (omega (arith, r.4, place))
      ]

  -- and they stand in order
  pub settlements_in_order : (m k : ℕ) → m ≤ k → place_there_of m ≤ place_there_of k
  settlements_in_order m k low = omega (arith, made_in_order (pending_at end j) 0 j m k low)
