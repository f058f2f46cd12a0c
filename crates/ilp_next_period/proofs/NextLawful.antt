-- The book of the next period is lawful, and so is each front of its head.
use Rattle.std.proofs.Common.{◌≡◌, ◌⊎◌, inl, inr, ℕ, zero, suc, ◌+◌, ◌<◌, ◌≤◌, ◌^◌, ℤ, pos, ◌+ℤ◌, ◌-ℤ◌, Bool, true, false, cond, List, [], ◌∷◌, ◌++◌, length, Option, Some, None, refl, sym, ap, ◌∙◌, subst, arith, append-nil, append_assoc, length-append, slice_get, option_and_then, ◌==◌, IsTrue}
use Rattle.std.specs.Prelude.{◌≤ℤ◌, IfSome, IsSome, IsNone}
use Rattle.std.proofs.lemmas.Bool.{eq-eqb}
use Rattle.std.proofs.lemmas.Int.{ints}
use Rattle.ilp_accounts.specs.Configuration.{Configuration, peer_at}
use Rattle.ilp_accounts.specs.Valid.{IsValid}
use Rattle.ilp_journal.specs.declared.entry.Entry.{Entry}
use Rattle.ilp_journal.specs.declared.entry.What.{What}
use Rattle.ilp_journal.specs.declared.entry.What.TheVariants as what
use Rattle.ilp_journal.specs.declared.entry.Hold.{Hold}
use Rattle.ilp_order.specs.Places.{Each, EachAfter}
use Rattle.ilp_journal.specs.Journal.{Entries, AnswersOnce, ClosesOnce, as_hold, is_unanswered, open_hold_at, hold_at, ask_at, answer_of, closing_of, answered, closed, open_count, opening, closing}
use Rattle.ilp_journal.specs.Balance.{above, below, balance, rise, fall}
use Rattle.ilp_journal.specs.BroughtForward.{earlier_place, earlier_balance, is_brought_forward, KeepsHeadRule}
use Rattle.ilp_order.proofs.Sums.{by_push, Each-parts, Each-each, Each-both}
use Rattle.ilp_journal.proofs.Made.{Every, each-every}
use Rattle.ilp_journal.proofs.Growth.{balance-push, open_count-push}
use Rattle.ilp_journal.proofs.HeadRules.{head_keeps}
use Rattle.ilp_journal.proofs.HeadSteps.{head_reached}
use Rattle.ilp_journal.proofs.Heads.{net, balance_brought_forward, every_brought_forward}
use Rattle.ilp_rules.specs.Book.{PlainBook, pushed, with_entries}
use Rattle.ilp_rules.specs.Configured.{IsKnown}
use Rattle.ilp_rules.specs.Heads.{most_open_asks, IsHead, KeepsKeyRule, StandsInHead}
use Rattle.ilp_rules.specs.Judging.{behind_all, carrying, KeepsLimits}
use Rattle.ilp_rules.specs.Lawful.{IsLawful, IsInTime, KeepsRule}
use Rattle.ilp_rules.proofs.Judging.{comes_before, judged_good}
use Rattle.ilp_rules.proofs.Known.{peer_valid}
use Rattle.ilp_rules.proofs.LawfulGrowth.{lawful_empty}
use Rattle.ilp_rules.proofs.Rebasing.{lawful_behind}
use Rattle.ilp_rules.proofs.Rules.{answers_once, closes_once}
use Rattle.ilp_next_period.specs.NextPeriod.{period_end, next_head, next_book, places_by_name, place_in_next, HasRoomForHead}
use Rattle.ilp_next_period.proofs.NextHeads.{each_all, fresh_keys, asks_within, head_keys, head_in_time}
use Rattle.ilp_next_period.proofs.PeerNames.{earlier_stands, places_few}

-- ---- facts of each element

-- what holds of an element holds where it stands
each_at : {X : Type 0} (P : List X → X → Type 0) (before front : List X) (x : X) (rest : List X) → EachAfter P before ((front ++ x ∷ []) ++ rest) → P (before ++ front) x
each_at P before [] x rest each = subst (λ l. P l x) (sym (append-nil before)) each.0
each_at P before (y ∷ ys) x rest each = subst (λ l. P l x) (append_assoc before (y ∷ []) ys) (each_at P (before ++ y ∷ []) ys x rest each.1)

-- facts for each of many hold together
each_for : {I X : Type 0} (P : I → List X → X → Type 0) (before xs : List X) → ((i : I) → EachAfter (P i) before xs) → EachAfter (λ b x. (i : I) → P i b x) before xs
each_for P before [] each = tt
each_for P before (x ∷ xs) each = (λ i. (each i).0, each_for P (before ++ x ∷ []) xs (λ i. (each i).1))

-- ---- the head

module _ (book : PlainBook) (next : Configuration) (now : ℤ) (valid : IsValid book.config) (later : IsValid next) (lawful : IsLawful book)
    (run : next.settings.run ≡ book.config.settings.run) (numbered : book.period + 1 < 2 ^ 32) where
  abbrev head : Entries
  head = next_head book next now

  abbrev so_far : Entries → PlainBook
  so_far before = with_entries (carrying next (book.period + 1)) before

  -- what is known of an entry of the head and those before it
  record IsStep (before : Entries) (e : Entry) : Type 0 where
    kind : IsTrue (is_brought_forward e.what)
    front : IsHead before
    rule : KeepsHeadRule (length next.peers) most_open_asks before e.what
    keys : KeepsKeyRule next (book.period + 1) before e.what
    timely : IsInTime before e
    reached : (q : ℕ) → (balance (before ++ e ∷ []) q ≡ pos 0) ⊎ (balance (before ++ e ∷ []) q ≡ balance head q)

  steps : Each IsStep head
  steps =
      let end = period_end book next now in
      let kinds : Every (λ (e : Entry). IsTrue (is_brought_forward e.what)) head
      = every_brought_forward (λ w. IsTrue (is_brought_forward w)) (λ q b. refl) (λ c. refl) (λ q amount key. refl) end book.entries in
      let rules = head_keeps (length next.peers) most_open_asks end book.entries (places_few book.config next) (fresh_keys book valid lawful) (asks_within book valid lawful) in
      let keys = head_keys book next now valid lawful run in
      let timely = head_in_time book next now valid lawful run in
      let reached = each_for (λ (q : ℕ) before (e : Entry). (balance (before ++ e ∷ []) q ≡ pos 0) ⊎ (balance (before ++ e ∷ []) q ≡ balance head q)) [] head (λ q. head_reached end book.entries q) in
      Each-each _ IsStep head (λ before e f. record { kind = f.0.0; front = f.0.1; rule = f.1.0; keys = f.1.1.0; timely = f.1.1.1.0; reached = f.1.1.1.1 })
      (Each-both _ _ head
      (Each-both _ _ head (each-every (λ (e : Entry). IsTrue (is_brought_forward e.what)) (λ _ (e : Entry). IsTrue (is_brought_forward e.what)) [] head (λ _ e is. is) kinds) (each_all (λ (e : Entry). IsTrue (is_brought_forward e.what)) head kinds))
      (Each-both _ _ head rules (Each-both _ _ head keys (Each-both _ _ head timely reached))))

  -- a limit that holds of what is brought forward
  abbrev pub KeepsLeast : Type 0
  KeepsLeast = (q : ℕ) → IsKnown next q → (peer_at next q).least ≤ℤ balance head q

  -- there is room for an entry, and for what closes it
  abbrev pub HasRoomAt : Entries → Entry → Type 0
  HasRoomAt before e = length before + open_count before + 1 + opening e.what ≤ next.settings.journal

  -- an entry of the head may come next
  step_lawful : (before : Entries) (e : Entry) → IsStep before e → KeepsLeast → HasRoomAt before e → IsLawful (so_far before) → IsLawful (pushed (so_far before) e)
  step_lawful before e step least room front =
      judged_good (so_far before) e later front refl step.timely (rule e.what step.kind step.rule step.keys) (limits e.what refl step.kind step.rule room)
    where
      stands : (w : What) → KeepsHeadRule (length next.peers) most_open_asks before w → KeepsKeyRule next (book.period + 1) before w → StandsInHead next (book.period + 1) behind_all before w
      stands w rule keys = record { later = omega arith; front = step.front; begun = comes_before (so_far before) later front; rule = rule; keys = keys }

      rule : (w : What) → IsTrue (is_brought_forward w) → KeepsHeadRule (length next.peers) most_open_asks before w → KeepsKeyRule next (book.period + 1) before w
          → KeepsRule next (book.period + 1) behind_all before e.moment w
      rule (what.Hold h) kind keeps keys = absurd cc
      rule (what.Fulfilled hold preimage) kind keeps keys = absurd cc
      rule (what.Released hold cause) kind keeps keys = absurd cc
      rule (what.Credited c) kind keeps keys = absurd cc
      rule (what.Asked a) kind keeps keys = absurd cc
      rule (what.Confirmed ask) kind keeps keys = absurd cc
      rule (what.Undone ask) kind keeps keys = absurd cc
      rule (what.Opened q b) kind keeps keys = stands (what.Opened q b) keeps keys
      rule (what.Known c) kind keeps keys = stands (what.Known c) keeps keys
      rule (what.Pending q amount key) kind keeps keys = stands (what.Pending q amount key) keeps keys

      -- the balance behind an opening
      opened : (q : ℕ) (b : ℤ) → e.what ≡ what.Opened q b → balance (before ++ e ∷ []) q ≡ balance before q +ℤ b
      opened q b is =
          let answers : AnswersOnce before e = subst (λ (w : What). IfSome (answered w) (λ n. IsSome (hold_at before n) × IsNone (answer_of before n))) (sym is) tt in
          let closes : ClosesOnce before e = subst (λ (w : What). IfSome (closed w) (λ n. IsSome (ask_at before n) × IsNone (closing_of before n))) (sym is) tt in
          let moved = balance-push before e q (answers_once (so_far before) front) (closes_once (so_far before) front) answers closes in
          let moved_by : balance (before ++ e ∷ []) q ≡ balance before q +ℤ pos (cond (q == q) (above b) 0) -ℤ pos (cond (q == q) (below b) 0)
          = moved ∙ ap (λ (w : What). balance before q +ℤ pos (rise before q w) -ℤ pos (fall q w)) is in
          let moved_here : balance (before ++ e ∷ []) q ≡ balance before q +ℤ pos (above b) -ℤ pos (below b)
          = moved_by ∙ ap (λ t. balance before q +ℤ pos (cond t (above b) 0) -ℤ pos (cond t (below b) 0)) (eq-eqb q q refl) in
          joined (balance (before ++ e ∷ []) q) (balance before q) b (pos (above b)) (pos (below b)) moved_here (net b)
        where
          joined : (after owed b up down : ℤ) → after ≡ owed +ℤ up -ℤ down → up -ℤ down ≡ b → after ≡ owed +ℤ b
          joined after owed b up down is nets = omega (arith, ints, is, nets)

      enough : (l after whole owed b : ℤ) → l ≤ℤ pos 0 → l ≤ℤ whole → (after ≡ pos 0) ⊎ (after ≡ whole) → after ≡ owed +ℤ b → l ≤ℤ (owed +ℤ b)
      enough l after whole owed b low high (inl is) sum = omega (arith, ints, low, is, sum)
      enough l after whole owed b low high (inr is) sum = omega (arith, ints, high, is, sum)

      limits : (w : What) → e.what ≡ w → IsTrue (is_brought_forward w) → KeepsHeadRule (length next.peers) most_open_asks before w → length before + open_count before + 1 + opening e.what ≤ next.settings.journal
          → KeepsLimits (so_far before) w
      limits (what.Hold h) is kind keeps room = absurd cc
      limits (what.Fulfilled hold preimage) is kind keeps room = tt
      limits (what.Released hold cause) is kind keeps room = tt
      limits (what.Credited c) is kind keeps room = absurd cc
      limits (what.Asked a) is kind keeps room = absurd cc
      limits (what.Confirmed ask) is kind keeps room = tt
      limits (what.Undone ask) is kind keeps room = tt
      limits (what.Opened q b) is kind keeps room = (
        omega (arith, room),
        enough (peer_at next q).least (balance (before ++ e ∷ []) q) (balance head q) (balance before q) b (peer_valid next q later keeps.0).least (least q keeps.0) (step.reached q) (opened q b is),
      )
      limits (what.Known c) is kind keeps room = omega (arith, room)
      limits (what.Pending q amount key) is kind keeps room = omega (arith, room, ap opening is)

  -- so each front of it is lawful, where it has room
  pub front_lawful : (front : Entries) (e : Entry) (rest : Entries) → head ≡ (front ++ e ∷ []) ++ rest → KeepsLeast → HasRoomAt front e → IsLawful (so_far front) → IsLawful (pushed (so_far front) e)
  front_lawful front e rest whole least room before =
      step_lawful front e (each_at IsStep [] front e rest (subst (Each IsStep) whole steps)) least room before

  -- what the entries of a head and the closings that they await come to grows with each
  grows : (before : Entries) (e : Entry) → Each IsStep before → IsStep before e
      → length (before ++ e ∷ []) + open_count (before ++ e ∷ []) ≡ length before + open_count before + 1 + opening e.what
  grows before e each step =
      omega (
        arith,
        length-append before (e ∷ []),
        open_count-push before e (Each-each IsStep AnswersOnce before (λ b d s. (plain b d s.kind).0) each) (Each-each IsStep ClosesOnce before (λ b d s. (plain b d s.kind).1.0) each)
            (plain before e step.kind).0 (plain before e step.kind).1.0,
        (plain before e step.kind).1.1,
      )
    where
      plain : (b : Entries) (d : Entry) → IsTrue (is_brought_forward d.what) → AnswersOnce b d × (ClosesOnce b d × (closing d.what ≡ 0))
      plain b d kind = of d.what kind
        where
          of : (w : What) → IsTrue (is_brought_forward w)
              → IfSome (answered w) (λ n. IsSome (hold_at b n) × IsNone (answer_of b n)) × (IfSome (closed w) (λ n. IsSome (ask_at b n) × IsNone (closing_of b n)) × (closing w ≡ 0))
          of (what.Hold h) kind = absurd cc
          of (what.Fulfilled hold preimage) kind = absurd cc
          of (what.Released hold cause) kind = absurd cc
          of (what.Credited c) kind = absurd cc
          of (what.Asked a) kind = absurd cc
          of (what.Confirmed ask) kind = absurd cc
          of (what.Undone ask) kind = absurd cc
          of (what.Opened q b) kind = (tt, (tt, refl))
          of (what.Known c) kind = (tt, (tt, refl))
          of (what.Pending q amount key) kind = (tt, (tt, refl))

  -- a front comes to no more than the whole
  pub front_within : (front : Entries) (e : Entry) (rest : Entries) → head ≡ (front ++ e ∷ []) ++ rest
      → length front + open_count front + 1 + opening e.what ≤ length head + open_count head
  front_within front e rest whole =
      let all : Each IsStep ((front ++ e ∷ []) ++ rest) = subst (Each IsStep) whole steps in
      let parts : Each IsStep front × IsStep front e = Each-parts IsStep front e (each_front (front ++ e ∷ []) rest all) in
      let grown = grows front e parts.0 parts.1 in
      subst (λ (l : Entries). length front + open_count front + 1 + opening e.what ≤ length l + open_count l) (sym whole)
      (omega (arith, grown, onward (front ++ e ∷ []) rest all))
    where
      -- what holds of each holds of those in front
      each_front : (xs ys : Entries) → Each IsStep (xs ++ ys) → Each IsStep xs
      each_front xs ys each = by_push Kept none more ys each
        where
          Kept : Entries → Type 0
          Kept l = Each IsStep (xs ++ l) → Each IsStep xs

          none : Kept []
          none f = subst (Each IsStep) (append-nil xs) f

          more : (l : Entries) (x : Entry) → Kept l → Kept (l ++ x ∷ [])
          more l x before f = before (Each-parts IsStep (xs ++ l) x (subst (Each IsStep) (sym (append_assoc xs l (x ∷ []))) f)).0

      onward : (xs ys : Entries) → Each IsStep (xs ++ ys) → length xs + open_count xs ≤ length (xs ++ ys) + open_count (xs ++ ys)
      onward xs ys each = by_push Grows none more ys each
        where
          Grows : Entries → Type 0
          Grows l = Each IsStep (xs ++ l) → length xs + open_count xs ≤ length (xs ++ l) + open_count (xs ++ l)

          none : Grows []
          none f = subst (λ (l : Entries). length xs + open_count xs ≤ length l + open_count l) (sym (append-nil xs)) (omega arith)

          more : (l : Entries) (x : Entry) → Grows l → Grows (l ++ x ∷ [])
          more l x before f =
              let parts : Each IsStep (xs ++ l) × IsStep (xs ++ l) x = Each-parts IsStep (xs ++ l) x (subst (Each IsStep) (sym (append_assoc xs l (x ∷ []))) f) in
              subst (λ (k : Entries). length xs + open_count xs ≤ length k + open_count k) (append_assoc xs l (x ∷ []))
              (omega (arith, before parts.0, grows (xs ++ l) x parts.0 parts.1))

  -- so all of it is lawful, where that has room
  pub head_lawful : KeepsLeast → HasRoomForHead book next now → IsLawful (so_far head)
  head_lawful least room = by_push Fine (λ rest whole. lawful_empty (carrying next (book.period + 1)) later numbered) more head [] (sym (append-nil head))
    where
      Fine : Entries → Type 0
      Fine front = (rest : Entries) → head ≡ front ++ rest → IsLawful (so_far front)

      more : (front : Entries) (e : Entry) → Fine front → Fine (front ++ e ∷ [])
      more front e before rest whole =
          front_lawful front e rest whole least (omega (arith, room, front_within front e rest whole)) (before (e ∷ rest) (whole ∙ append_assoc front (e ∷ []) rest))

  pub next_lawful : KeepsLeast → HasRoomForHead book next now → IsLawful (next_book book next now)
  next_lawful least room =
      lawful_behind (so_far head) (length head) (omega arith) (head_lawful least room)

-- ---- balances and least ones

-- each balance that is brought forward is at least its least, where those of the book are
pub least_kept : (book : PlainBook) (next : Configuration) (now : ℤ) → IsValid book.config → IsValid next
    → ((p q : ℕ) → IsKnown book.config p → place_in_next book.config next p ≡ Some q → (peer_at next q).least ≤ℤ balance book.entries p)
    → (q : ℕ) → IsKnown next q → (peer_at next q).least ≤ℤ balance (next_head book next now) q
least_kept book next now valid later least q known =
    subst (λ (b : ℤ). (peer_at next q).least ≤ℤ b) (sym (balance_brought_forward (period_end book next now) book.entries q))
    (of (earlier_place (places_by_name book.config next) q) refl)
  where
    of : (o : Option ℕ) → earlier_place (places_by_name book.config next) q ≡ o → (peer_at next q).least ≤ℤ earlier_balance book.entries o
    of None is = (peer_valid next q later known).least
    of (Some p) is = let there = earlier_stands book.config next valid later q p known is in least p q there.0 there.1

-- no hold is open in a head
pub no_holds : (book : PlainBook) (next : Configuration) (now : ℤ) (n : ℕ) → open_hold_at (next_head book next now) n ≡ None
no_holds book next now n =
    ap (λ (o : Option Hold). cond (is_unanswered (next_head book next now) n) o None)
    (of (slice_get (next_head book next now) n) (at n (next_head book next now) (every_brought_forward (λ w. as_hold w ≡ None) (λ q b. refl) (λ c. refl) (λ q amount key. refl) (period_end book next now) book.entries)))
    ∙ nothing (is_unanswered (next_head book next now) n)
  where
    nothing : (b : Bool) → ◌≡◌ {A = Option Hold} (cond b None None) None
    nothing true = refl
    nothing false = refl

    at : (k : ℕ) (es : Entries) → Every (λ (e : Entry). as_hold e.what ≡ None) es → IfSome (slice_get es k) (λ (e : Entry). as_hold e.what ≡ None)
    at k [] every = tt
    at zero (e ∷ es) every = every.0
    at (suc k) (e ∷ es) every = at k es every.1

    of : (o : Option Entry) → IfSome o (λ (e : Entry). as_hold e.what ≡ None) → option_and_then (λ (e : Entry). as_hold e.what) o ≡ None
    of None none = refl
    of (Some e) none = none
