-- Which settlements to a peer are open: their count, and the first of them.
use Rattle.std.proofs.Common.{◌≡◌, ℕ, ◌+◌, ◌<◌, Bool, true, false, cond, ◌&&◌, List, [], ◌∷◌, Option, Some, None, refl, ap, ◌∙◌, subst, arith}
use Rattle.std.specs.Prelude.{nat_lt, ◌==◌, unwrap_or, option_map, option_and_then, IsSome}
use Rattle.std.specs.Option.{option_or}
use Rattle.std.proofs.lemmas.Bool.{ltb-true}
use Rattle.ilp_journal.specs.declared.entry.Entry.{Entry}
use Rattle.ilp_journal.specs.declared.entry.What.{What}
use Rattle.ilp_journal.specs.declared.entry.Ask.{Ask}
use Rattle.ilp_order.specs.Places.{sum_from, first_from}
use Rattle.ilp_journal.specs.Journal.{Entries, ask_at, as_ask, is_unclosed, open_asks, paid_to, is_ask_of, is_behind, next_open_number, next_open_ask}
use Rattle.ilp_book.specs.declared.fault.AskFault.{AskFault}
use Rattle.ilp_book.specs.declared.fault.AskFault.TheVariants as ask_fault
use Rattle.ilp_rules.specs.Lawful.{most_open_asks}
use Rattle.ilp_book.specs.SettleStep.{still_open, told_ask, open_settlement}
use Rattle.ilp_order.proofs.RefusalLemmas.{some_same}
use Rattle.ilp_rules.proofs.Standing.{first_found}

-- a sum of nothing but terms that pass no test
sum_from-none : {X : Type 0} (test : ℕ → X → Bool) (f : ℕ → X → ℕ) (n : ℕ) (xs : List X) → ((k : ℕ) (x : X) → test k x ≡ false → f k x ≡ 0) → first_from test n xs ≡ None → sum_from f n xs ≡ 0
sum_from-none test f n [] none e = refl
sum_from-none test f n (x ∷ xs) none e =
    let failed : (test n x ≡ false) × (first_from test (n + 1) xs ≡ None) = parts (test n x) refl e in
    omega (arith, none n x failed.0, sum_from-none test f (n + 1) xs none failed.1)
  where
    parts : (b : Bool) → test n x ≡ b → cond b (Some n) (first_from test (n + 1) xs) ≡ None → (test n x ≡ false) × (first_from test (n + 1) xs ≡ None)
    parts true t e = absurd cc
    parts false t e = (t, e)

-- the settlement that comes next is there
pub next_stands : (j : Entries) (peer : ℕ) (after : Option ℕ) (n : ℕ) → next_open_number j peer after ≡ Some n → IsSome (ask_at j n)
next_stands j peer after n is =
    let f = first_found (λ k (d : Entry). (is_ask_of peer d.what && is_unclosed j k) && is_behind after k) 0 n j is in
    let place : f.0 ≡ n = omega (arith, f.2) in
    subst (λ k. IsSome (ask_at j k)) place (rw f.3 (is_ask f.1.what (is_unclosed j n) (is_behind after n) f.4))
  where
    is_ask : (w : What) (b c : Bool) → ((is_ask_of peer w && b) && c) ≡ true → IsSome (as_ask w)
    is_ask w b c t = at (as_ask w) t
      where
        at : (o : Option Ask) → ((unwrap_or (option_map (λ (a : Ask). a.peer == peer) o) false && b) && c) ≡ true → IsSome o
        at None t = cc
        at (Some a) t = refl

-- where no number is found behind another, no settlement is
pub none_next : (j : Entries) (peer : ℕ) (after : Option ℕ) → next_open_ask j peer after ≡ None → next_open_number j peer after ≡ None
none_next j peer after e = of (next_open_number j peer after) refl e
  where
    of : (o : Option ℕ) → next_open_number j peer after ≡ o → option_and_then {U = ℕ × Ask} (λ n. option_map (λ (a : Ask). (n, a)) (ask_at j n)) o ≡ None → next_open_number j peer after ≡ None
    of None is e = is
    of (Some n) is e = absurd (none (ask_at j n) (next_stands j peer after n is) e)
      where
        none : (o : Option Ask) → IsSome o → option_map {U = ℕ × Ask} (λ (a : Ask). (n, a)) o ≡ None → ⊥
        none None s e = cc
        none (Some c) s e = cc

-- where no open settlement of a peer is found it has none open
none_open : (j : Entries) (peer : ℕ) → next_open_ask j peer None ≡ None → open_asks j peer ≡ 0
unfolding open_asks
none_open j peer e =
    sum_from-none (λ k (d : Entry). (is_ask_of peer d.what && is_unclosed j k) && is_behind None k) _ 0 j (λ k d failed. uncounted (as_ask d.what) (is_unclosed j k) failed) (none_next j peer None e)
  where
    uncounted : (o : Option Ask) (b : Bool) → ((unwrap_or (option_map (λ (a : Ask). a.peer == peer) o) false && b) && true) ≡ false → cond b (unwrap_or (option_map (paid_to peer) o) 0) 0 ≡ 0
    uncounted None true failed = refl
    uncounted None false failed = refl
    uncounted (Some a) false failed = refl
    uncounted (Some a) true failed = of_peer (a.peer == peer) failed
      where
        of_peer : (b : Bool) → ((b && true) && true) ≡ false → ◌≡◌ {A = ℕ} (cond b 1 0) 0
        of_peer true failed = cc
        of_peer false failed = refl

-- where none is told to be open fewer are open than may be
pub few_open : (j : Entries) (peer : ℕ) → still_open j peer ≡ None → open_asks j peer < most_open_asks
few_open j peer e = of_test (nat_lt (open_asks j peer) most_open_asks) refl e
  where
    of_test : (b : Bool) → nat_lt (open_asks j peer) most_open_asks ≡ b → cond b None (option_map (λ (x : ℕ × Ask). ask_fault.StillOpen x.0 x.1.amount) (next_open_ask j peer None)) ≡ None
        → open_asks j peer < most_open_asks
    of_test true t e = ltb-true _ _ t
    of_test false t e = of (next_open_ask j peer None) refl e
      where
        of : (o : Option (ℕ × Ask)) → next_open_ask j peer None ≡ o → option_map (λ (x : ℕ × Ask). ask_fault.StillOpen x.0 x.1.amount) o ≡ None → open_asks j peer < most_open_asks
        of None is e = omega (arith, none_open j peer is)
        of (Some x) is e = cc

-- what is told of the first that is open
abbrev pub told_open : Option (ℕ × Ask) → Option AskFault
told_open o = option_map (λ (x : ℕ × Ask). ask_fault.StillOpen x.0 x.1.amount) o

-- where fewer are open than may be, none is told
pub none_told : (j : Entries) (peer : ℕ) → nat_lt (open_asks j peer) most_open_asks ≡ true → still_open j peer ≡ None
none_told j peer few = ap (λ b. cond b None (told_open (next_open_ask j peer None))) few

-- else the first that is open is told
pub first_told : (j : Entries) (peer : ℕ) → nat_lt (open_asks j peer) most_open_asks ≡ false → still_open j peer ≡ told_open (next_open_ask j peer None)
first_told j peer full = ap (λ b. cond b None (told_open (next_open_ask j peer None))) full

-- ---- the settlement that comes next

-- the number of the settlement that comes next
abbrev pub next_number : Entries → ℕ → Option ℕ → Option ℕ
next_number j peer tried = option_or (next_open_number j peer tried) (next_open_number j peer None)

next_is : (j : Entries) (peer : ℕ) (after : Option ℕ) (n : ℕ) (a : Ask) → next_open_number j peer after ≡ Some n → ask_at j n ≡ Some a → next_open_ask j peer after ≡ Some (n, a)
next_is j peer after n a number stands =
    ap (option_and_then {U = ℕ × Ask} (λ n. option_map (λ (a : Ask). (n, a)) (ask_at j n))) number ∙ ap (option_map {U = ℕ × Ask} (λ (a : Ask). (n, a))) stands

next_none : (j : Entries) (peer : ℕ) (after : Option ℕ) → next_open_number j peer after ≡ None → next_open_ask j peer after ≡ None
next_none j peer after none = ap (option_and_then {U = ℕ × Ask} (λ n. option_map (λ (a : Ask). (n, a)) (ask_at j n))) none

-- the one of that number is told
pub told_next : (j : Entries) (peer : ℕ) (tried : Option ℕ) (n : ℕ) (a : Ask) → next_number j peer tried ≡ Some n → ask_at j n ≡ Some a → open_settlement j peer tried ≡ Some (told_ask (n, a))
told_next j peer tried n a found stands = of (next_open_number j peer tried) refl found
  where
    of : (o : Option ℕ) → next_open_number j peer tried ≡ o → option_or o (next_open_number j peer None) ≡ Some n → open_settlement j peer tried ≡ Some (told_ask (n, a))
    of (Some m) is e =
        let same : m ≡ n = some_same m n e in
        ap (λ (x : Option (ℕ × Ask)). option_map told_ask (option_or x (next_open_ask j peer None))) (next_is j peer tried n a (is ∙ ap Some same) stands)
    of None is e =
        ap (λ (x : Option (ℕ × Ask)). option_map told_ask (option_or x (next_open_ask j peer None))) (next_none j peer tried is)
        ∙ ap (option_map told_ask) (next_is j peer None n a e stands)

-- without such a number none is
pub told_none : (j : Entries) (peer : ℕ) (tried : Option ℕ) → next_number j peer tried ≡ None → open_settlement j peer tried ≡ None
told_none j peer tried none = of (next_open_number j peer tried) refl none
  where
    of : (o : Option ℕ) → next_open_number j peer tried ≡ o → option_or o (next_open_number j peer None) ≡ None → open_settlement j peer tried ≡ None
    of (Some m) is e = absurd cc
    of None is e =
        ap (λ (x : Option (ℕ × Ask)). option_map told_ask (option_or x (next_open_ask j peer None))) (next_none j peer tried is)
        ∙ ap (option_map told_ask) (next_none j peer None e)

-- what has that number is a settlement
pub next_is_there : (j : Entries) (peer : ℕ) (tried : Option ℕ) (n : ℕ) → next_number j peer tried ≡ Some n → ask_at j n ≡ None → ⊥
next_is_there j peer tried n found none = missing (ask_at j n) (of (next_open_number j peer tried) refl found) none
  where
    missing : (o : Option Ask) → IsSome o → o ≡ None → ⊥
    missing None some e = cc
    missing (Some a) some e = cc

    of : (o : Option ℕ) → next_open_number j peer tried ≡ o → option_or o (next_open_number j peer None) ≡ Some n → IsSome (ask_at j n)
    of (Some m) is e = next_stands j peer tried n (is ∙ e)
    of None is e = next_stands j peer None n e
