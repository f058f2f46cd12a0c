-- Entries with other numbers.
use Rattle.std.proofs.Common.{◌≡◌, ℕ, ◌+◌, ◌<◌, ◌≤◌, option_map, refl, IfSome}
use Rattle.ilp_journal.specs.declared.entry.What.{What}
use Rattle.ilp_journal.specs.declared.entry.What.TheVariants as what
use Rattle.ilp_journal.specs.Journal.{as_hold, as_ask, answered, closed, released}
use Rattle.ilp_journal.specs.Balance.{fall}
use Rattle.ilp_journal.specs.Credits.{as_credit}

-- what an entry books, with other numbers
abbrev pub numbered : (ℕ → ℕ) → What → What
numbered number (what.Fulfilled n preimage) = what.Fulfilled (number n) preimage
numbered number (what.Released n cause) = what.Released (number n) cause
numbered number (what.Confirmed n) = what.Confirmed (number n)
numbered number (what.Undone n) = what.Undone (number n)
numbered number w = w

-- Which number in one journal has what has another in a later one: from a place on they lie as far behind it, and what is named
-- before it stands in the same order.
pub record IsNumbering (first later : ℕ) (number : ℕ → ℕ) (IsNamed : ℕ → Type 0) : Type 0 where
  pub shifted : (k : ℕ) → later ≤ k → number k + later ≡ first + k
  pub below : (k : ℕ) → IsNamed k → k < later → number k < first
  pub rising : (k m : ℕ) → IsNamed k → IsNamed m → k < m → number k < number m
  pub named : (k : ℕ) → later ≤ k → IsNamed k

module _ (number : ℕ → ℕ) where
  pub as_hold-numbered : (w : What) → as_hold (numbered number w) ≡ as_hold w
  as_hold-numbered (what.Hold h) = refl
  as_hold-numbered (what.Fulfilled hold preimage) = refl
  as_hold-numbered (what.Released hold cause) = refl
  as_hold-numbered (what.Credited c) = refl
  as_hold-numbered (what.Asked a) = refl
  as_hold-numbered (what.Confirmed ask) = refl
  as_hold-numbered (what.Undone ask) = refl
  as_hold-numbered (what.Opened peer b) = refl
  as_hold-numbered (what.Known c) = refl
  as_hold-numbered (what.Pending peer amount key) = refl

  pub as_ask-numbered : (w : What) → as_ask (numbered number w) ≡ as_ask w
  as_ask-numbered (what.Hold h) = refl
  as_ask-numbered (what.Fulfilled hold preimage) = refl
  as_ask-numbered (what.Released hold cause) = refl
  as_ask-numbered (what.Credited c) = refl
  as_ask-numbered (what.Asked a) = refl
  as_ask-numbered (what.Confirmed ask) = refl
  as_ask-numbered (what.Undone ask) = refl
  as_ask-numbered (what.Opened peer b) = refl
  as_ask-numbered (what.Known c) = refl
  as_ask-numbered (what.Pending peer amount key) = refl

  pub as_credit-numbered : (w : What) → as_credit (numbered number w) ≡ as_credit w
  as_credit-numbered (what.Hold h) = refl
  as_credit-numbered (what.Fulfilled hold preimage) = refl
  as_credit-numbered (what.Released hold cause) = refl
  as_credit-numbered (what.Credited c) = refl
  as_credit-numbered (what.Asked a) = refl
  as_credit-numbered (what.Confirmed ask) = refl
  as_credit-numbered (what.Undone ask) = refl
  as_credit-numbered (what.Opened peer b) = refl
  as_credit-numbered (what.Known c) = refl
  as_credit-numbered (what.Pending peer amount key) = refl

  pub answered-numbered : (w : What) → answered (numbered number w) ≡ option_map number (answered w)
  answered-numbered (what.Hold h) = refl
  answered-numbered (what.Fulfilled hold preimage) = refl
  answered-numbered (what.Released hold cause) = refl
  answered-numbered (what.Credited c) = refl
  answered-numbered (what.Asked a) = refl
  answered-numbered (what.Confirmed ask) = refl
  answered-numbered (what.Undone ask) = refl
  answered-numbered (what.Opened peer b) = refl
  answered-numbered (what.Known c) = refl
  answered-numbered (what.Pending peer amount key) = refl

  pub closed-numbered : (w : What) → closed (numbered number w) ≡ option_map number (closed w)
  closed-numbered (what.Hold h) = refl
  closed-numbered (what.Fulfilled hold preimage) = refl
  closed-numbered (what.Released hold cause) = refl
  closed-numbered (what.Credited c) = refl
  closed-numbered (what.Asked a) = refl
  closed-numbered (what.Confirmed ask) = refl
  closed-numbered (what.Undone ask) = refl
  closed-numbered (what.Opened peer b) = refl
  closed-numbered (what.Known c) = refl
  closed-numbered (what.Pending peer amount key) = refl

  pub released-numbered : (w : What) → released (numbered number w) ≡ option_map number (released w)
  released-numbered (what.Hold h) = refl
  released-numbered (what.Fulfilled hold preimage) = refl
  released-numbered (what.Released hold cause) = refl
  released-numbered (what.Credited c) = refl
  released-numbered (what.Asked a) = refl
  released-numbered (what.Confirmed ask) = refl
  released-numbered (what.Undone ask) = refl
  released-numbered (what.Opened peer b) = refl
  released-numbered (what.Known c) = refl
  released-numbered (what.Pending peer amount key) = refl

  pub fall-numbered : (q : ℕ) (w : What) → fall q (numbered number w) ≡ fall q w
  fall-numbered q (what.Hold h) = refl
  fall-numbered q (what.Fulfilled hold preimage) = refl
  fall-numbered q (what.Released hold cause) = refl
  fall-numbered q (what.Credited c) = refl
  fall-numbered q (what.Asked a) = refl
  fall-numbered q (what.Confirmed ask) = refl
  fall-numbered q (what.Undone ask) = refl
  fall-numbered q (what.Opened peer b) = refl
  fall-numbered q (what.Known c) = refl
  fall-numbered q (what.Pending peer amount key) = refl

-- whatever is released is answered
pub released_answered : (P : ℕ → Type 0) (w : What) → IfSome (answered w) P → IfSome (released w) P
released_answered P (what.Hold h) named = tt
released_answered P (what.Fulfilled hold preimage) named = tt
released_answered P (what.Released hold cause) named = named
released_answered P (what.Credited c) named = tt
released_answered P (what.Asked a) named = tt
released_answered P (what.Confirmed ask) named = tt
released_answered P (what.Undone ask) named = tt
released_answered P (what.Opened peer b) named = tt
released_answered P (what.Known c) named = tt
released_answered P (what.Pending peer amount key) named = tt
