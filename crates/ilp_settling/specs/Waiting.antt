-- How long a settlement waits: since when a peer's balance is seen at its threshold or above.
use Rattle.std.specs.Prelude.{◌≡◌, ◌⊎◌, ℕ, ◌+◌, ◌*◌, ◌≤◌, ◌≤ℤ◌, Bool, true, false, List, ◌++◌, ◌∷◌, All, fold, Option, Some, None, IsSomeAnd}
use Rattle.std.specs.declared.time.Duration.{Duration}
use Rattle.std.specs.Duration.{as_nanos}
use Rattle.ilp_accounts.specs.declared.peer.Levels.{Levels}
use Rattle.ilp_accounts.specs.Configuration.{peer_at}
use Rattle.ilp_journal.specs.Balance.{balance}
use Rattle.ilp_book.specs.Book.{PlainBook}

-- A peer's balance is at its threshold or above it. That of a peer without a threshold never is.
abbrev pub IsAtThreshold : PlainBook → ℕ → Type 0
IsAtThreshold book peer = IsSomeAnd (peer_at book.config peer).levels (λ (l : Levels). l.threshold ≤ℤ balance book.entries peer)

-- a look at a peer's balance: when it was, and whether the balance was at the threshold or above
pub record Look : Type 0 where
  pub at : Duration
  pub reaches : Bool

abbrev pub look : Duration → Bool → Look
look at reaches = record { at = at; reaches = reaches }

-- whether the last look found the balance at the threshold or above; before the first look nothing did
abbrev pub last_reaches : List Look → Bool
last_reaches looks = fold (λ _ (l : Look). l.reaches) false looks

-- Each look from one at this time on found the balance at the threshold or above, and the last look before that did not.
pub record ReachesSince (looks : List Look) (since : Duration) : Type 0 where
  pub earlier : List Look
  pub first : Look
  pub later : List Look
  pub are : looks ≡ earlier ++ first ∷ later
  pub at : first.at ≡ since
  pub reach : All (λ (l : Look). l.reaches ≡ true) (first ∷ later)
  pub before : last_reaches earlier ≡ false

-- since when the balance is seen at the threshold or above: never, where the last look found it below
abbrev pub IsReached : List Look → Option Duration → Type 0
IsReached looks None = last_reaches looks ≡ false
IsReached looks (Some since) = ReachesSince looks since

-- A settlement may be asked for by this time, where it waits for so many milliseconds: it waits for none, or the balance has been seen at
-- the threshold or above for as long.
abbrev pub HasWaited : Option Duration → Duration → ℕ → Type 0
HasWaited reached now wait_ms = (wait_ms ≡ 0) ⊎ IsSomeAnd reached (λ since. as_nanos since + wait_ms * 1_000_000 ≤ as_nanos now)
