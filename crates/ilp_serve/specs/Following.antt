-- Which book comes behind a period of a connector.
use Rattle.std.specs.Prelude.{◌≡◌, ◌⊎◌, pos, Option, unwrap_or}
use Rattle.ilp_accounts.specs.Configuration.{Configuration}
use Rattle.ilp_book.specs.Book.{PlainBook}
use Rattle.ilp_book.specs.Reopened.{reopened}
use Rattle.ilp_next_period.specs.NextPeriod.{MayFollow, next_book}
use Rattle.ilp_serve.specs.declared.followed.Change.{Change}
use Rattle.ilp_serve.specs.declared.followed.Change.TheVariants.{NewPeriod, None}

-- The next one is by the configuration that was asked for, or else by the same. It begins with what the books that ended bring forward
-- to that, at the moment of their last entry, where it may follow them.
pub record IsNext (ended : PlainBook) (asked : Option Configuration) (begun : PlainBook) : Type 0 where
  pub config : begun.config ≡ unwrap_or asked ended.config
  pub may : MayFollow ended begun.config
  pub book : begun ≡ next_book ended begun.config (pos 0)

-- It begins the next period; or the same one goes on, with all that it has.
abbrev pub Follows : PlainBook → Option Configuration → PlainBook → Type 0
Follows ended asked begun = IsNext ended asked begun ⊎ (begun ≡ reopened ended)

-- the same, by whether a new period is noted
abbrev pub FollowsAs : Change → PlainBook → Option Configuration → PlainBook → Type 0
FollowsAs NewPeriod ended asked begun = IsNext ended asked begun
FollowsAs None ended asked begun = begun ≡ reopened ended

-- the next book begins, or the one that ended goes on, by whether that is
abbrev pub BeginsAs : Change → PlainBook → PlainBook → PlainBook → Type 0
BeginsAs NewPeriod ended next begun = begun ≡ next
BeginsAs None ended next begun = begun ≡ reopened ended
