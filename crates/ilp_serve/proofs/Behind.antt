-- What comes behind a book.
use Rattle.std.proofs.Common.{◌≡◌, Option, sym, ap, subst, ◌∙◌, inl, inr}
use Rattle.std.specs.Prelude.{pos, Result, Ok, IfOk, unwrap_or}
use Rattle.ilp_accounts.specs.Configuration.{Configuration}
use Rattle.ilp_book.specs.Book.{PlainBook}
use Rattle.ilp_next_period.specs.NextPeriod.{MayFollow, next_book}
use Rattle.ilp_book.specs.Reopened.{reopened}
use Rattle.ilp_serve.specs.declared.followed.Change.{Change}
use Rattle.ilp_serve.specs.declared.followed.Change.TheVariants.{NewPeriod, None}
use Rattle.ilp_serve.specs.Following.{IsNext, BeginsAs, Follows, FollowsAs}

-- the book that was begun is the next one by this configuration, which was asked for, or else is the one of the book that ended
pub is_next : {E : Type 0} (ended : PlainBook) (asked : Option Configuration) (C : Configuration) (result : Result PlainBook E) (next : PlainBook)
    → C ≡ unwrap_or asked ended.config → result ≡ Ok next → IfOk result (λ _. MayFollow ended C) → IfOk result (λ b. b ≡ next_book ended C (pos 0))
    → IsNext ended asked next
is_next ended asked C result next is begun may book =
    let same : next ≡ next_book ended C (pos 0) = subst (λ r. IfOk r (λ (b : PlainBook). b ≡ next_book ended C (pos 0))) begun book in
    let config : next.config ≡ C = ap (λ (b : PlainBook). b.config) same in
    record {
      config = config ∙ is;
      may = subst (MayFollow ended) (sym config) (subst (λ r. IfOk r (λ _. MayFollow ended C)) begun may);
      book = same ∙ ap (λ (D : Configuration). next_book ended D (pos 0)) (sym config);
    }

-- it begins with that, or goes on with the book that ended
pub follows_as : (change : Change) (book : PlainBook) (asked : Option Configuration) (ended next begun : PlainBook) → ended ≡ book → IsNext book asked next
    → BeginsAs change ended next begun → FollowsAs change book asked begun
follows_as NewPeriod book asked ended next begun same is begins = subst (IsNext book asked) (sym begins) is
follows_as None book asked ended next begun same is goes_on = goes_on ∙ ap reopened same

-- however that is told
pub follows_any : (change : Change) (book : PlainBook) (asked : Option Configuration) (begun : PlainBook) → FollowsAs change book asked begun → Follows book asked begun
follows_any NewPeriod book asked begun is = inl is
follows_any None book asked begun goes_on = inr goes_on
