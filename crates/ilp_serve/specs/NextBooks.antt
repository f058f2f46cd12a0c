-- What comes behind the books of a period.
use Rattle.std.specs.Prelude.{◌≡◌, Option}
use Rattle.ilp_accounts.specs.Configuration.{Configuration}
use Rattle.ilp_book.specs.Book.{PlainBook}
use Rattle.ilp_book.specs.Reopened.{reopened}
use Rattle.ilp_serve.specs.declared.next_books.NextBooks.{NextBooks}
use Rattle.ilp_serve.specs.declared.next_books.NextBooks.TheVariants.{Next, Same}
use Rattle.ilp_serve.specs.Following.{IsNext}

-- These are the books that ended, and next ones; or they are the same, opened anew.
abbrev pub ComesBehind : PlainBook → Option Configuration → NextBooks → Type 0
ComesBehind book asked (Next ended next told) = (ended ≡ book) × IsNext book asked next
ComesBehind book asked (Same same refused told) = same ≡ reopened book
