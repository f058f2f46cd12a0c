-- A log that goes on from a book.
use Rattle.std.specs.Prelude.{◌≡◌, ◌⊎◌, ℕ, List, [], length}
use Rattle.ilp_accounts.specs.Configuration.{Configuration}
use Rattle.ilp_book.specs.Book.{PlainBook}
use Rattle.ilp_journal_text.specs.Text.{journal_text}
use Rattle.ilp_line_file.specs.Device.{Only}
use Rattle.ilp_line_file.specs.Text.{text_of, IsText}
use Rattle.ilp_log.specs.declared.start.BegunLog.{BegunLog}
use Rattle.ilp_log_text.specs.Head.{head_lines}

-- the text of the book, or that there is none of a book in which nothing was booked
abbrev pub IsKeptText : Configuration → PlainBook → List ℕ → Type 0
IsKeptText C book text = (text ≡ journal_text C book.period book.entries) ⊎ ((text ≡ []) × (book.entries ≡ []))

-- the log names the book's text, and all of its entries stand there
pub record GoesOnFrom {D : Type 0} (C : Configuration) (book : PlainBook) (log : BegunLog D) : Type 0 where
  pub base : log.start.base ≡ length book.entries
  pub text : List ℕ
  pub kept : IsKeptText C book text
  pub head : log.start.head.items ≡ text_of (head_lines C (length book.entries) text)

-- its file has its head alone, which is whole lines, and a crash leaves nothing else
pub record IsAlone {D : Type 0} (seen : D → List ℕ) (may_leave : D → List ℕ → Type 0) (log : BegunLog D) : Type 0 where
  pub read : seen log.file.device ≡ log.start.head.items
  pub kept : Only log.start.head.items (may_leave log.file.device)
  pub end : log.file.end ≡ length log.start.head.items
  pub lines : IsText log.start.head.items
