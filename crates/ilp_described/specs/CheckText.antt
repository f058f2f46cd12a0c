-- What the command `check` says of a configuration, and of a journal by it.
use Rattle.std.specs.Prelude.{ℕ, List, ◌++◌, length, codes}
use Rattle.std.specs.Fmt.{decimal}
use Rattle.ilp_accounts.specs.Configuration.{Configuration}
use Rattle.ilp_book.specs.Book.{PlainBook}

-- how many peers, assets and routes it has
abbrev pub check_line : Configuration → List ℕ
check_line c = codes "ok " ++ (decimal (length c.peers) ++ (codes " peers " ++ (decimal (length c.table.assets) ++ (codes " assets " ++ (decimal (length c.routes) ++ codes " routes")))))

-- the same of a book's configuration, and how many entries the book has
abbrev pub book_line : PlainBook → List ℕ
book_line book = check_line book.config ++ (codes " " ++ (decimal (length book.entries) ++ codes " entries"))
