-- The text of a journal. Each line has fields with one space between each two, and ends by LF.
use Rattle.std.specs.Prelude.{ℕ, List, [], ◌∷◌, ◌++◌, length, codes, ◌==◌, if◌then◌else◌}
use Rattle.std.specs.List.{flat_map}
use Rattle.std.specs.Fmt.{decimal, signed_decimal}
use Rattle.hex.specs.Hex.{encode_lower}
use Rattle.ilp_accounts.specs.Configuration.{Configuration, peer_at}
use Rattle.ilp_journal.specs.declared.entry.Entry.{Entry}
use Rattle.ilp_journal.specs.declared.entry.What.{What}
use Rattle.ilp_journal.specs.declared.entry.What.TheVariants as what
use Rattle.ilp_journal.specs.declared.entry.Hold.{Hold}
use Rattle.ilp_journal.specs.declared.entry.Credited.{Credited}
use Rattle.ilp_journal.specs.declared.credit_kind.CreditKind.{CreditKind}
use Rattle.ilp_journal.specs.declared.credit_kind.CreditKind.TheVariants.{Settled, Raised, Lowered}
use Rattle.ilp_journal.specs.declared.entry.Cause.{Cause}
use Rattle.ilp_journal.specs.declared.entry.Cause.TheVariants.{Late, WrongPreimage, NoReply, Peer, Restart}
use Rattle.ilp_journal.specs.Journal.{Entries}

-- a field behind a space
abbrev pub after_space : List ℕ → List ℕ
after_space field = 32 ∷ field

-- a line of a field and the further ones, with LF
abbrev pub line : List ℕ → List (List ℕ) → List ℕ
line first further = first ++ (flat_map after_space further ++ 10 ∷ [])

-- the name of the peer at a place
abbrev pub name_at : Configuration → ℕ → List ℕ
name_at C peer = (peer_at C peer).name

-- why a hold was released; the code of a peer's Reject is hexadecimal
abbrev pub cause_fields : Cause → List (List ℕ)
cause_fields Late = codes "Late" ∷ []
cause_fields WrongPreimage = codes "WrongPreimage" ∷ []
cause_fields NoReply = codes "NoReply" ∷ []
cause_fields (Peer code) = codes "Peer" ∷ encode_lower code ∷ []
cause_fields Restart = codes "Restart" ∷ []

-- the fields of a hold
abbrev pub hold_fields : Configuration → Hold → List (List ℕ)
hold_fields C h =
    name_at C h.from ∷ name_at C h.to ∷ decimal h.amount ∷ decimal h.fee ∷ decimal h.out ∷ signed_decimal h.deadline ∷ encode_lower h.condition ∷ []

-- the word of a credit, and that of a correction
abbrev pub credit_word : CreditKind → List ℕ
credit_word Settled = codes "credited"
credit_word (Raised reason) = codes "corrected"
credit_word (Lowered reason) = codes "corrected"

-- a correction has its direction behind its other fields, and its reason, which is hexadecimal
abbrev pub kind_fields : CreditKind → List (List ℕ)
kind_fields Settled = []
kind_fields (Raised reason) = codes "rises" ∷ encode_lower reason ∷ []
kind_fields (Lowered reason) = codes "falls" ∷ encode_lower reason ∷ []

abbrev pub credited_fields : Configuration → Credited → List (List ℕ)
credited_fields C c = name_at C c.peer ∷ encode_lower c.key ∷ decimal c.named ∷ decimal c.scale ∷ decimal c.credited ∷ kind_fields c.kind

-- what happened: its word, then its fields in the order in which the entry lists them
abbrev pub what_fields : Configuration → What → List (List ℕ)
what_fields C (what.Hold h) = codes "hold" ∷ hold_fields C h
what_fields C (what.Fulfilled hold preimage) = codes "fulfilled" ∷ decimal hold ∷ encode_lower preimage ∷ []
what_fields C (what.Released hold cause) = codes "released" ∷ decimal hold ∷ cause_fields cause
what_fields C (what.Credited c) = credit_word c.kind ∷ credited_fields C c
what_fields C (what.Asked a) = codes "asked" ∷ name_at C a.peer ∷ decimal a.amount ∷ []
what_fields C (what.Confirmed ask) = codes "confirmed" ∷ decimal ask ∷ []
what_fields C (what.Undone ask) = codes "undone" ∷ decimal ask ∷ []
what_fields C (what.Opened peer balance) = codes "opened" ∷ name_at C peer ∷ signed_decimal balance ∷ []
what_fields C (what.Known c) = codes "known" ∷ credited_fields C c
what_fields C (what.Pending peer amount key) = codes "pending" ∷ name_at C peer ∷ decimal amount ∷ encode_lower key ∷ []

-- an entry: its moment, its actor and what happened
abbrev pub entry_line : Configuration → Entry → List ℕ
entry_line C e = line (signed_decimal e.moment) (decimal e.actor ∷ what_fields C e.what)

-- the lines of entries, one behind the other
abbrev pub entry_lines : Configuration → Entries → List ℕ
entry_lines C entries = flat_map (entry_line C) entries

-- the last line, which counts the entries
abbrev pub end_line : ℕ → List ℕ
end_line count = line (codes "end") (decimal count ∷ [])

-- the first line, which names the form of the text, and the number of a period above 0
abbrev pub first_line : ℕ → List ℕ
first_line period = if period == 0 then codes "ilp-journal 1\n" else line (codes "ilp-journal") (codes "2" ∷ decimal period ∷ [])

-- the text of a period with this journal
abbrev pub journal_text : Configuration → ℕ → Entries → List ℕ
journal_text C period j = first_line period ++ (entry_lines C j ++ end_line (length j))
