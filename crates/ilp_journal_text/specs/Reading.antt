-- The text of a journal, read: what it stands for, and where it is first bad. Lines count from 1.
use Rattle.std.specs.Prelude.{◌≡◌, ◌≢◌, ◌⊎◌, ℕ, ◌+◌, ◌<◌, ◌^◌, ℤ, pos, ◌≤ℤ◌, ◌<ℤ◌, List, [], ◌∷◌, ◌++◌, false, length, All, FitsSigned, IsTrue, ⊤}
use Rattle.std.specs.Int.{w64}
use Rattle.std.specs.List.{flat_map}
use Rattle.hex.specs.Hex.{IsBytes}
use Rattle.ilp_accounts.specs.Configuration.{Configuration}
use Rattle.ilp_journal.specs.declared.entry.Entry.{Entry}
use Rattle.ilp_journal.specs.declared.entry.What.{What}
use Rattle.ilp_journal.specs.declared.entry.What.TheVariants as what
use Rattle.ilp_journal.specs.declared.entry.Hold.{Hold}
use Rattle.ilp_journal.specs.declared.entry.Credited.{Credited}
use Rattle.ilp_journal.specs.declared.credit_kind.CreditKind.{CreditKind}
use Rattle.ilp_journal.specs.declared.credit_kind.CreditKind.TheVariants.{Settled, Raised, Lowered}
use Rattle.ilp_journal.specs.declared.entry.Cause.{Cause}
use Rattle.ilp_journal.specs.declared.entry.Cause.TheVariants.{Peer}
use Rattle.ilp_journal.specs.Journal.{Entries}
use Rattle.ilp_journal.specs.BroughtForward.{is_brought_forward}
use Rattle.ilp_journal.specs.Keys.{IsKey}
use Rattle.ilp_journal_text.specs.declared.reading.TextFault.{TextFault}
use Rattle.ilp_journal_text.specs.declared.reading.TextFault.TheVariants.{BadLine, Memory}
use Rattle.ilp_journal_text.specs.Text.{first_line, entry_line, entry_lines, end_line, journal_text}
use Rattle.ilp_journal_text.specs.Fields.{is_line_end}

-- ---- which entries a text of a configuration can have

-- a peer of the configuration
abbrev pub IsPeer : Configuration → ℕ → Type 0
IsPeer C peer = peer < length C.peers

-- milliseconds since 1970
abbrev pub IsMoment : ℤ → Type 0
IsMoment moment = (pos 0 ≤ℤ moment) × (moment <ℤ pos (2 ^ 63))

-- so many octets
abbrev pub AreOctets : ℕ → List ℕ → Type 0
AreOctets count octets = (length octets ≡ count) × IsBytes octets

pub record HoldStands (C : Configuration) (h : Hold) : Type 0 where
  pub from : IsPeer C h.from
  pub to : IsPeer C h.to
  pub amount : h.amount < 2 ^ 64
  pub fee : h.fee < 2 ^ 64
  pub out : h.out < 2 ^ 64
  pub deadline : IsMoment h.deadline
  pub condition : AreOctets 32 h.condition

abbrev pub CauseStands : Cause → Type 0
CauseStands (Peer code) = AreOctets 3 code
CauseStands _ = ⊤

-- a reason has as many octets as a key may have
abbrev pub KindStands : CreditKind → Type 0
KindStands Settled = ⊤
KindStands (Raised reason) = IsKey reason × IsBytes reason
KindStands (Lowered reason) = IsKey reason × IsBytes reason

pub record CreditStands (C : Configuration) (c : Credited) : Type 0 where
  pub peer : IsPeer C c.peer
  pub key : IsKey c.key × IsBytes c.key
  pub named : c.named < 2 ^ 128
  pub scale : c.scale < 2 ^ 8
  pub credited : c.credited < 2 ^ 64
  pub kind : KindStands c.kind

abbrev pub WhatStands : Configuration → What → Type 0
WhatStands C (what.Hold h) = HoldStands C h
WhatStands C (what.Fulfilled hold preimage) = (hold < 2 ^ 32) × AreOctets 32 preimage
WhatStands C (what.Released hold cause) = (hold < 2 ^ 32) × CauseStands cause
WhatStands C (what.Credited c) = CreditStands C c
WhatStands C (what.Asked a) = IsPeer C a.peer × (a.amount < 2 ^ 64)
WhatStands C (what.Confirmed ask) = ask < 2 ^ 32
WhatStands C (what.Undone ask) = ask < 2 ^ 32
WhatStands C (what.Opened peer balance) = IsPeer C peer × FitsSigned w64 balance
WhatStands C (what.Known c) = CreditStands C c
WhatStands C (what.Pending peer amount key) = IsPeer C peer × (amount < 2 ^ 64) × (IsKey key × IsBytes key)

-- an entry of peers that the configuration knows, whose numbers are of their types
pub record CanStand (C : Configuration) (e : Entry) : Type 0 where
  pub moment : IsMoment e.moment
  pub actor : e.actor < 2 ^ 32
  pub what : WhatStands C e.what

-- such an entry in the text of a period: what is brought forward stands only in a period above 0
pub record StandsIn (C : Configuration) (period : ℕ) (e : Entry) : Type 0 where
  pub stands : CanStand C e
  pub later : IsTrue (is_brought_forward e.what) → 0 < period

-- ---- entries whose numbers are of their types, as those in memory are

pub record HoldIsTyped (h : Hold) : Type 0 where
  pub amount : h.amount < 2 ^ 64
  pub fee : h.fee < 2 ^ 64
  pub out : h.out < 2 ^ 64
  pub deadline : FitsSigned w64 h.deadline
  pub condition : AreOctets 32 h.condition

pub record CreditIsTyped (c : Credited) : Type 0 where
  pub key : IsKey c.key × IsBytes c.key
  pub named : c.named < 2 ^ 128
  pub scale : c.scale < 2 ^ 8
  pub credited : c.credited < 2 ^ 64
  pub kind : KindStands c.kind

abbrev pub WhatIsTyped : What → Type 0
WhatIsTyped (what.Hold h) = HoldIsTyped h
WhatIsTyped (what.Fulfilled hold preimage) = (hold < 2 ^ 32) × AreOctets 32 preimage
WhatIsTyped (what.Released hold cause) = (hold < 2 ^ 32) × CauseStands cause
WhatIsTyped (what.Credited c) = CreditIsTyped c
WhatIsTyped (what.Asked a) = a.amount < 2 ^ 64
WhatIsTyped (what.Confirmed ask) = ask < 2 ^ 32
WhatIsTyped (what.Undone ask) = ask < 2 ^ 32
WhatIsTyped (what.Opened peer balance) = FitsSigned w64 balance
WhatIsTyped (what.Known c) = CreditIsTyped c
WhatIsTyped (what.Pending peer amount key) = (amount < 2 ^ 64) × (IsKey key × IsBytes key)

pub record IsTyped (e : Entry) : Type 0 where
  pub moment : FitsSigned w64 e.moment
  pub actor : e.actor < 2 ^ 32
  pub what : WhatIsTyped e.what

-- ---- what a text stands for

-- the text of a period with these entries, each of which can stand in it
pub record IsTextOf (C : Configuration) (period : ℕ) (j : Entries) (text : List ℕ) : Type 0 where
  pub whole : text ≡ journal_text C period j
  pub numbered : period < 2 ^ 32
  pub entries : All (StandsIn C period) j

-- what is not read yet of the text of a period: the octets behind the lines of so many entries
pub record Unread : Type 0 where
  pub period : ℕ
  pub rest : List ℕ
  pub count : ℕ

-- the first line was read
pub record Begins (text : List ℕ) (new : Unread) : Type 0 where
  pub whole : text ≡ first_line new.period ++ new.rest
  pub numbered : new.period < 2 ^ 32
  pub count : new.count ≡ 0

-- the line of an entry was read
pub record Takes (C : Configuration) (e : Entry) (old new : Unread) : Type 0 where
  pub line : old.rest ≡ entry_line C e ++ new.rest
  pub stands : StandsIn C old.period e
  pub period : new.period ≡ old.period
  pub count : new.count ≡ old.count + 1

-- the end line is all that is left
abbrev pub IsAtEnd : Unread → Type 0
IsAtEnd unread = unread.rest ≡ end_line unread.count

-- the first line and those of the entries were read
pub record HasRead (C : Configuration) (text : List ℕ) (j : Entries) (now : Unread) : Type 0 where
  pub whole : text ≡ first_line now.period ++ (entry_lines C j ++ now.rest)
  pub numbered : now.period < 2 ^ 32
  pub entries : All (StandsIn C now.period) j
  pub count : now.count ≡ length j

-- ---- the first bad line

-- a line, with its only LF at its end
pub record IsLine (octets : List ℕ) : Type 0 where
  pub body : List ℕ
  pub whole : octets ≡ body ++ 10 ∷ []
  pub clean : All (λ octet. is_line_end octet ≡ false) body

-- no octet is NUL
abbrev pub HasNoNul : List ℕ → Type 0
HasNoNul octets = All (λ octet. octet ≢ 0) octets

-- lines, one behind the other
abbrev pub joined : List (List ℕ) → List ℕ
joined lines = flat_map (λ (line : List ℕ). line) lines

-- the text of some journal begins so
pub record BeginsText (C : Configuration) (octets : List ℕ) : Type 0 where
  pub period : ℕ
  pub entries : Entries
  pub after : List ℕ
  pub is : IsTextOf C period entries (octets ++ after)

-- The text is no journal's. The lines before this one begin the text of some journal, and with it they begin none; else it is
-- missing, or has no end.
pub record IsFirstBadLine (C : Configuration) (text : List ℕ) (line : ℕ) : Type 0 where
  pub no_text : (period : ℕ) (j : Entries) → ¬ (IsTextOf C period j text)
  pub before : List (List ℕ)
  pub rest : List ℕ
  pub whole : text ≡ joined before ++ rest
  pub lines : All IsLine before
  pub begins : BeginsText C (joined before)
  pub bad : (next after : List ℕ) → IsLine next → rest ≡ next ++ after → ¬ (BeginsText C (joined before ++ next))
  pub number : line ≡ length before + 1

-- ---- where a reader stops

-- the first line of no period comes first
abbrev pub LacksFirstLine : List ℕ → Type 0
LacksFirstLine text = (period : ℕ) (after : List ℕ) → period < 2 ^ 32 → text ≢ first_line period ++ after

-- no line of an entry that can stand in the text of a period comes first
abbrev pub LacksEntry : Configuration → ℕ → List ℕ → Type 0
LacksEntry C period octets = (e : Entry) (after : List ℕ) → StandsIn C period e → octets ≢ entry_line C e ++ after

-- neither the line of an entry comes next nor the end line
pub record LacksLine (C : Configuration) (u : Unread) : Type 0 where
  pub entry : LacksEntry C u.period u.rest
  pub end : (after : List ℕ) → u.rest ≢ end_line u.count ++ after

-- the end line comes next, and then more
pub record GoesOn (u : Unread) : Type 0 where
  pub after : List ℕ
  pub whole : u.rest ≡ end_line u.count ++ after
  pub more : after ≢ []

-- the line at which a reader stops: the next one, or the one behind the end line
abbrev pub IsBadAt : Configuration → Unread → ℕ → Type 0
IsBadAt C u line = (LacksLine C u × (line ≡ u.count + 2)) ⊎ (GoesOn u × (line ≡ u.count + 3))

-- a fault names the line at which a reader stops, or is want of memory
abbrev pub Explains : Configuration → Unread → TextFault → Type 0
Explains C u (BadLine line) = IsBadAt C u line
Explains C u Memory = ⊤

-- ---- lines that stand behind others, as those of entries that were booked since a journal was saved

-- The lines of these entries, each of which can stand in a text of the period 0: in no such line is anything brought forward,
-- whatever the period of the text before them.
pub record AreLinesOf (C : Configuration) (entries : Entries) (text : List ℕ) : Type 0 where
  pub whole : text ≡ entry_lines C entries
  pub stand : All (StandsIn C 0) entries

-- The lines before this one are those of entries. It is there, and is no entry's line or has no end.
pub record IsFirstBadEntryLine (C : Configuration) (text : List ℕ) (line : ℕ) : Type 0 where
  pub before : Entries
  pub rest : List ℕ
  pub whole : text ≡ entry_lines C before ++ rest
  pub stand : All (StandsIn C 0) before
  pub there : rest ≢ []
  pub bad : LacksEntry C 0 rest
  pub number : line ≡ length before + 1

-- lines of which none was read
abbrev pub unread : List ℕ → Unread
unread text = record { period = 0; rest = text; count = 0 }

-- the lines of these entries were read
pub record HasReadLines (C : Configuration) (text : List ℕ) (entries : Entries) (now : Unread) : Type 0 where
  pub whole : text ≡ entry_lines C entries ++ now.rest
  pub stand : All (StandsIn C 0) entries
  pub period : now.period ≡ 0
  pub count : now.count ≡ length entries

-- all lines were read
abbrev pub IsAllRead : Unread → Type 0
IsAllRead u = u.rest ≡ []

-- the line at which a reader of lines stops: the next one
pub record IsBadNext (C : Configuration) (u : Unread) (line : ℕ) : Type 0 where
  pub there : u.rest ≢ []
  pub bad : LacksEntry C u.period u.rest
  pub number : line ≡ u.count + 1

-- a fault names the line at which a reader of lines stops, or is want of memory
abbrev pub ExplainsNext : Configuration → Unread → TextFault → Type 0
ExplainsNext C u (BadLine line) = IsBadNext C u line
ExplainsNext C u Memory = ⊤
