-- Periods one after another, each begun with what the one before brought forward.
use Rattle.std.specs.Prelude.{ℕ, ◌+◌, List, [], ◌∷◌, ◌++◌, Option, Some, sum_by, option_and_then, unwrap_or, option_map}
use Rattle.ilp_journal.specs.declared.entry.Entry.{Entry}
use Rattle.ilp_journal.specs.Journal.{Entries}
use Rattle.ilp_journal.specs.Balance.{rise, fall}
use Rattle.ilp_journal.specs.BroughtForward.{PeriodEnd, next_place, brought_forward}

-- by how much the entries of es raise the balance of the peer p, and by how much they lower it; what they name stands in j
abbrev pub raised_by : Entries → Entries → ℕ → ℕ
raised_by j es p = sum_by (λ (e : Entry). rise j p e.what) es

abbrev pub lowered_by : Entries → ℕ → ℕ
lowered_by es p = sum_by (λ (e : Entry). fall p e.what) es

-- a period behind another: how the books were closed before it, and what was booked behind its head
pub record Period : Type 0 where
  pub turn : PeriodEnd
  pub booked : Entries

-- the journal of a period behind one with the journal j: its head, and what was booked
abbrev pub journal_of : Entries → Period → Entries
journal_of j period = brought_forward period.turn j ++ period.booked

-- the journal of the last of the periods behind one with the journal j
abbrev pub last_journal : Entries → List Period → Entries
last_journal j [] = j
last_journal j (period ∷ more) = last_journal (journal_of j period) more

-- the place in the last period of the peer p of the first, if it has one in each
abbrev pub place_in_last : ℕ → List Period → Option ℕ
place_in_last p [] = Some p
place_in_last p (period ∷ more) = option_and_then (λ q. place_in_last q more) (next_place period.turn.places p)

-- by how much what was booked behind the heads raised the balance of the peer p of the first period, in all later periods
abbrev pub raised_later : Entries → ℕ → List Period → ℕ
raised_later j p [] = 0
raised_later j p (period ∷ more) =
    unwrap_or (option_map (λ q. raised_by (journal_of j period) period.booked q + raised_later (journal_of j period) q more) (next_place period.turn.places p)) 0

-- and by how much it lowered it
abbrev pub lowered_later : Entries → ℕ → List Period → ℕ
lowered_later j p [] = 0
lowered_later j p (period ∷ more) =
    unwrap_or (option_map (λ q. lowered_by period.booked q + lowered_later (journal_of j period) q more) (next_place period.turn.places p)) 0

-- by how much all that was booked in the periods raised the balance, the first period's own entries being those of j
abbrev pub raised_in_all : Entries → ℕ → List Period → ℕ
raised_in_all j p more = raised_by j j p + raised_later j p more

-- and by how much it lowered it
abbrev pub lowered_in_all : Entries → ℕ → List Period → ℕ
lowered_in_all j p more = lowered_by j p + lowered_later j p more
