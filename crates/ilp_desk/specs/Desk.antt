-- The desk that is named, and which books are its own.
use Rattle.std.specs.Prelude.{◌≡◌, ℕ, ◌+◌, ◌<◌, List, [], ◌++◌, length, drop, All, None}
use Rattle.ilp_accounts.specs.Configuration.{Configuration}
use Rattle.ilp_accounts.specs.declared.settings.LogSync.TheVariants.{Group}
use Rattle.ilp_journal.specs.declared.entry.Entry.{Entry}
use Rattle.ilp_journal.specs.Journal.{Entries}
use Rattle.ilp_rules.specs.SettlementKeys.{settlement_key_at}
use Rattle.ilp_book.specs.Book.{PlainBook}
use Rattle.ilp_book.specs.Lawful.{IsLawful}

-- a desk: its configuration, how many workers it has, the number of its period, and the journal that it was opened with
pub record PlainDesk : Type 0 where
  pub config : Configuration
  pub workers : ℕ
  pub period : ℕ
  pub opening : Entries

-- ---- actors

-- how many actors there are: the workers, from 0 on, then the sweeper, and last the settler
abbrev pub actors_of : PlainDesk → ℕ
actors_of desk = desk.workers + 2

abbrev pub IsActor : PlainDesk → ℕ → Type 0
IsActor desk actor = actor < actors_of desk

-- ---- books

-- how many entries there were when the desk was opened
abbrev pub base_of : PlainDesk → ℕ
base_of desk = length desk.opening

-- the entries of a journal since then
abbrev pub booked : PlainDesk → Entries → Entries
booked desk j = drop (base_of desk) j

-- A book of the desk is lawful. It has the desk's configuration, period and base, and its journal is the opening one and then
-- entries of the desk's actors.
pub record IsBookOf (desk : PlainDesk) (book : PlainBook) : Type 0 where
  pub config : book.config ≡ desk.config
  pub period : book.period ≡ desk.period
  pub base : book.base ≡ base_of desk
  pub begins : book.entries ≡ desk.opening ++ booked desk book.entries
  pub acted : All (λ (e : Entry). IsActor desk e.actor) (booked desk book.entries)
  pub lawful : IsLawful book

-- The key under which an engine is asked for the settlement of a number. What is brought forward from an earlier period stands in
-- the journal that the desk was opened with, so it is the same whenever the engine is asked.
abbrev pub settlement_key_in : PlainDesk → ℕ → List ℕ
settlement_key_in desk n = settlement_key_at desk.config desk.period desk.opening n

-- ---- no desk

-- a configuration of nothing
abbrev pub nothing : Configuration
nothing = record { settings = record { address = []; run = []; listen = []; engine_listen = []; path = []; workers = 0; journal = 0; window_ms = 0; max_hold_ms = 0; sweep_ms = 0; settle_ms = 0; sync = Group; in_flight = 0; new_period_at = None }; table = record { assets = []; prices = [] }; peers = []; routes = [] }

-- what stands for the desk where none is named
abbrev pub no_desk : PlainDesk
no_desk = record { config = nothing; workers = 0; period = 0; opening = [] }
