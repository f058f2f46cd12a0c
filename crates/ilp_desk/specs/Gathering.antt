-- What a desk's ends add up to, and why they are not gathered.
use Rattle.std.specs.Prelude.{◌≡◌, ◌≢◌, ℕ, ◌+◌, ◌<◌, ◌≤◌, ◌==◌, List, length, Some, slice_get, All, sum_by, count_by}
use Rattle.ilp_journal.specs.Journal.{fulfilled_since}
use Rattle.ilp_book.specs.Book.{PlainBook}
use Rattle.ilp_book.specs.Configured.{peer_assets}
use Rattle.ilp_desk.specs.declared.gathering.WhyNotGathered.{WhyNotGathered}
use Rattle.ilp_desk.specs.declared.gathering.WhyNotGathered.TheVariants.{Double, Missing, Disagrees}
use Rattle.ilp_desk.specs.declared.record.Record.{Record}
use Rattle.ilp_desk.specs.Desk.{PlainDesk, IsActor}
use Rattle.ilp_desk.specs.Portion.{Holding}
use Rattle.ilp_desk.specs.Records.{actor_records}
use Rattle.ilp_desk.specs.Totals.{taken_since, sold_since, packets, packets_in, packets_out}

-- ---- ends

-- how many ends are this actor's
abbrev pub holders : ℕ → List Holding → ℕ
holders actor ends = count_by (λ (h : Holding). h.share.actor == actor) ends

-- the actor's records of the book
abbrev pub records_of : PlainBook → ℕ → List Record
records_of book actor = actor_records book.entries book.base actor

-- each end of this actor has kept its records
abbrev pub Agrees : PlainBook → List Holding → ℕ → Type 0
Agrees book ends actor = All (λ (h : Holding). h.share.actor ≡ actor → h.records ≡ records_of book actor) ends

-- an end of this actor has kept another list
pub record Differs (book : PlainBook) (ends : List Holding) (actor : ℕ) : Type 0 where
  pub place : ℕ
  pub there : Holding
  pub stands : slice_get ends place ≡ Some there
  pub is_of : there.share.actor ≡ actor
  pub other : there.records ≢ records_of book actor

-- each actor has one end, each end is an actor's, and it has kept the actor's records
pub record IsWhole (desk : PlainDesk) (book : PlainBook) (ends : List Holding) : Type 0 where
  pub once : (actor : ℕ) → IsActor desk actor → holders actor ends ≡ 1
  pub known : All (λ (h : Holding). IsActor desk h.share.actor) ends
  pub records : All (λ (h : Holding). h.records ≡ records_of book h.share.actor) ends

-- ---- gathered

-- The ends are whole, and together they booked what the book gained since the opening: so many entries, so many fulfilled packets,
-- and in each asset such amounts in and out.
pub record IsGathered (desk : PlainDesk) (book : PlainBook) (ends : List Holding) : Type 0 where
  pub whole : IsWhole desk book ends
  pub entries_add : sum_by (λ (h : Holding). h.share.entries) ends + book.base ≡ length book.entries
  pub packets_add : sum_by (λ (h : Holding). packets h.records) ends ≡ fulfilled_since book.base book.entries
  pub in_adds : (asset : ℕ) → sum_by (λ (h : Holding). packets_in (peer_assets book.config) h.records asset) ends
      ≡ taken_since (peer_assets book.config) book.base book.entries asset
  pub out_adds : (asset : ℕ) → sum_by (λ (h : Holding). packets_out (peer_assets book.config) h.records asset) ends
      ≡ sold_since (peer_assets book.config) book.base book.entries asset

-- ---- not gathered

-- the first actor that has two ends or more
pub record IsDouble (desk : PlainDesk) (ends : List Holding) (actor : ℕ) : Type 0 where
  pub known : IsActor desk actor
  pub several : 1 < holders actor ends
  pub before : (a : ℕ) → a < actor → holders a ends ≤ 1

-- the first actor that has none, where none has two
pub record IsMissing (desk : PlainDesk) (ends : List Holding) (actor : ℕ) : Type 0 where
  pub known : IsActor desk actor
  pub none : holders actor ends ≡ 0
  pub single : (a : ℕ) → IsActor desk a → holders a ends ≤ 1
  pub before : (a : ℕ) → a < actor → holders a ends ≡ 1

-- the first actor whose end has kept another list, where each has one
pub record IsDisagreeing (desk : PlainDesk) (book : PlainBook) (ends : List Holding) (actor : ℕ) : Type 0 where
  pub known : IsActor desk actor
  pub differs : Differs book ends actor
  pub once : (a : ℕ) → IsActor desk a → holders a ends ≡ 1
  pub before : (a : ℕ) → a < actor → Agrees book ends a

-- why the ends are not gathered with this book
abbrev pub IsWhyNotGathered : PlainDesk → PlainBook → List Holding → WhyNotGathered → Type 0
IsWhyNotGathered desk book ends (Double actor) = IsDouble desk ends actor
IsWhyNotGathered desk book ends (Missing actor) = IsMissing desk ends actor
IsWhyNotGathered desk book ends (Disagrees actor) = IsDisagreeing desk book ends actor
