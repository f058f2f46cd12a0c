-- What lies at the names of a journal's files, and when looks at them show what lay there at one moment.
use Rattle.std.specs.Prelude.{◌≡◌, ◌≤◌, ℕ, List, Option}
use Rattle.ilp_journal_file.specs.declared.placing.FileIdentity.{FileIdentity}
use Rattle.ilp_backup.specs.declared.seen.Part.{Part}
use Rattle.ilp_backup.specs.declared.seen.Part.TheVariants as parts
use Rattle.ilp_backup.specs.declared.seen.Places.{Places}

-- At two times each name had the same file, or none.
abbrev pub AreSame : Places → Places → Type 0
AreSame before behind =
    (before.journal ≡ behind.journal) × (before.log ≡ behind.log) × (before.ended ≡ behind.ended) × (before.next ≡ behind.next)

-- So it had, and the same was remembered, and kept of periods.
abbrev pub StandsStill : Places → List ℕ → List ℕ → Places → List ℕ → List ℕ → Type 0
StandsStill before remembered kept behind remembered_behind kept_behind =
    AreSame before behind × (remembered ≡ remembered_behind) × (kept ≡ kept_behind)

-- ---- moments

-- which file lies at each name at each moment
abbrev pub History : Type 0
History = ℕ → Part → Option FileIdentity

-- what is seen at the name of a part
abbrev pub seen_at : Places → Part → Option FileIdentity
seen_at places parts.Journal = places.journal
seen_at places parts.Log = places.log
seen_at places parts.Ended = places.ended
seen_at places parts.Next = places.next

-- As long as the journal is the same file, what has left a name never comes back to it, be it a file or that there is none: a period ends by
-- calls that go one way, and the last of them has another file be the journal.
abbrev pub GoesOneWay : History → Type 0
GoesOneWay history =
    (first time last : ℕ) (part : Part) → first ≤ time → time ≤ last → history first parts.Journal ≡ history last parts.Journal
    → history first part ≡ history last part → history time part ≡ history first part

-- This is what looks at the names saw, each at its moment.
pub record IsSeen (history : History) (places : Places) (at : Part → ℕ) : Type 0 where
  pub is : (part : Part) → history (at part) part ≡ seen_at places part

-- the moments of first looks: the journal is looked at before all others, and each before this moment
pub record AreBefore (at : Part → ℕ) (moment : ℕ) : Type 0 where
  pub journal : (part : Part) → at parts.Journal ≤ at part
  pub each : (part : Part) → at part ≤ moment

-- the moments of looks behind it: the journal is looked at last
pub record AreBehind (at : Part → ℕ) (moment : ℕ) : Type 0 where
  pub journal : (part : Part) → at part ≤ at parts.Journal
  pub each : (part : Part) → moment ≤ at part

-- it lay at the names at this moment
abbrev pub LayThere : History → Places → ℕ → Type 0
LayThere history places moment = (part : Part) → history moment part ≡ seen_at places part
