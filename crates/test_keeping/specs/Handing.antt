-- A journal of a desk that a keeper has heard of.
use Rattle.std.specs.Prelude.{◌≡◌, List, [], ◌∷◌, ◌++◌, length, map}
use Rattle.ilp_journal.specs.Journal.{Entries}
use Rattle.ilp_desk.specs.Desk.{PlainDesk}
use Rattle.ilp_desk.specs.Session.{IsSeenSince}
use Rattle.ilp_keeping.specs.Keeping.{kept, keeping}
use Rattle.ilp_workers.specs.Booked.{PlainHandedJournal}
use Rattle.test_keeping.specs.declared.telling_keeper.Heard.{Heard}
use Rattle.test_keeping.specs.Telling.{to_keeper}

-- It has heard of the journal of some book of the desk, which goes on from what was seen before, and what was said of that.
pub record HeardJournal (desk : PlainDesk) (seen : Entries) (heard : List Heard) (handed : PlainHandedJournal) (heard' : List Heard) : Type 0 where
  pub journal : Entries
  pub shown : IsSeenSince desk seen journal
  pub entries : handed.entries ≡ length journal
  pub heard_of : map to_keeper heard' ≡ map to_keeper heard ++ kept (keeping journal handed.said) ∷ []
