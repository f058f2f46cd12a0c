-- What a keeper tells of what it was asked. A keeper that tells nothing is bound by nothing here.
use Rattle.std.specs.Prelude.{Bool, List, Option, Result}
use mathlib.Core.List.{IsPrefix}
use Rattle.ilp_journal.specs.Journal.{Entries}
use Rattle.ilp_link_traits.specs.Links.{Tells}
use Rattle.ilp_keeping.specs.declared.keeper.NotKept.{NotKept}

-- a journal that was to be kept, and what was said of it
pub record Keeping : Type 0 where
  pub entries : Entries
  pub said : Result (Unit {0}) NotKept

abbrev pub keeping : Entries → Result (Unit {0}) NotKept → Keeping
keeping entries said = record { entries = entries; said = said }

-- what a keeper is asked is one of these: whether entries are kept now, with what it said, or to keep a journal
pub data ToKeeper : Type 0 where
  asked : Bool → ToKeeper
  kept : Keeping → ToKeeper

-- A keeper was handed the journal that a receipt had seen, and said this of it. What the receipt has seen since begins with it.
pub record IsHanded (seen : Entries) (said : Result (Unit {0}) NotKept) (told told' : Option (List ToKeeper)) (seen' : Entries) : Type 0 where
  pub tells : Tells told (kept (keeping seen said)) told'
  pub begins : IsPrefix seen seen'
