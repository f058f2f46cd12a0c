-- What a keeper was asked, as a list.
use Rattle.std.specs.Prelude.{Bool, List, [], ◌∷◌, ◌++◌, map, Option, Some, Ok, Err}
use Rattle.ilp_journal.specs.Journal.{Entries}
use Rattle.ilp_keeping.specs.Keeping.{ToKeeper, asked, kept, keeping}
use Rattle.test_keeping.specs.declared.telling_keeper.Heard.{Heard}
use Rattle.test_keeping.specs.declared.telling_keeper.Heard.TheVariants as heard

-- each question behind those before it
abbrev pub heard_asked : Bool → List Heard → List Heard
heard_asked said list = list ++ heard.Asked said ∷ []

abbrev pub heard_kept : Entries → List Heard → List Heard
heard_kept entries list = list ++ heard.Kept entries ∷ []

abbrev pub heard_not_kept : Entries → List Heard → List Heard
heard_not_kept entries list = list ++ heard.NotKept entries ∷ []

-- the same, as `Keeper` tells it
abbrev pub to_keeper : Heard → ToKeeper
to_keeper (heard.Asked said) = asked said
to_keeper (heard.Kept entries) = kept (keeping entries (Ok tt))
to_keeper (heard.NotKept entries) = kept (keeping entries (Err (record {})))

abbrev pub telling : List Heard → Option (List ToKeeper)
telling list = Some (map to_keeper list)
