-- What a keeper has heard.
use Rattle.std.specs.Prelude.{List}
use Rattle.test_keeping.specs.declared.telling_keeper.Heard.{Heard}
use Rattle.test_keeping.specs.declared.telling_keeper.TellingKeeper.{TellingKeeper}

abbrev pub heard_by : {J K : Type 0} → TellingKeeper J K → List Heard
heard_by k = k.heard
