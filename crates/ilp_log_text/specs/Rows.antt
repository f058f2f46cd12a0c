-- Worked lines, of a configuration with two peers. The digests are those of `sha256sum`.
use Rattle.std.specs.Prelude.{◌≡◌, ℕ, List, [], ◌∷◌, ◌++◌, codes, None}
use Rattle.ilp_accounts.specs.Configuration.{Configuration, PlainPeer, nobody}
use Rattle.ilp_accounts.specs.declared.settings.LogSync.TheVariants.{Group}
use Rattle.ilp_line_file.specs.Text.{recovered}
use Rattle.ilp_log_text.specs.Head.{head_lines}
use Rattle.ilp_log_text.specs.Remembering.{remembered_in}
use Rattle.ilp_log_text.specs.Text.{PlainLogText, IsIn}

abbrev pub in_asset : List ℕ → ℕ → PlainPeer
in_asset name asset = record nobody { name = name; asset = asset }

abbrev pub config : Configuration
config = record {
  settings = record {
    address = codes "test.hub";
    run = codes "r1";
    listen = [];
    engine_listen = [];
    path = [];
    workers = 1;
    journal = 16;
    window_ms = 1000;
    max_hold_ms = 30000;
    sweep_ms = 100;
    settle_ms = 1000;
    sync = Group;
    in_flight = 4096;
    new_period_at = None;
  };
  table = record { assets = record { code = codes "USD"; scale = 2 } ∷ record { code = codes "XRP"; scale = 9 } ∷ []; prices = [] };
  peers = in_asset (codes "alice") 1 ∷ in_asset (codes "bob") 0 ∷ [];
  routes = [];
}

abbrev pub run_and_peers : List ℕ
run_and_peers = codes "run r1; peer alice XRP 9; peer bob USD 2"

-- a log where no journal was saved yet
abbrev pub NewRow : Type 0
NewRow = head_lines config 0 [] ≡ codes "ilp-log 1 0 e3b0c44298fc1c149afbf4c8996fb92427ae41e4649b934ca495991b7852b855" ∷ run_and_peers ∷ []

-- one that goes on from a journal without an entry
abbrev pub SavedRow : Type 0
SavedRow = head_lines config 0 (codes "ilp-journal 1\nend 0\n") ≡ codes "ilp-log 1 0 e968ab640180a7bde70ea4aec1a9b4e52948b466ae66e746957d88f9aae94f33" ∷ run_and_peers ∷ []

-- what a crash left behind the whole lines is no line
abbrev pub TornRow : Type 0
TornRow = recovered (codes "ilp-log 1\nrun r1\n600 0 confirmed 3\n700 0 conf" ++ 0 ∷ 0 ∷ codes "med 4\n") ≡ codes "ilp-log 1" ∷ codes "run r1" ∷ codes "600 0 confirmed 3" ∷ []

-- what is remembered by the second line
abbrev pub RememberedRow : Type 0
RememberedRow = remembered_in run_and_peers ≡ codes "ilp-remembered 1\nrun r1\npeer alice XRP 9\npeer bob USD 2\nend\n"

-- a log of the second of two entries, in a journal that has both
abbrev pub confirmed : PlainLogText
confirmed = record { count = 1; digest = []; remembered = codes "run r1"; lines = codes "700 0 confirmed 0" ∷ [] }

abbrev pub LaterRow : Type 0
LaterRow = IsIn confirmed (codes "ilp-journal 1\n600 0 asked bob 800\n700 0 confirmed 0\nend 2\n")

-- the same in the journal of a later period, which begins with what was brought forward
abbrev pub NextRow : Type 0
NextRow = IsIn confirmed (codes "ilp-journal 2 17\n600 0 pending bob 800 72312d30\n700 0 confirmed 0\nend 2\n")

-- and in one that was saved before the second
abbrev pub EarlierRow : Type 0
EarlierRow = ¬ (IsIn confirmed (codes "ilp-journal 1\n600 0 asked bob 800\nend 1\n"))
