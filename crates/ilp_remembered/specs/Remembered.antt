-- What is kept beside a journal of the configuration by which it was run: the run, and the asset of each peer.
use Rattle.std.specs.Prelude.{◌≡◌, ◌≢◌, ◌⊎◌, ◌<◌, ℕ, pos, Bool, true, false, not, ◌==◌, ◌&&◌, ◌||◌, List, ◌++◌, length, codes, Option, Some, None, slice_get, unwrap_or, bytes_eq, nat_eq, IsNone}
use Rattle.std.specs.List.{find, flat_map, slice_split, starts_with, ends_with}
use Rattle.std.specs.Fmt.{decimal}
use Rattle.ilp_assets.specs.Assets.{PlainAsset, no_asset}
use Rattle.ilp_accounts.specs.Configuration.{Configuration, PlainPeer, peer_at}
use Rattle.ilp_journal.specs.Journal.{Entries, open_holds}
use Rattle.ilp_journal.specs.Balance.{balance}
use Rattle.ilp_journal.specs.Credits.{kept_at}
use Rattle.ilp_book.specs.SettleStep.{open_settlement}
use Rattle.ilp_remembered.specs.declared.change.Change.{Change}
use Rattle.ilp_remembered.specs.declared.change.Change.TheVariants as change

-- ---- the text

-- the asset of a peer
abbrev pub asset_of : Configuration → PlainPeer → PlainAsset
asset_of C p = unwrap_or (slice_get C.table.assets p.asset) no_asset

-- what the line of a run, and that of a peer, begin with
abbrev pub run_front : List ℕ
run_front = codes "run "

abbrev pub peer_front : List ℕ → List ℕ
peer_front name = codes "peer " ++ (name ++ codes " ")

-- the lines of a run and of a peer, without their ends
abbrev pub run_line : List ℕ → List ℕ
run_line run = codes "run " ++ run

abbrev pub peer_line : List ℕ → PlainAsset → List ℕ
peer_line name asset = codes "peer " ++ (name ++ (codes " " ++ (asset.code ++ (codes " " ++ decimal asset.scale))))

-- the first line and the last one, each with its end
abbrev pub first_line : List ℕ
first_line = codes "ilp-remembered 1\n"

abbrev pub last_line : List ℕ
last_line = codes "end\n"

-- the line of a peer of a configuration, with its end
abbrev pub whole_peer_line : Configuration → PlainPeer → List ℕ
whole_peer_line C p = peer_line p.name (asset_of C p) ++ codes "\n"

-- what is remembered of a configuration
abbrev pub remembered_text : Configuration → List ℕ
remembered_text C = first_line ++ (run_line C.settings.run ++ (codes "\n" ++ (flat_map (whole_peer_line C) C.peers ++ last_line)))

-- ---- what a text says

abbrev pub ends_line : ℕ → Bool
ends_line octet = octet == 10

-- its lines, without their ends
abbrev pub lines_of : List ℕ → List (List ℕ)
lines_of text = slice_split ends_line text

-- A text counts only where it is whole: what was cut off while it was written says nothing.
abbrev pub is_whole : List ℕ → Bool
is_whole text = starts_with nat_eq text first_line && ends_with nat_eq text (codes "\nend\n")

-- the first line that begins so
abbrev pub told_line : List ℕ → List ℕ → Option (List ℕ)
told_line text front = find (λ line. starts_with nat_eq line front) (lines_of text)

-- whether a text has another line than this, of the one that begins with the front
abbrev pub is_other : List ℕ → Option (List ℕ) → Bool
is_other line None = false
is_other line (Some told) = not (bytes_eq told line)

-- whether it names another run, and another asset of the peer
abbrev pub has_other_run : Configuration → List ℕ → Bool
has_other_run C text = is_other (run_line C.settings.run) (told_line text run_front)

abbrev pub has_other_asset : Configuration → List ℕ → ℕ → Bool
has_other_asset C text peer = is_other (peer_line (peer_at C peer).name (asset_of C (peer_at C peer))) (told_line text (peer_front (peer_at C peer).name))

-- whether a text that is whole names another run, or another asset of the peer
abbrev pub is_of_another : Configuration → List ℕ → ℕ → Bool
is_of_another C text peer = is_whole text && (has_other_run C text || has_other_asset C text peer)

-- ---- what a change would make false

-- a settlement to the peer is open: another run would ask for it under another key
abbrev pub IsUnsettled : Entries → ℕ → Type 0
IsUnsettled j peer = open_settlement j peer None ≢ None

-- no key of a credit of the peer is kept, as a next period wants it of one whose asset differs
abbrev pub KeepsNoKey : Entries → ℕ → Type 0
KeepsNoKey j peer = (key : List ℕ) → IsNone (kept_at j peer key)

-- something is counted in units of the peer's asset: its balance, a hold that it sent, a settlement to it, or what a key of it answers
abbrev pub IsCounted : Entries → ℕ → Type 0
IsCounted j peer = (balance j peer ≢ pos 0) ⊎ ((open_holds j peer ≢ 0) ⊎ (IsUnsettled j peer ⊎ ¬ (KeepsNoKey j peer)))

-- something is counted in another asset than a text has of the peer
abbrev pub IsChanged : Configuration → Entries → List ℕ → ℕ → Type 0
IsChanged C j text peer = IsCounted j peer × (has_other_asset C text peer ≡ true)

-- the first of so many places at which P holds, if it does at one
abbrev pub FirstOf : (ℕ → Type 0) → ℕ → Option ℕ → Type 0
FirstOf P count (Some place) = (place < count) × P place × ((before : ℕ) → before < place → ¬ (P before))
FirstOf P count None = (place : ℕ) → place < count → ¬ (P place)

-- a text has the same run, or no settlement is open
abbrev pub KeepsRun : Configuration → Entries → List ℕ → Type 0
KeepsRun C j text = has_other_run C text ≡ true → FirstOf (IsUnsettled j) (length C.peers) None

-- another run, and the first peer with an open settlement
abbrev pub FindsRun : Configuration → Entries → List ℕ → Option ℕ → Type 0
FindsRun C j text (Some peer) = (has_other_run C text ≡ true) × FirstOf (IsUnsettled j) (length C.peers) (Some peer)
FindsRun C j text None = KeepsRun C j text

-- Of a text that is whole: another run; else the first peer in whose asset something is counted, and of which the text has another.
abbrev pub Changes : Configuration → Entries → List ℕ → Option Change → Type 0
Changes C j text (Some (change.Run peer)) = FindsRun C j text (Some peer)
Changes C j text (Some (change.Asset peer)) = KeepsRun C j text × FirstOf (IsChanged C j text) (length C.peers) (Some peer)
Changes C j text None = KeepsRun C j text × FirstOf (IsChanged C j text) (length C.peers) None

-- a text that is not whole changes nothing
abbrev pub ChangesIf : Bool → Configuration → Entries → List ℕ → Option Change → Type 0
ChangesIf true C j text found = Changes C j text found
ChangesIf false C j text found = found ≡ None

abbrev pub FindsChange : Configuration → Entries → List ℕ → Option Change → Type 0
FindsChange C j text found = ChangesIf (is_whole text) C j text found
