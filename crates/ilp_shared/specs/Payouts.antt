-- Whose payouts are paused, by the names of peers, and what the report has of them.
use Rattle.std.specs.Prelude.{ℕ, pos, List, [], length, codes, Bool, not, bytes_eq, if◌then◌else◌}
use Rattle.std.specs.List.{list_any, filter, flat_map, range_with_len}
use Rattle.ilp_accounts.specs.Configuration.{Configuration, peer_at}
use Rattle.ilp_report.specs.Report.{line}

-- whether a name is among these
abbrev pub is_among : List (List ℕ) → List ℕ → Bool
is_among names name = list_any (λ other. bytes_eq other name) names

-- the others of these names
abbrev pub without : List ℕ → List (List ℕ) → List (List ℕ)
without name names = filter (λ other. not (bytes_eq other name)) names

-- the report's line of the peer at a place, if it is named
abbrev pub peer_line : List (List ℕ) → Configuration → ℕ → List ℕ
peer_line named C peer =
    let name = (peer_at C peer).name in
    if is_among named name then line (codes "paused") name (pos 1) else []

-- the report's lines of the peers that are named, in the configuration's order
abbrev pub paused_lines : List (List ℕ) → Configuration → List ℕ
paused_lines named C = flat_map (peer_line named C) (range_with_len 0 (length C.peers))
