-- What the second line of a valid configuration says is what is remembered of it.
use Rattle.std.proofs.Common.{◌≡◌, ℕ, List, [], ◌∷◌, ◌++◌, length, map, refl, ◌∙◌, ap, arith, append_assoc, All, codes}
use Rattle.std.specs.List.{flat_map, slice_split}
use Rattle.std.proofs.lemmas.List.{append-nil}
use Rattle.std.proofs.lemmas.List.Elements.{All-cons, All-head, All-tail}
use Rattle.std.proofs.lemmas.List.Splits.{slice_split_none, slice_split_at}
use Rattle.ilp_accounts.specs.Configuration.{Configuration, PlainPeer}
use Rattle.ilp_accounts.specs.Valid.{IsValid, IsPeer}
use Rattle.ilp_remembered.specs.Remembered.{asset_of, run_line, peer_line, whole_peer_line, first_line, last_line, remembered_text}
use Rattle.ilp_log_text.specs.Head.{further_line, second_line}
use Rattle.ilp_log_text.specs.Remembering.{is_semicolon, whole_line, remembered_in}
use Rattle.ilp_log_text.proofs.Plain.{IsPlain, plain_part, plain_run, plain_peer}

module _ (C : Configuration) (valid : IsValid C) where
  -- a peer's part, with the space before it
  abbrev part_of : PlainPeer → List ℕ
  part_of p = 32 ∷ peer_line p.name (asset_of C p)

  -- the line is cut into its parts
  parts : (part : List ℕ) (peers : List PlainPeer) → All IsPlain part → All (IsPeer (length C.table.assets)) peers → slice_split is_semicolon (part ++ flat_map (further_line C) peers) ≡ part ∷ map part_of peers
  parts part [] plain given = ap (slice_split is_semicolon) (append-nil part) ∙ slice_split_none is_semicolon part (plain_part part plain)
  parts part (p ∷ peers) plain given =
      let peer : All IsPlain (part_of p) = All-cons IsPlain 32 (peer_line p.name (asset_of C p)) (omega arith, λ e. omega (arith, e)) (plain_peer C valid p (All-head (IsPeer (length C.table.assets)) p peers given)) in
      slice_split_at is_semicolon part 59 (part_of p ++ flat_map (further_line C) peers) (plain_part part plain) refl
      ∙ ap (λ (l : List (List ℕ)). part ∷ l) (parts (part_of p) peers peer (All-tail (IsPeer (length C.table.assets)) p peers given))

  -- and each becomes a line
  lines : (peers : List PlainPeer) → flat_map whole_line (map part_of peers) ≡ flat_map (whole_peer_line C) peers
  lines [] = refl
  lines (p ∷ peers) = ap (λ (t : List ℕ). whole_peer_line C p ++ t) (lines peers)

  pub same_text : remembered_in (second_line C) ≡ remembered_text C
  same_text =
      let run : List ℕ = run_line C.settings.run in
      let peers : List ℕ = flat_map (whole_peer_line C) C.peers in
      let cut : slice_split is_semicolon (second_line C) ≡ run ∷ map part_of C.peers = parts run C.peers (plain_run C valid) valid.peers in
      let whole : flat_map whole_line (slice_split is_semicolon (second_line C)) ≡ (run ++ codes "\n") ++ peers =
      ap (flat_map whole_line) cut ∙ ap (λ (t : List ℕ). (run ++ codes "\n") ++ t) (lines C.peers) in
      ap (λ (t : List ℕ). first_line ++ t)
      (ap (λ (t : List ℕ). t ++ last_line) whole ∙ append_assoc (run ++ codes "\n") peers last_line ∙ append_assoc run (codes "\n") (peers ++ last_line))
