-- The two first lines, as they are written.
use Rattle.std.proofs.Common.{◌≡◌, ℕ, pos, ◌+◌, ◌^◌, ◌<◌, List, [], ◌∷◌, ◌++◌, length, take, get_or, refl, sym, ◌∙◌, ap, arith, append_assoc, All, codes}
use Rattle.std.specs.List.{flat_map}
use Rattle.std.specs.Fmt.{decimal}
use Rattle.std.proofs.lemmas.Grind.{flat_map-append}
use Rattle.std.proofs.lemmas.List.{append-nil, take_more}
use Rattle.std.proofs.lemmas.List.Elements.{All-head, All-tail}
use Rattle.sha2.specs.Sha256.{sha256}
use Rattle.hex.specs.Hex.{IsBytes, encode_lower}
use Rattle.ilp_accounts.specs.Configuration.{Configuration, PlainPeer}
use Rattle.ilp_accounts.specs.Valid.{IsValid, IsPeer}
use Rattle.ilp_journal_text.proofs.Ink.{IsInk, moment_ink, hex_ink}
use Rattle.ilp_line_file.specs.Text.{IsLine, AreLines, text_of}
use Rattle.ilp_remembered.specs.Remembered.{run_line, peer_line, asset_of}
use Rattle.ilp_log_text.specs.Head.{first_line, second_line, further_line, head_lines}
use Rattle.ilp_log_text.proofs.Plain.{word_plain, plain_line, plain_run, plain_peer}

-- ---- they are lines

pub line_append : (xs ys : List ℕ) → IsLine xs → IsLine ys → IsLine (xs ++ ys)
line_append [] ys x y = y
line_append (b ∷ xs) ys x y = (x.0, x.1, line_append xs ys x.2 y)

pub ink_line : (xs : List ℕ) → All IsInk xs → IsLine xs
ink_line [] ink = tt
ink_line (b ∷ xs) ink =
    let above : IsInk b = All-head IsInk b xs ink in
    (λ e. omega (arith, above, e), λ e. omega (arith, above, e), ink_line xs (All-tail IsInk b xs ink))

first_is_line : (count : ℕ) (digest : List ℕ) → count < 2 ^ 32 → IsBytes digest → IsLine (first_line count digest)
first_is_line count digest fits bytes =
    let number : IsLine (decimal count) = ink_line (decimal count) (moment_ink (pos count) (record { sfits = omega (arith, fits) })) in
    let digits : IsLine (encode_lower digest) = ink_line (encode_lower digest) (hex_ink digest bytes) in
    let space : IsLine (codes " ") = plain_line (codes " ") (word_plain (codes " ") refl) in
    line_append (codes "ilp-log 1 ") (decimal count ++ (codes " " ++ encode_lower digest)) (plain_line (codes "ilp-log 1 ") (word_plain (codes "ilp-log 1 ") refl))
    (line_append (decimal count) (codes " " ++ encode_lower digest) number (line_append (codes " ") (encode_lower digest) space digits))

module _ (C : Configuration) (valid : IsValid C) where
  further_is_line : (peers : List PlainPeer) → All (IsPeer (length C.table.assets)) peers → IsLine (flat_map (further_line C) peers)
  further_is_line [] given = tt
  further_is_line (p ∷ peers) given =
      let peer : IsLine (peer_line p.name (asset_of C p)) = plain_line (peer_line p.name (asset_of C p)) (plain_peer C valid p (All-head (IsPeer (length C.table.assets)) p peers given)) in
      let front : IsLine (codes "; ") = (λ e. omega (arith, e), λ e. omega (arith, e), (λ e. omega (arith, e), λ e. omega (arith, e), tt)) in
      line_append (further_line C p) (flat_map (further_line C) peers) (line_append (codes "; ") (peer_line p.name (asset_of C p)) front peer)
      (further_is_line peers (All-tail (IsPeer (length C.table.assets)) p peers given))

  second_is_line : IsLine (second_line C)
  second_is_line = line_append (run_line C.settings.run) (flat_map (further_line C) C.peers) (plain_line (run_line C.settings.run) (plain_run C valid)) (further_is_line C.peers valid.peers)

pub head_are_lines : (C : Configuration) (count : ℕ) (saved : List ℕ) → IsValid C → count < 2 ^ 32 → IsBytes (sha256 saved) → AreLines (head_lines C count saved)
head_are_lines C count saved valid fits bytes = (first_is_line count (sha256 saved) fits bytes, (second_is_line C valid, tt))

-- ---- they are written

pub head_whole : (number digits second : List ℕ) → codes "ilp-log 1 " ++ (number ++ (codes " " ++ (digits ++ (codes "\n" ++ (second ++ codes "\n")))))
    ≡ text_of ((codes "ilp-log 1 " ++ (number ++ (codes " " ++ digits))) ∷ second ∷ [])
head_whole number digits second = ap (λ (t : List ℕ). codes "ilp-log 1 " ++ t) (sym (append_assoc number (codes " " ++ digits) (codes "\n" ++ (second ++ codes "\n"))))

-- what stands of the peers as far as one, and of that
pub further_next : (C : Configuration) (front : List ℕ) (peers : List PlainPeer) (n : ℕ) (d : PlainPeer) → n < length peers
    → ((front ++ flat_map (further_line C) (take n peers)) ++ codes "; ") ++ peer_line (get_or peers n d).name (asset_of C (get_or peers n d)) ≡ front ++ flat_map (further_line C) (take (n + 1) peers)
further_next C front peers n d within =
    let f : PlainPeer → List ℕ = further_line C in
    let before : List ℕ = flat_map f (take n peers) in
    let p : PlainPeer = get_or peers n d in
    let next : flat_map f (take (n + 1) peers) ≡ before ++ f p =
    ap (flat_map f) (take_more peers n d within) ∙ flat_map-append f (take n peers) (p ∷ []) ∙ ap (λ (t : List ℕ). before ++ t) (append-nil (f p)) in
    append_assoc (front ++ before) (codes "; ") (peer_line p.name (asset_of C p)) ∙ append_assoc front before (f p) ∙ ap (λ (t : List ℕ). front ++ t) (sym next)
