-- Where the whole lines of a file end, octet by octet.
use Rattle.std.proofs.Common.{◌≡◌, ◌≢◌, ℕ, ◌+◌, ◌<◌, ◌≤◌, List, [], ◌∷◌, ◌++◌, length, get_or, take, drop, sym, ◌∙◌, ap, append_assoc, take-append-drop}
use Rattle.std.proofs.lemmas.List.{append-nil, take_more, drop_more, drop_all}
use Rattle.ilp_line_file.specs.Text.{lines_from, recovered, text_of, IsLine, AreLines}
use Rattle.ilp_line_file.proofs.Whole.{lines_nul, line_snoc, through, recovered-text_of, text_of-append}

-- at this place whole lines have passed, which end here, and a line has begun
abbrev pub HasPassed : List ℕ → ℕ → ℕ → Type 0
HasPassed octets end at = (done : List (List ℕ)) × (part : List ℕ) × (take end octets ≡ text_of done) × (take at octets ≡ text_of done ++ part) × AreLines done × IsLine part

pub lines_snoc : (done : List (List ℕ)) (part : List ℕ) → AreLines done → IsLine part → AreLines (done ++ part ∷ [])
lines_snoc [] part are line = (line, tt)
lines_snoc (l ∷ done) part are line = (are.0, lines_snoc done part are.1 line)

stops : (octets : List ℕ) (end at : ℕ) (passed : HasPassed octets end at) → lines_from passed.1 (drop at octets) ≡ [] → take end octets ≡ text_of (recovered octets)
stops octets end at passed none =
    let done = passed.0 in
    let part = passed.1 in
    let whole : octets ≡ (text_of done ++ part) ++ drop at octets = sym (take-append-drop at octets) ∙ ap (λ (t : List ℕ). t ++ drop at octets) passed.3 in
    let lines : recovered octets ≡ done =
    ap recovered (whole ∙ append_assoc (text_of done) part (drop at octets)) ∙ recovered-text_of done (part ++ drop at octets) passed.4
    ∙ ap (λ (l : List (List ℕ)). done ++ l) (through [] part (drop at octets) passed.5 ∙ none) ∙ append-nil done in
    passed.2 ∙ ap text_of (sym lines)

pub at_nul : (octets : List ℕ) (end at : ℕ) → HasPassed octets end at → at < length octets → get_or octets at 0 ≡ 0 → take end octets ≡ text_of (recovered octets)
at_nul octets end at passed lt nul = stops octets end at passed (ap (lines_from passed.1) (drop_more octets at 0 lt) ∙ lines_nul passed.1 (get_or octets at 0) (drop (at + 1) octets) nul)

pub at_end : (octets : List ℕ) (end at : ℕ) → HasPassed octets end at → length octets ≤ at → take end octets ≡ text_of (recovered octets)
at_end octets end at passed le = stops octets end at passed (ap (lines_from passed.1) (drop_all at octets le))

pub feed_passes : (octets : List ℕ) (end at : ℕ) → HasPassed octets end at → at < length octets → get_or octets at 0 ≡ 10 → HasPassed octets (at + 1) (at + 1)
feed_passes octets end at passed lt feed =
    let done = passed.0 in
    let part = passed.1 in
    let more : take (at + 1) octets ≡ text_of (done ++ part ∷ []) =
    take_more octets at 0 lt ∙ ap (λ (t : List ℕ). t ++ get_or octets at 0 ∷ []) passed.3 ∙ ap (λ (b : ℕ). (text_of done ++ part) ++ b ∷ []) feed
    ∙ append_assoc (text_of done) part (10 ∷ []) ∙ sym (text_of-append done (part ∷ [])) in
    (done ++ part ∷ [], [], more, more ∙ sym (append-nil (text_of (done ++ part ∷ []))), lines_snoc done part passed.4 passed.5, tt)

pub octet_passes : (octets : List ℕ) (end at : ℕ) → HasPassed octets end at → at < length octets → get_or octets at 0 ≢ 0 → get_or octets at 0 ≢ 10 → HasPassed octets end (at + 1)
octet_passes octets end at passed lt not_nul not_feed =
    let done = passed.0 in
    let part = passed.1 in
    let b = get_or octets at 0 in
    (done, part ++ b ∷ [], passed.2, take_more octets at 0 lt ∙ ap (λ (t : List ℕ). t ++ b ∷ []) passed.3 ∙ append_assoc (text_of done) part (b ∷ []), passed.4, line_snoc part b passed.5 not_nul not_feed)
