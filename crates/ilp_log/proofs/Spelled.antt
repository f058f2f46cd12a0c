-- A line of the journal's text is one of a file of lines.
use Rattle.std.proofs.Common.{◌≡◌, ◌≢◌, ℕ, false, List, [], ◌∷◌, ◌++◌, sym, ◌∙◌, subst, arith, All}
use Rattle.std.proofs.lemmas.Bool.Decides.{nat_tests}
use Rattle.std.proofs.lemmas.List.{append_cancel_right}
use Rattle.std.proofs.lemmas.List.Elements.{All-head, All-tail}
use Rattle.ilp_journal_text.specs.Fields.{is_line_end}
use Rattle.ilp_journal_text.specs.Reading as text
use Rattle.ilp_line_file.specs.Text.{IsLine}

abbrev IsClean : ℕ → Type 0
IsClean octet = is_line_end octet ≡ false

abbrev IsNoNul : ℕ → Type 0
IsNoNul octet = octet ≢ 0

no_feed : (b : ℕ) → IsClean b → b ≢ 10
no_feed b clean = grind (arith, nat_tests)

clean_line : (body : List ℕ) → All IsClean body → All IsNoNul (body ++ 10 ∷ []) → IsLine body
clean_line [] clean no_nul = tt
clean_line (b ∷ body) clean no_nul =
    let rest : List ℕ = body ++ 10 ∷ [] in
    (All-head IsNoNul b rest no_nul, no_feed b (All-head IsClean b body clean), clean_line body (All-tail IsClean b body clean) (All-tail IsNoNul b rest no_nul))

-- what stands before its line feed
pub words_line : (words line : List ℕ) → words ++ 10 ∷ [] ≡ line → text.IsLine line → text.HasNoNul line → IsLine words
words_line words line is whole no_nul =
    let same : whole.body ≡ words = append_cancel_right whole.body words (10 ∷ []) (sym whole.whole ∙ sym is) in
    clean_line words (subst (λ (l : List ℕ). All IsClean l) same whole.clean) (subst (λ (l : List ℕ). All IsNoNul l) (sym is) no_nul)
