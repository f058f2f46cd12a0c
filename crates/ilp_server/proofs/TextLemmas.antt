-- Texts that are written piece by piece.
use Rattle.std.proofs.Common.{◌≡◌, ℕ, List, ◌++◌, ap, sym, ◌∙◌, append_assoc}

-- two pieces of two parts each, and an end of three
pub joined : (first second third fourth fifth sixth last one two all : List ℕ) → one ≡ first ++ second → two ≡ one ++ (third ++ fourth) → all ≡ two ++ (fifth ++ (sixth ++ last))
    → all ≡ (((((first ++ second) ++ third) ++ fourth) ++ fifth) ++ sixth) ++ last
joined first second third fourth fifth sixth last one two all is_one is_two is_all =
    is_all
    ∙ ap (λ (l : List ℕ). l ++ (fifth ++ (sixth ++ last))) (is_two ∙ ap (λ (l : List ℕ). l ++ (third ++ fourth)) is_one ∙ sym (append_assoc (first ++ second) third fourth))
    ∙ sym (append_assoc (((first ++ second) ++ third) ++ fourth) fifth (sixth ++ last))
    ∙ sym (append_assoc ((((first ++ second) ++ third) ++ fourth) ++ fifth) sixth last)
