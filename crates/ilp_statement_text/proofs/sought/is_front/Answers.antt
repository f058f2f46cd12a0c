use Rattle.std.proofs.Common.{◌≡◌, ℕ, List, length, map, take, bytes_eq, ap, sym, ◌∙◌}
use Rattle.std.proofs.lemmas.Bool.Decides.{Decides-like, same_from_decides}
use Rattle.std.proofs.lemmas.List.{take_min}
use Rattle.std.proofs.lemmas.Slice.Eq.{bytes_eq-Decides}
use Rattle.std.specs.Char.{to_ascii_lowercase}
use Rattle.ilp_statement_text.proofs.sought.is_front.Goals as goal

pub returns : goal.returns
returns c =
    let all : List ℕ = c.args.of.now in
    let digits : List ℕ = c.args.digits.now in
    let same : map to_ascii_lowercase (take c.min-count.result all) ≡ map to_ascii_lowercase (take (length digits) all) =
    ap (λ (n : ℕ). map to_ascii_lowercase (take n all)) c.min-count.ensures ∙ ap (map to_ascii_lowercase) (take_min (length digits) all) in
    same_from_decides c.eq_ignore_ascii_case.result (bytes_eq (map to_ascii_lowercase (take (length digits) all)) (map to_ascii_lowercase digits))
    (Decides-like c.eq_ignore_ascii_case.result (λ is. sym same ∙ is) (λ is. same ∙ is) c.eq_ignore_ascii_case.ensures.test)
    (bytes_eq-Decides (map to_ascii_lowercase (take (length digits) all)) (map to_ascii_lowercase digits))
