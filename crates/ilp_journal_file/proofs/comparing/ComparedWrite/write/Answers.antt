use Rattle.std.proofs.Common.{◌≡◌, ◌∙◌, ℕ, ◌+◌, ◌-◌, List, ◌++◌, length, take, drop, sym, ap, arith}
use Rattle.std.proofs.Math.Seq.{take-length, take-append_seam}
use Rattle.std.proofs.lemmas.Bool.Decides.{Decides-eqb}
use Rattle.std.proofs.lemmas.List.{length-drop, take_all}
use Rattle.std.proofs.lemmas.Slice.Eq.{starts_is}
use Rattle.ilp_journal_file.proofs.Growing.{take_more}
use Rattle.ilp_journal_file.proofs.comparing.ComparedWrite.write.Goals as goal

pub returns-then-starts_with-clause-bytes : goal.returns-then-starts_with-clause-bytes
returns-then-starts_with-clause-bytes g c =
    let compared = c.args.self.now in
    let text : List ℕ = compared.text.now in
    let octets : List ℕ = c.args.octets.now in
    let back : List ℕ = drop compared.count text in
    let left : List ℕ = take (length text - compared.count) back in
    let whole : left ≡ back = take_all (length text - compared.count) back (omega (arith, length-drop compared.count text)) in
    let begins : left ≡ octets ++ drop (length octets) left = (starts_is Decides-eqb left octets c.starts_with.result c.starts_with.ensures.value).0 c.if-starts_with.true in
    let more : take (length octets) back ≡ take (length octets) octets =
    ap (λ (l : List ℕ). take (length octets) l) (sym whole ∙ begins) ∙ take-append_seam octets (drop (length octets) left) ∙ sym (take-length octets) in
    let all : take (compared.count + length octets) text ≡ take compared.count text ++ take (length octets) octets =
    take_more compared.count (length octets) text compared.within ∙ ap (λ (l : List ℕ). take compared.count text ++ l) more in
    ap (λ (l : List ℕ). take (compared.count + length octets) l) (sym compared.is) ∙ all ∙ ap (λ (l : List ℕ). take compared.count l ++ take (length octets) octets) compared.is
