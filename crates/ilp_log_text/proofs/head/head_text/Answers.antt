use Rattle.std.proofs.Common.{◌≡◌, ℕ, List, ◌∷◌, [], ◌++◌, codes, ap, subst, ◌∙◌, arith}
use Rattle.std.specs.Prelude.{string_bytes}
use Rattle.std.specs.Fmt.{decimal}
use Rattle.std.proofs.lemmas.Result.{IfOk-weaker}
use Rattle.sha2.specs.Sha256.{sha256}
use Rattle.hex.specs.Hex.{IsBytes, encode_lower}
use Rattle.ilp_line_file.specs.Text.{text_of}
use Rattle.ilp_log_text.specs.Head.{first_line, second_line}
use Rattle.ilp_log_text.proofs.Written.{head_are_lines, head_whole}
use Rattle.ilp_log_text.proofs.head.head_text.Goals as goal

pub returns-in_err-digest-clause-lines : goal.returns-in_err-digest-clause-lines
returns-in_err-digest-clause-lines c = head_are_lines c.args.config.now c.args.count c.args.saved.now c.peers.ensures.valid (omega arith) (subst IsBytes (c.as_slice.ensures ∙ c.digest.ensures) c.digits_of.ensures.octets)

pub returns-in_err-second-clause-lines : goal.returns-in_err-second-clause-lines
returns-in_err-second-clause-lines c = head_are_lines c.args.config.now c.args.count c.args.saved.now c.peers.ensures.valid (omega arith) (subst IsBytes (c.as_slice.ensures ∙ c.digest.ensures) c.digits_of.ensures.octets)

pub returns-clause-lines : goal.returns-clause-lines
returns-clause-lines c = head_are_lines c.args.config.now c.args.count c.args.saved.now c.peers.ensures.valid (omega arith) (subst IsBytes (c.as_slice.ensures ∙ c.digest.ensures) c.digits_of.ensures.octets)

pub returns-clause-text : goal.returns-clause-text
returns-clause-text c =
    let C = c.args.config.now in
    let number : List ℕ = decimal c.args.count in
    let digits : List ℕ = string_bytes c.in_ok-digest.digest in
    let second : List ℕ = string_bytes c.in_ok-second.second in
    let first_is : digits ≡ encode_lower (sha256 c.args.saved.now) = c.in_ok-digest.ensures.digits ∙ ap encode_lower (c.as_slice.ensures ∙ c.digest.ensures) in
    let second_is : second ≡ second_line C = c.in_ok-second.ensures in
    IfOk-weaker c.format.result _ _ (λ head is.
    is ∙ head_whole number digits second
    ∙ ap (λ (t : List ℕ). text_of ((codes "ilp-log 1 " ++ (number ++ (codes " " ++ t))) ∷ second ∷ [])) first_is
    ∙ ap (λ (t : List ℕ). text_of (first_line c.args.count (sha256 c.args.saved.now) ∷ t ∷ [])) second_is) c.format.ensures.ok
