use Rattle.std.proofs.Common.{Ok, length, ap, sym, subst, ◌∙◌, arith, inl}
use Rattle.std.proofs.lemmas.List.{length-take, length-replicate}
use Rattle.hex.proofs.HexLemmas.{length-encode_with}
use Rattle.hex.specs.Hex.{lower_digits}
use Rattle.std.proofs.lemmas.Bool.{false≢true}
use Rattle.std.specs.Option.{IsSome}
use Rattle.ilp_journal.specs.Keys.{IsKey}
use Rattle.ilp_journal_text.proofs.Hexadecimal.{octets_back}
use Rattle.ilp_journal_text.proofs.fields.key_in.Goals as goal

pub returns-then-digits-clause-read : goal.returns-then-digits-clause-read
returns-then-digits-clause-read c = λ k key bytes is. absurd (omega (arith, key, c.if-digits.true, ap length is ∙ length-encode_with lower_digits k))

pub returns-in_default-clause-read : goal.returns-in_default-clause-read
returns-in_default-clause-read c = λ k key bytes is.
    let half = ap length is ∙ length-encode_with lower_digits k in
    let read = octets_back c.args.field.now _ _ c.decode_to_slice.new.out c.decode_to_slice.ensures.value k (simp (length-take, length-replicate) (omega (arith, half, key, c.if-digits.false)), bytes) is in
    absurd (c.in_default.not-Ok tt read.0)

pub returns-in-Ok-Some-clause-read : goal.returns-in-Ok-Some-clause-read
returns-in-Ok-Some-clause-read c = λ k key bytes is.
    let half = ap length is ∙ length-encode_with lower_digits k in
    let read = octets_back c.args.field.now _ _ c.decode_to_slice.new.out c.decode_to_slice.ensures.value k (simp (length-take, length-replicate) (omega (arith, half, key, c.if-digits.false)), bytes) is in
    let same = rw c.in-Ok-Some.field-0-is at c.in-Ok-Some.ensures.octets in
    inl (ap Ok (same ∙ read.1))

pub returns-in-Ok-None-clause-read : goal.returns-in-Ok-None-clause-read
returns-in-Ok-None-clause-read c = λ k key bytes is.
    let half = ap length is ∙ length-encode_with lower_digits k in
    let read = octets_back c.args.field.now _ _ c.decode_to_slice.new.out c.decode_to_slice.ensures.value k (simp (length-take, length-replicate) (omega (arith, half, key, c.if-digits.false)), bytes) is in
    let there : IsSome c.in-Ok-None.field-0 = c.in-Ok-None.ensures.made.1 (subst IsKey (sym read.1) key) in
    absurd (false≢true (rw c.in-Ok-None.field-0-is at there))
