use Rattle.std.proofs.Common.{◌++◌, ap, ◌∙◌, FitsSigned, w64, rules}
use Rattle.std.specs.Fmt.{signed_decimal}
use Rattle.std.proofs.lemmas.Int.{to_z-of_z}
use Rattle.ilp_journal_text.specs.Text.{after_space}
use Rattle.ilp_journal_text.proofs.LineLemmas.{ended, more}
use Rattle.ilp_journal_text.proofs.entry.put_hold.Goals as goal

pub returns-clause-octets : goal.returns-clause-octets
returns-clause-octets c =
    let from = c.word-2.ensures.octets ∙ ap (λ name. c.word.new.self ++ after_space name) c.name_of.ensures.name in
    let to = c.word-3.ensures.octets ∙ ap (λ name. c.word-2.new.self ++ after_space name) c.name_of-2.ensures.name in
    let fits : FitsSigned w64 c.args.hold.now.deadline = search rules in
    let deadline = c.signed_number.ensures.octets ∙ ap (λ z. c.number-3.new.self ++ after_space (signed_decimal z)) (to_z-of_z w64 c.args.hold.now.deadline fits) in
    let line_0 = c.args.line.now in
    let line_1 = c.word.new.self in
    let line_2 = c.word-2.new.self in
    let line_3 = c.word-3.new.self in
    let line_4 = c.number.new.self in
    let line_5 = c.number-2.new.self in
    let line_6 = c.number-3.new.self in
    let line_7 = c.signed_number.new.self in
    more line_0 line_1 _ _ _ c.word.ensures.octets (more line_1 line_2 _ _ _ from (more line_2 line_3 _ _ _ to (more line_3 line_4 _ _ _ c.number.ensures.octets
    (more line_4 line_5 _ _ _ c.number-2.ensures.octets (more line_5 line_6 _ _ _ c.number-3.ensures.octets (more line_6 line_7 _ _ _ deadline (ended line_7 _ _ c.hexadecimal.ensures.octets)))))))

-- the numbers are of their types
pub returns-clause-typed : goal.returns-clause-typed
returns-clause-typed c = record {
  amount = search rules;
  fee = search rules;
  out = search rules;
  deadline = search rules;
  condition = (search rules, c.hexadecimal.ensures.bytes);
}
