use Rattle.std.proofs.Common.{◌++◌, ap, ◌∙◌, FitsSigned, w64, rules}
use Rattle.std.specs.Fmt.{signed_decimal}
use Rattle.std.proofs.lemmas.Int.{to_z-of_z}
use Rattle.ilp_journal_text.specs.Text.{after_space}
use Rattle.ilp_journal_text.proofs.LineLemmas.{ended, more}
use Rattle.ilp_journal_text.proofs.entry.put_opened.Goals as goal

pub returns-clause-octets : goal.returns-clause-octets
returns-clause-octets c =
    let fits : FitsSigned w64 c.args.balance = search rules in
    let name = c.word-2.ensures.octets ∙ ap (λ name. c.word.new.self ++ after_space name) c.name_of.ensures.name in
    let balance = c.signed_number.ensures.octets ∙ ap (λ z. c.word-2.new.self ++ after_space (signed_decimal z)) (to_z-of_z w64 c.args.balance fits) in
    more c.args.line.now c.word.new.self _ _ _ c.word.ensures.octets (more c.word.new.self c.word-2.new.self _ _ _ name (ended c.word-2.new.self _ _ balance))
