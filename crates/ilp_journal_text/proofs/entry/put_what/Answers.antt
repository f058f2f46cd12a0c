use Rattle.std.proofs.Common.{◌≡◌, ◌++◌, sym, subst, ap, ◌∙◌, rules}
use Rattle.std.specs.List.{flat_map}
use Rattle.std.specs.Fmt.{decimal}
use Rattle.ilp_journal_text.specs.Reading.{WhatIsTyped}
use Rattle.ilp_journal_text.specs.Text.{after_space, what_fields}
use Rattle.ilp_journal_text.proofs.LineLemmas.{ended, more}
use Rattle.ilp_journal_text.proofs.entry.put_what.Goals as goal

pub returns-in-Fulfilled-clause-octets : goal.returns-in-Fulfilled-clause-octets
returns-in-Fulfilled-clause-octets c =
    let number = c.number.ensures.octets ∙ ap (λ n. c.word.new.self ++ after_space (decimal n)) c.from.ensures in
    let told = more c.args.line.now c.word.new.self _ _ _ c.word.ensures.octets (more c.word.new.self c.number.new.self _ _ _ number (ended c.number.new.self _ _ c.hexadecimal.ensures.octets)) in
    subst (λ w. c.hexadecimal.new.self ≡ c.args.line.now ++ flat_map after_space (what_fields c.args.config.now w)) (sym c.in-Fulfilled.is) told

pub returns-in-Confirmed-clause-octets : goal.returns-in-Confirmed-clause-octets
returns-in-Confirmed-clause-octets c =
    let number = c.number-in-Confirmed.ensures.octets ∙ ap (λ n. c.word-in-Confirmed.new.self ++ after_space (decimal n)) c.from-in-Confirmed.ensures in
    let told = more c.args.line.now c.word-in-Confirmed.new.self _ _ _ c.word-in-Confirmed.ensures.octets (ended c.word-in-Confirmed.new.self _ _ number) in
    subst (λ w. c.number-in-Confirmed.new.self ≡ c.args.line.now ++ flat_map after_space (what_fields c.args.config.now w)) (sym c.in-Confirmed.is) told

-- the numbers are of their types
pub returns-in-Fulfilled-clause-typed : goal.returns-in-Fulfilled-clause-typed
returns-in-Fulfilled-clause-typed c = subst WhatIsTyped (sym c.in-Fulfilled.is) (search rules, (search rules, c.hexadecimal.ensures.bytes))
