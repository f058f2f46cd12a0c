use Rattle.std.proofs.Common.{◌≡◌, sym, subst, arith, rules}
use Rattle.std.proofs.lemmas.Grind.{common_steps}
use Rattle.ilp_journal_text.specs.Text.{entry_line}
use Rattle.ilp_journal_text.specs.Reading.{HasNoNul, IsLine, IsTyped}
use Rattle.ilp_journal_text.proofs.Awaited.{typed_line, typed_no_nul}
use Rattle.ilp_journal_text.proofs.entry.entry_line.Goals as goal

-- the only line feed is the end
pub returns-clause-line : goal.returns-clause-line
returns-clause-line c =
    let octets : c.end.new.self ≡ entry_line c.args.config.now c.args.entry.now = grind (arith, common_steps) in
    let typed : IsTyped c.args.entry.now = record { moment = search rules; actor = search rules; what = c.put_what.ensures.typed } in
    subst IsLine (sym octets) (typed_line c.args.config.now c.peers.ensures.valid c.args.entry.now typed)

pub returns-clause-no_nul : goal.returns-clause-no_nul
returns-clause-no_nul c =
    let octets : c.end.new.self ≡ entry_line c.args.config.now c.args.entry.now = grind (arith, common_steps) in
    let typed : IsTyped c.args.entry.now = record { moment = search rules; actor = search rules; what = c.put_what.ensures.typed } in
    subst HasNoNul (sym octets) (typed_no_nul c.args.config.now c.peers.ensures.valid c.args.entry.now typed)
