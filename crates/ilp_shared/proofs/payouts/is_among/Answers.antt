use Rattle.std.proofs.Common.{rules, tests, bytes_eq, string_bytes, sym, ◌∙◌}
use Rattle.std.proofs.lemmas.Iterator.{YieldsList-from_slice}
use Rattle.std.proofs.lemmas.Iterator.Search.{any_from_yields_List}
use Rattle.ilp_shared.proofs.NameLemmas.{list_any-map}
use Rattle.ilp_shared.proofs.payouts.is_among.Goals as goal

-- some text is this name
pub returns : goal.returns
returns c =
    let name = c.args.name.now in
    any_from_yields_List (λ text. bytes_eq (string_bytes text) name) _ _ c.any.result c.any.ensures.ran (YieldsList-from_slice c.args.named.now c.iter.ensures.rest) (λ x b q k. search (rules, tests))
    ∙ sym (list_any-map (λ other. bytes_eq other name) string_bytes c.args.named.now)
