use Rattle.std.proofs.Common.{rules, ap, ◌∙◌, map, not, bytes_eq, string_bytes}
use Rattle.std.proofs.lemmas.Fn.{filter_same}
use Rattle.ilp_shared.proofs.NameLemmas.{filter-map}
use Rattle.ilp_shared.proofs.payouts.remove.Goals as goal

-- those of another name stay
pub returns : goal.returns
returns c =
    let name = c.args.name.now in
    let old = c.args.named.now.items in
    ap (map string_bytes) (filter_same _ (λ text. not (bytes_eq (string_bytes text) name)) _ (λ x b f' k. search rules) old _ c.retain.ensures.filtered)
    ∙ filter-map (λ other. not (bytes_eq other name)) string_bytes old
