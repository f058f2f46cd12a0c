use Rattle.std.proofs.Common.{sym, subst, rules}
use Rattle.ilp_warnings.specs.Meaning.{IsShort, IsExample}
use Rattle.ilp_warnings.proofs.Keeping.{on_ok, on_ok_both}
use Rattle.ilp_warnings.proofs.peers.tell_tokens.Goals as goal

pub returns-clause-kept : goal.returns-clause-kept
returns-clause-kept c = on_ok c.tell.result (λ k w has. k w (c.in_ok-tell_token-2.ensures.kept w (c.in_ok-tell_token.ensures.kept w has))) c.tell.ensures.kept

pub returns-clause-tokens : goal.returns-clause-tokens
returns-clause-tokens c =
    let first = c.in_ok-tell_token.ensures in
    let second = c.in_ok-tell_token-2.ensures in
    let token = sym c.token-token.ensures in
    let out_token = sym c.out_token-out_token.ensures in
    on_ok_both c.tell.result
    (λ k told. record {
      short = λ h. k _ (second.kept _ (first.short (subst IsShort token h)));
      short_out = λ h. k _ (second.short (subst IsShort out_token h));
      example = λ h. k _ (second.kept _ (first.example (subst IsExample token h)));
      example_out = λ h. k _ (second.example (subst IsExample out_token h));
      same = λ h. told (search (rules, h));
    })
    c.tell.ensures.kept c.tell.ensures.told
