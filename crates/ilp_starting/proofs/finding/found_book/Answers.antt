use Rattle.std.proofs.Common.{◌≡◌, ℕ, List, Option, subst, inr, w64, to_z, of_z}
use Rattle.ilp_starting.specs.Beginning.{BeginsBy}
use Rattle.ilp_starting.specs.Sources.{IsSource}
use Rattle.ilp_starting.proofs.finding.found_book.Goals as goal

-- what holds of the octets that are read holds of what was found
of_found : (P : Option (List ℕ) → Option (List ℕ) → Type 0) (read text logged log : Option (List ℕ)) → read ≡ text → logged ≡ log → P read logged → P text log
of_found P read text logged log is has holds = subst (λ (l : Option (List ℕ)). P text l) has (subst (λ (t : Option (List ℕ)). P t logged) is holds)

-- there is a book, which is not taken
pub returns-in-Err-clause-refused : goal.returns-in-Err-clause-refused
returns-in-Err-clause-refused g c =
    let carried = c.in_ok-carried.carried in
    let now = to_z w64 (of_z w64 c.now-now.result) in
    let is = c.octets_of-text.ensures in
    let has = c.octets_of-log.ensures in
    inr (
      carried.book,
      carried.source,
      (now, of_found (λ (t l : Option (List ℕ)). BeginsBy c.args.config.now t l now carried.book) _ _ _ _ is has c.in_ok-carried.ensures.begins),
      of_found (λ (t l : Option (List ℕ)). IsSource t l carried.source) _ _ _ _ is has c.in_ok-carried.ensures.source,
      c.in-Err.ensures.err,
    )
