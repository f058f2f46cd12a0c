use Rattle.std.proofs.Common.{◌≡◌, ℕ, ◌≤◌, None, length, sym, subst, arith}
use Rattle.ilp_journal.specs.Journal.{open_hold_at, IsBase}
use Rattle.ilp_rules.specs.Book.{PlainBook}
use Rattle.ilp_rules.specs.Judging.{behind_all}
use Rattle.ilp_rules.specs.Parts.{book_of}
use Rattle.ilp_rules.proofs.CarriedParts.{carried_parts}
use Rattle.ilp_rules.proofs.Ending.{closed_base}
use Rattle.ilp_rules.proofs.Judging.{comes_before}
use Rattle.ilp_rules.proofs.Rebasing.{parts_behind}
use Rattle.ilp_rules.proofs.beginning.Beginning.begun_with.Goals as goal

pub invariant_of-result : goal.invariant_of-result
invariant_of-result g c =
    let inside = c.carrying.inside in
    let j = inside.journal.entries in
    let carried = c.carrying.invariant in
    let none : (n : ℕ) → open_hold_at j n ≡ None = subst (λ (b : PlainBook). (n : ℕ) → open_hold_at b.entries n ≡ None) (sym c.carrying.view_is) c.requires.ended in
    let parts = carried_parts inside.config inside.period inside.journal inside.tables.tallies inside.tables.holds inside.tables.keys carried none in
    let behind : length j ≤ behind_all = omega (arith, comes_before (book_of inside.config inside.period behind_all inside.journal) parts.valid parts.lawful) in (
      parts_behind inside.config inside.period behind_all c.len-base.result inside.journal inside.tables.tallies c.set_base.new.self inside.tables.holds inside.tables.keys parts
          c.len-base.ensures.count behind c.set_base.ensures,
      subst (IsBase j) (sym c.len-base.ensures.count) (closed_base j none),
    )
