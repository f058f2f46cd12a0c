-- What is found of a text.
use Rattle.std.specs.Prelude.{◌≡◌, ◌<◌, ◌+◌, ◌==◌, ◌↔◌, ℕ, Bool, true, false, List, length, Option, Some, None, IsTrue}
use Rattle.std.proofs.Common.{refl, sym, subst, arith}
use Rattle.std.proofs.lemmas.Bool.{eqb-true, eqb-false}
use Rattle.ilp_accounts.specs.Configuration.{Configuration}
use Rattle.ilp_journal.specs.Journal.{Entries}
use Rattle.ilp_remembered.specs.declared.change.Change.{Change}
use Rattle.ilp_remembered.specs.declared.change.Change.TheVariants as change
use Rattle.ilp_remembered.specs.Remembered.{is_whole, Changes, ChangesIf, FindsChange, FindsRun, FirstOf, IsChanged}

-- what a text changes counts where it is whole
pub changes_whole : (C : Configuration) (j : Entries) (text : List ℕ) (found : Option Change) → is_whole text ≡ true → Changes C j text found → FindsChange C j text found
changes_whole C j text found whole changes = subst (λ is. ChangesIf is C j text found) (sym whole) changes

-- a peer with another asset is found where the run stays
pub asset_found : (C : Configuration) (j : Entries) (text : List ℕ) (run place : Option ℕ) (peer : ℕ) → is_whole text ≡ true
    → FindsRun C j text run → run ≡ None → FirstOf (IsChanged C j text) (length C.peers) place → place ≡ Some peer → FindsChange C j text (Some (change.Asset peer))
asset_found C j text run place peer whole kept none first some =
    changes_whole C j text (Some (change.Asset peer)) whole (subst (FindsRun C j text) none kept, subst (FirstOf (IsChanged C j text) (length C.peers)) some first)

-- where P holds at none of the first places, nor at the next, it holds at none up to that
pub none_up_to : (P : ℕ → Type 0) (place : ℕ) (is : Bool) → ((before : ℕ) → before < place → ¬ (P before)) → (IsTrue is ↔ P place) → is ≡ false
    → (before : ℕ) → before < place + 1 → ¬ (P before)
none_up_to P place is others tells isnt before within = by_place (before == place) refl
  where
    by_place : (b : Bool) → (before == place) ≡ b → ¬ (P before)
    by_place true same here =
        let told : IsTrue is = tells.1 (subst P (eqb-true before place same) here) in
        let untold : IsTrue false = subst IsTrue isnt told in cc
    by_place false other here = others before (omega (arith, within, eqb-false before place other)) here
