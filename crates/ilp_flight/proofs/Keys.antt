-- All that waits is the worker's, also with one more.
use Rattle.std.proofs.Common.{◌≡◌, ℕ, Bool, true, false, ◌==◌, Option, Some, refl, sym, ap, ◌∙◌}
use Rattle.std.proofs.lemmas.Bool.{eqb-true, eqb-false}
use Rattle.slab.specs.Slab.{Slab, get, SameValues, Updates}
use Rattle.ilp_workers.specs.Pending.{PlainPending}

-- everything in the slab is this actor's
abbrev pub AreOf : Slab PlainPending → ℕ → Type 0
AreOf s actor = (key : ℕ) (p : PlainPending) → get s key ≡ Some p → p.actor ≡ actor

some_is : {p q : PlainPending} → ◌≡◌ {A = Option PlainPending} (Some p) (Some q) → p ≡ q
some_is e = cc

pub one_more : (old new : Slab PlainPending) (key actor : ℕ) (p : PlainPending) → Updates old new key (Some p) → p.actor ≡ actor → AreOf old actor → AreOf new actor
one_more old new key actor p updates is are k q at = by (k == key) refl
  where
    by : (b : Bool) → (k == key) ≡ b → q.actor ≡ actor
    by true e = ap (λ (x : PlainPending). x.actor) (some_is (sym at ∙ (ap (get new) (eqb-true k key e) ∙ updates.changed))) ∙ is
    by false e = are k q (sym (updates.others k (eqb-false k key e)) ∙ at)

-- a slab that has more room keeps what it had
pub roomier : (old new : Slab PlainPending) → new ≡ record old { capacity = new.capacity } → SameValues old new
roomier old new same key = ap (λ (s : Slab PlainPending). get s key) same

-- and with one more it has that besides
pub updated : (old mid new : Slab PlainPending) (key : ℕ) (p : PlainPending) → SameValues old mid → Updates mid new key (Some p) → Updates old new key (Some p)
updated old mid new key p same updates = record { changed = updates.changed; others = λ other off. updates.others other off ∙ same other }
