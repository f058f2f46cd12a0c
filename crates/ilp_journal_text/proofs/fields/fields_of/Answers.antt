use Rattle.std.proofs.Common.{◌≡◌, ◌<◌, List, length, map, Option, Some, None, ap, ◌∙◌, arith, rules, tests}
use Rattle.std.specs.Iterator.{Yields}
use Rattle.std.proofs.lemmas.Iterator.Consumers.{YieldsList-turn, YieldsList-end, YieldsList-at}
use Rattle.std.proofs.lemmas.Iterator.{YieldsList}
use Rattle.std.proofs.lemmas.Iterator.Splits.{YieldsList-from_slice_split}
use Rattle.ilp_journal_text.specs.Fields.{is_space, octets_of}
use Rattle.ilp_journal_text.proofs.fields.fields_of.Goals as goal

-- a field that comes is one of all
one_of : {S A B : Type 0} {steps : S → Option A → S → Type 0} {v : A → B} {s : S} {r : Option A} {x : A} (t u : S) (xs : List A) → Yields steps s xs t → r ≡ Some x → steps t r u → (all : List B) → YieldsList steps v s all → length xs < length all
one_of t u xs yielded is step all cut = (YieldsList-turn cut xs t yielded _ u _ is step).0

-- those that came are all
all_of : {S A B : Type 0} {steps : S → Option A → S → Type 0} {v : A → B} {s : S} {r : Option A} (t u : S) (xs : List A) → Yields steps s xs t → r ≡ None → steps t r u → (all : List B) → YieldsList steps v s all → map v xs ≡ all
all_of t u xs yielded is step all cut = (YieldsList-end cut xs t yielded _ u is step).0

pub returns-in_default-clause-err : goal.returns-in_default-clause-err
returns-in_default-clause-err c =
    let few = one_of _ _ c.loop-field.yielded c.loop-field.yielded_by c.in-Some.is c.next.ensures.steps _
    (YieldsList-at c.into_iter-field-iterator.ensures.into_iter_gives (YieldsList-from_slice_split _ is_space c.args.line.now c.split-field-items.ensures.rest c.split-field-items.ensures.done c.split-field-items.ensures.closure (λ x r q k. search (rules, tests)))) in
    omega (arith, few, ap length c.loop-field.invariant, c.in_default.ensures.full)

pub returns-clause-ok : goal.returns-clause-ok
returns-clause-ok c =
    ap octets_of c.loop-field.invariant
    ∙ all_of _ _ c.loop-field.yielded c.loop-field.yielded_by c.in-None.is c.next.ensures.steps _
    (YieldsList-at c.into_iter-field-iterator.ensures.into_iter_gives (YieldsList-from_slice_split _ is_space c.args.line.now c.split-field-items.ensures.rest c.split-field-items.ensures.done c.split-field-items.ensures.closure (λ x r q k. search (rules, tests))))
