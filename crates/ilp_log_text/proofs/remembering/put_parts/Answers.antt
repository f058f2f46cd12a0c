use Rattle.std.proofs.Common.{◌≡◌, ◌++◌, ℕ, List, map, Option, None, ap, ◌∙◌, rules, tests}
use Rattle.std.specs.Iterator.{Yields}
use Rattle.std.specs.List.{flat_map}
use Rattle.std.proofs.lemmas.Iterator.Consumers.{YieldsList-end, YieldsList-at}
use Rattle.std.proofs.lemmas.Iterator.{YieldsList}
use Rattle.std.proofs.lemmas.Iterator.Splits.{YieldsList-from_slice_split}
use Rattle.ilp_log_text.specs.Remembering.{is_semicolon, whole_line}
use Rattle.ilp_log_text.proofs.remembering.put_parts.Goals as goal

-- the parts that came are all
all_of : {S A B : Type 0} {steps : S → Option A → S → Type 0} {v : A → B} {s : S} {r : Option A} (t u : S) (xs : List A) → Yields steps s xs t → r ≡ None → steps t r u → (all : List B) → YieldsList steps v s all → map v xs ≡ all
all_of t u xs yielded is step all cut = (YieldsList-end cut xs t yielded _ u is step).0

pub returns : goal.returns
returns c =
    c.loop-part.invariant
    ∙ ap (λ (parts : List (List ℕ)). c.args.text.now.items ++ flat_map whole_line parts)
    (all_of _ _ c.loop-part.yielded c.loop-part.yielded_by c.in-None.is c.next.ensures.steps _
    (YieldsList-at c.into_iter-part-iterator.ensures.into_iter_gives (YieldsList-from_slice_split _ is_semicolon c.args.line.now c.split-part-items.ensures.rest c.split-part-items.ensures.done c.split-part-items.ensures.closure (λ x r q k. search (rules, tests)))))
