use Rattle.std.proofs.Common.{◌≡◌, List, map, Option, None, ap, ◌∙◌, rules, tests}
use Rattle.std.specs.Iterator.{Yields}
use Rattle.std.proofs.lemmas.Iterator.Consumers.{YieldsList-end, YieldsList-at}
use Rattle.std.proofs.lemmas.Iterator.{YieldsList}
use Rattle.std.proofs.lemmas.Iterator.Splits.{YieldsList-from_slice_split}
use Rattle.ilp_journal_text.specs.Fields.{octets_of}
use Rattle.ilp_follows.specs.Follows.{is_line_end}
use Rattle.ilp_follows.proofs.lines.lines_of.Goals as goal

-- those that came are all
all_of : {S A B : Type 0} {steps : S → Option A → S → Type 0} {v : A → B} {s : S} {r : Option A} (t u : S) (xs : List A) → Yields steps s xs t → r ≡ None → steps t r u → (all : List B) → YieldsList steps v s all → map v xs ≡ all
all_of t u xs yielded is step all cut = (YieldsList-end cut xs t yielded _ u is step).0

pub returns : goal.returns
returns c =
    ap octets_of c.loop-line.invariant
    ∙ all_of _ _ c.loop-line.yielded c.loop-line.yielded_by c.in-None.is c.next.ensures.steps _
    (YieldsList-at c.into_iter-line-iterator.ensures.into_iter_gives (YieldsList-from_slice_split _ is_line_end c.args.text.now c.split-line-items.ensures.rest c.split-line-items.ensures.done c.split-line-items.ensures.closure (λ x r q k. search (rules, tests))))
