-- A walk over a journal beside an actor's list.
use Rattle.std.proofs.Common.{◌≡◌, ◌≢◌, ℕ, zero, suc, ◌+◌, ◌<◌, ◌≤◌, ◌==◌, cond, List, [], ◌∷◌, ◌++◌, length, take, drop, Option, Some, None, option_to_list, option_and_then, slice_get, refl, sym, ap, ◌∙◌, arith, add-one, append_assoc}
use Rattle.ilp_journal.specs.declared.entry.Entry.{Entry}
use Rattle.ilp_journal.specs.Journal.{Entries}
use Rattle.ilp_desk.specs.declared.record.Record.{Record}
use Rattle.ilp_desk.specs.Records.{listed_from, record_of, record_by, actor_records}

-- what stands at a place, and the list from there on
drop_get : {X : Type 0} (xs : List X) (k : ℕ) → k < length xs → (x : X) × (slice_get xs k ≡ Some x) × (drop k xs ≡ x ∷ drop (k + 1) xs)
drop_get [] k less = absurd (omega arith)
drop_get (x ∷ xs) zero less = (x, refl, refl)
drop_get (x ∷ xs) (suc k) less =
    let r = drop_get xs k (omega arith) in (r.0, r.1, r.2 ∙ rw (add-one, add-one))

-- an actor's records from a place on are that of the entry there, if there is one, and those after it
records-step : (j : Entries) (actor k : ℕ) → k < length j → actor_records j k actor ≡ option_to_list (record_by j k actor) ++ actor_records j (k + 1) actor
records-step j actor k less =
    let at = drop_get j k less in
    ap (listed_from (λ n (e : Entry). cond (actor == e.actor) (record_of j n e) None) k) at.2
    ∙ sym (ap (λ (o : Option Entry). option_to_list (option_and_then (λ (e : Entry). cond (actor == e.actor) (record_of j k e) None) o) ++ actor_records j (k + 1) actor) at.1)

pub records_none : (j : Entries) (actor k : ℕ) → k < length j → record_by j k actor ≡ None → actor_records j k actor ≡ actor_records j (k + 1) actor
records_none j actor k less none =
    records-step j actor k less ∙ ap (λ (o : Option Record). option_to_list o ++ actor_records j (k + 1) actor) none

records_some : (j : Entries) (actor k : ℕ) (r : Record) → k < length j → record_by j k actor ≡ Some r → actor_records j k actor ≡ r ∷ actor_records j (k + 1) actor
records_some j actor k r less some =
    records-step j actor k less ∙ ap (λ (o : Option Record). option_to_list o ++ actor_records j (k + 1) actor) some

-- what the walk meets next
pub walks : (j : Entries) (kept all : List Record) (actor next k : ℕ) (r : Record) → all ≡ take next kept ++ actor_records j k actor → k < length j → record_by j k actor ≡ Some r
    → all ≡ take next kept ++ r ∷ actor_records j (k + 1) actor
walks j kept all actor next k r so_far less some =
    so_far ∙ ap (λ (rs : List Record). take next kept ++ rs) (records_some j actor k r less some)

get_some : {X : Type 0} (xs : List X) (k : ℕ) (x : X) → slice_get xs k ≡ Some x → (k < length xs) × (take (k + 1) xs ≡ take k xs ++ x ∷ [])
get_some [] k x some = absurd (cc)
get_some (y ∷ xs) zero x some = (omega arith, ap (λ z. z ∷ []) (cc))
get_some (y ∷ xs) (suc k) x some =
    let r = get_some xs k x some in (omega (arith, r.0), rw add-one (ap (λ ys. y ∷ ys) (rw add-one at r.1)))

get_after : {X : Type 0} (xs rest : List X) (k : ℕ) (x : X) → k ≤ length xs → slice_get (take k xs ++ x ∷ rest) k ≡ Some x
get_after xs rest zero x le = refl
get_after [] rest (suc k) x le = absurd (omega arith)
get_after (y ∷ xs) rest (suc k) x le = get_after xs rest k x (omega arith)

module _ (kept all rest : List Record) (next : ℕ) (r : Record) (within : next ≤ length kept) (walked : all ≡ take next kept ++ r ∷ rest) where
  -- a list that has something else at the place that the walk came to is another list
  pub has_next : slice_get kept next ≢ Some r → kept ≢ all
  has_next other same =
      other (ap (λ (rs : List Record). slice_get rs next) (same ∙ walked) ∙ get_after kept rest next r within)

  -- one that has it is walked one place further
  pub one_more : slice_get kept next ≡ Some r → (next + 1 ≤ length kept) × (all ≡ take (next + 1) kept ++ rest)
  one_more some =
      let at = get_some kept next r some in (
        omega (arith, at.0),
        walked ∙ (sym (append_assoc (take next kept) (r ∷ []) rest) ∙ ap (λ (rs : List Record). rs ++ rest) (sym at.1)),
      )
