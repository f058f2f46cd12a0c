-- What a change makes of a file is one of what a crash may leave of it.
use Rattle.std.proofs.Common.{◌≡◌, ◌⊎◌, inl, inr, ℕ, zero, suc, ◌+◌, ◌<◌, ◌≤◌, List, [], ◌∷◌, ◌++◌, length, take, drop, min, refl, sym, ◌∙◌, ap, subst, arith, append_assoc}
use Rattle.std.proofs.lemmas.Grind.{common_steps}
use Rattle.std.specs.Prelude.{get_or}
use Rattle.std.proofs.lemmas.List.{take_at, drop_at, drop_all, drop_more, length-take-le}
use Rattle.ilp_line_file.specs.Device.{IsMixed, Torn, Cut, Holds, Follows}
use Rattle.test_tearing.specs.declared.change.Change.{Change}
use Rattle.test_tearing.specs.declared.change.Change.TheVariants as change
use Rattle.test_tearing.specs.Tearing.{put, changed, MayChange, after, MayLeave}

made_is_mixed : (old octets : List ℕ) → IsMixed old octets (octets ++ drop (length octets) old)
made_is_mixed old [] = refl
made_is_mixed [] (b ∷ octets) = (inl refl, made_is_mixed_past octets)
  where
    made_is_mixed_past : (octets : List ℕ) → IsMixed [] octets (octets ++ [])
    made_is_mixed_past [] = refl
    made_is_mixed_past (b ∷ octets) = (inl refl, made_is_mixed_past octets)
made_is_mixed (o ∷ old) (b ∷ octets) = (inl refl, made_is_mixed old octets)

same_is_mixed : (old octets : List ℕ) → IsMixed old octets old
same_is_mixed old [] = refl
same_is_mixed [] (b ∷ octets) = tt
same_is_mixed (o ∷ old) (b ∷ octets) = (inr refl, same_is_mixed old octets)

-- nothing is written
pub torn_same : (at : ℕ) (octets old : List ℕ) → Torn at octets old old
torn_same at octets old = record { before = refl; range = same_is_mixed (drop at old) octets }

front_of_put : (at : ℕ) (octets old : List ℕ) → take at (put at octets old) ≡ take at old
front_of_put zero octets old = refl
front_of_put (suc at) octets [] = refl
front_of_put (suc at) octets (o ∷ old) = ap (λ (l : List ℕ). o ∷ l) (front_of_put at octets old)

rest_of_put : (at : ℕ) (octets old : List ℕ) → IsMixed (drop at old) octets (drop at (put at octets old))
rest_of_put zero octets old = made_is_mixed old octets
rest_of_put (suc at) octets [] = same_is_mixed [] octets
rest_of_put (suc at) octets (o ∷ old) = rest_of_put at octets old

-- all is written
pub torn_put : (at : ℕ) (octets old : List ℕ) → Torn at octets old (put at octets old)
torn_put at octets old = record { before = front_of_put at octets old; range = rest_of_put at octets old }

pub put_behind : (at : ℕ) (octets old : List ℕ) → length old < at → put at octets old ≡ old
put_behind zero octets old lt = absurd (omega (arith, lt))
put_behind (suc at) octets [] lt = refl
put_behind (suc at) octets (o ∷ old) lt = ap (λ (l : List ℕ). o ∷ l) (put_behind at octets old (omega (arith, lt)))

pub put_holds : (at : ℕ) (octets old : List ℕ) → at ≤ length old → Holds old at octets (put at octets old)
put_holds zero octets old le = let same : length octets ≡ zero + length octets = omega arith in ap (λ (k : ℕ). octets ++ drop k old) same
put_holds (suc at) octets [] le = absurd (omega (arith, le))
put_holds (suc at) octets (o ∷ old) le =
    let more : suc (at + length octets) ≡ suc at + length octets = omega arith in
    ap (λ (l : List ℕ). o ∷ l) (put_holds at octets old (omega (arith, le)))
    ∙ ap (λ (k : ℕ). (o ∷ take at old) ++ octets ++ drop k (o ∷ old)) more

-- all of what is written, as three pieces
pub put_made : (at : ℕ) (octets old : List ℕ) → at ≤ length old → put at octets old ≡ (take at old ++ octets) ++ drop (at + length octets) old
put_made at octets old le = put_holds at octets old le

-- a part of it, behind what was there before
pub torn_some : (at : ℕ) (octets old range new : List ℕ) → at ≤ length old → IsMixed (drop at old) octets range → new ≡ take at old ++ range → Torn at octets old new
torn_some at octets old range new le mixed is =
    let n : length (take at old) ≡ at = length-take-le at old le in
    record {
      before = ap (take at) is ∙ take_at (take at old) range at n;
      range = subst (λ (l : List ℕ). IsMixed (drop at old) octets l) (sym (ap (drop at) is ∙ drop_at (take at old) range at n)) mixed;
    }

-- some of what is cut off
pub cut_some : (len end : ℕ) (old : List ℕ) → min len (length old) ≤ end → end ≤ length old → Cut (min len (length old)) old (take end old)
cut_some len end old low high =
    let n : length (take end old) ≡ end = length-take-le end old high in
    record { no_shorter = omega (arith, n, low); front = ap (λ (k : ℕ). take k old) n }

cut_whole : (len : ℕ) (old : List ℕ) → Cut (min len (length old)) old (take len old)
cut_whole len old = record { no_shorter = grind (arith, common_steps); front = grind (arith, common_steps) }

-- a change may be there as a whole
pub may_be_made : (c : Change) (old : List ℕ) → MayChange c old (changed c old)
may_be_made (change.Write at octets) old = torn_put at octets.items old
may_be_made (change.Cut len) old = cut_whole len old
may_be_made (change.Place octets) old = inl refl

-- what a read returns may be left
pub may_leave_all : (synced : List ℕ) (changes : List Change) → MayLeave synced changes (after synced changes)
may_leave_all synced [] = refl
may_leave_all synced (c ∷ changes) = (changed c synced, may_be_made c synced, may_leave_all (changed c synced) changes)

-- one change more is the last
pub after_one_more : (synced : List ℕ) (changes : List Change) (c : Change) → after synced (changes ++ c ∷ []) ≡ changed c (after synced changes)
after_one_more synced [] c = refl
after_one_more synced (x ∷ changes) c = after_one_more (changed x synced) changes c

pub leaves_one_more : (synced : List ℕ) (changes : List Change) (c : Change) (old left : List ℕ) → MayLeave synced changes old → MayChange c old left → MayLeave synced (changes ++ c ∷ []) left
leaves_one_more synced [] c old left is step = (left, subst (λ (o : List ℕ). MayChange c o left) is step, refl)
leaves_one_more synced (x ∷ changes) c old left is step = (is.0, is.1, leaves_one_more is.0 changes c old left is.2 step)

pub left_of_one_more : (synced : List ℕ) (changes : List Change) (c : Change) (left : List ℕ) → MayLeave synced (changes ++ c ∷ []) left → (old : List ℕ) × MayLeave synced changes old × MayChange c old left
left_of_one_more synced [] c left is = (synced, refl, subst (λ (l : List ℕ). MayChange c synced l) (sym is.2) is.1)
left_of_one_more synced (x ∷ changes) c left is =
    let last = left_of_one_more is.0 changes c left is.2 in
    (last.0, (is.0, is.1, last.1), last.2)

-- ---- one change after the other

module _ (synced left : List ℕ) (changes : List Change) (n : ℕ) (all : (c : List ℕ) → MayLeave left (drop n changes) c → MayLeave synced changes c) where
  -- what is left of the next one
  pub left_next : (x : Change) (next : List ℕ) → n < length changes → x ≡ get_or changes n x → MayChange x left next → (c : List ℕ) → MayLeave next (drop (n + 1) changes) c → MayLeave synced changes c
  left_next x next within is step c behind =
      let head : drop n changes ≡ x ∷ drop (n + 1) changes = drop_more changes n x within ∙ ap (λ (y : Change). y ∷ drop (n + 1) changes) (sym is) in
      all c (subst (λ (l : List Change). MayLeave left l c) (sym head) (next, step, behind))

  -- and of all of them
  pub left_whole : length changes ≤ n → MayLeave synced changes left
  left_whole le = all left (subst (λ (l : List Change). MayLeave left l left) (sym (drop_all n changes le)) refl)
