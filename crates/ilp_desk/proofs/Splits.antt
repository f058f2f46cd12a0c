-- Sums that are split among the ends of a desk's actors.
use Rattle.std.proofs.Common.{◌≡◌, ℕ, zero, suc, mul-add, ◌+◌, ◌*◌, ◌<◌, ◌≤◌, ◌==◌, Bool, true, false, cond, List, [], ◌∷◌, length, get_or, None, option_to_list, refl, sym, ap, ◌∙◌, arith}
use Rattle.std.specs.Prelude.{All, sum_by, count_by}
use Rattle.std.proofs.lemmas.List.Sums.{sum_by-cons, sum_by-append}
use Rattle.std.proofs.lemmas.Bool.Decides.{nat_tests}
use Rattle.ilp_journal.specs.declared.entry.Entry.{Entry}
use Rattle.ilp_journal.specs.Journal.{Entries}
use Rattle.ilp_desk.specs.declared.record.Record.{Record}
use Rattle.ilp_desk.specs.Portion.{Holding}
use Rattle.ilp_desk.specs.Records.{record_of, listed_from}
use Rattle.ilp_desk.specs.Gathering.{holders}

-- what holds of each element holds of each of the rest
pub All-rest : {X : Type 0} (P : X → Type 0) (x : X) (xs : List X) → All P (x ∷ xs) → All P xs
All-rest P x xs all k d less = all (suc k) d (omega arith)

-- and of the first
pub All-first : {X : Type 0} (P : X → Type 0) (x : X) (xs : List X) → All P (x ∷ xs) → P x
All-first P x xs all = all 0 x (omega arith)

-- ---- sums

-- equal terms have equal sums
pub sum_by_same : {X : Type 0} (f g : X → ℕ) (xs : List X) → All (λ x. f x ≡ g x) xs → sum_by f xs ≡ sum_by g xs
sum_by_same f g [] same = refl
sum_by_same f g (x ∷ xs) same =
    omega (arith, sum_by-cons f x xs, sum_by-cons g x xs, All-first (λ y. f y ≡ g y) x xs same, sum_by_same f g xs (All-rest (λ y. f y ≡ g y) x xs same))

-- a sum of sums
sum_by-plus : {X : Type 0} (f g : X → ℕ) (xs : List X) → sum_by (λ x. f x + g x) xs ≡ sum_by f xs + sum_by g xs
sum_by-plus f g [] = refl
sum_by-plus f g (x ∷ xs) =
    omega (arith, sum_by-cons f x xs, sum_by-cons g x xs, sum_by-cons (λ y. f y + g y) x xs, sum_by-plus f g xs)

-- the sum of nothing but zeros
sum_by-zeros : {X : Type 0} (xs : List X) → sum_by (λ (x : X). 0) xs ≡ 0
sum_by-zeros [] = refl
sum_by-zeros (x ∷ xs) = omega (arith, sum_by-cons (λ y. 0) x xs, sum_by-zeros xs)

-- the sum over no element
pub sum_by-empty : {X : Type 0} (f : X → ℕ) (xs : List X) → length xs ≡ 0 → sum_by f xs ≡ 0
sum_by-empty f [] none = refl
sum_by-empty f (x ∷ xs) none = absurd (omega (arith, none))

-- where each element that passes adds n, and the others nothing
sum_by-passed : {X : Type 0} (p : X → Bool) (n : ℕ) (f : Bool → ℕ) (xs : List X) → f true ≡ n → f false ≡ 0 → sum_by (λ x. f (p x)) xs ≡ n * count_by p xs
sum_by-passed p n f [] passed failed = omega arith
sum_by-passed p n f (x ∷ xs) passed failed =
    let rest = sum_by-passed p n f xs passed failed in
    let all = sum_by-cons (λ y. f (p y)) x xs in
    let counted = sum_by-cons (λ y. cond (p y) 1 0) x xs in
    let here : f (p x) ≡ n * cond (p x) 1 0 = elim (p x) as (λ b. f b ≡ n * cond b 1 0) [ true ↦ omega (arith, passed) | false ↦ omega (arith, failed) ] in
    all ∙ (ap (λ k. k + sum_by (λ y. f (p y)) xs) here ∙ (ap (λ k. n * cond (p x) 1 0 + k) rest ∙ (sym (mul-add n (cond (p x) 1 0) (count_by p xs)) ∙ ap (λ k. n * k) (sym counted))))

-- ---- records

-- the records of es, of which the first has the number n, whose actors pass the test
abbrev pub listed : Entries → (ℕ → Bool) → ℕ → Entries → List Record
listed j test n es = listed_from (λ k (e : Entry). cond (test e.actor) (record_of j k e) None) n es

-- where each actor has one end, what the actors' records weigh is what all records weigh
pub split : (w : Record → ℕ) (j : Entries) (actors : ℕ) (ends : List Holding) → ((a : ℕ) → a < actors → holders a ends ≡ 1) → (n : ℕ) (es : Entries) → All (λ (e : Entry). e.actor < actors) es
    → sum_by (λ (h : Holding). sum_by w (listed j (λ a. h.share.actor == a) n es)) ends ≡ sum_by w (listed j (λ _. true) n es)
split w j actors ends once n [] within = sum_by-zeros ends
split w j actors ends once n (e ∷ es) within =
    let mine : Holding → Bool = λ h. h.share.actor == e.actor in
    let of : Bool → ℕ = λ b. sum_by w (option_to_list (cond b (record_of j n e) None)) in
    let rest : Holding → ℕ = λ h. sum_by w (listed j (λ a. h.share.actor == a) (n + 1) es) in
    let apart : sum_by (λ (h : Holding). sum_by w (listed j (λ a. h.share.actor == a) n (e ∷ es))) ends ≡ sum_by (λ h. of (mine h) + rest h) ends
    = sum_by_same (λ (h : Holding). sum_by w (listed j (λ a. h.share.actor == a) n (e ∷ es))) (λ h. of (mine h) + rest h) ends
    (λ k d less. sum_by-append w (option_to_list (cond (mine (get_or ends k d)) (record_of j n e) None)) (listed j (λ a. (get_or ends k d).share.actor == a) (n + 1) es)) in
    let plus = sum_by-plus (λ h. of (mine h)) rest ends in
    let here = sum_by-passed mine (of true) of ends refl refl in
    let one = once e.actor (All-first (λ (x : Entry). x.actor < actors) e es within) in
    let later = split w j actors ends once (n + 1) es (All-rest (λ (x : Entry). x.actor < actors) e es within) in
    let all = sum_by-append w (option_to_list (cond true (record_of j n e) None)) (listed j (λ _. true) (n + 1) es) in
    let once_here : of true * count_by mine ends ≡ of true = ap (λ k. of true * k) one ∙ (omega arith) in
    apart ∙ (plus ∙ (ap (λ k. k + sum_by rest ends) (here ∙ once_here) ∙ (ap (λ k. of true + k) later ∙ sym all)))

-- ---- how many ends there are

-- f of each number below n, added up
abbrev below : ℕ → (ℕ → ℕ) → ℕ
below zero f = 0
below (suc n) f = below n f + f n

below-plus : (n : ℕ) (f g : ℕ → ℕ) → below n (λ a. f a + g a) ≡ below n f + below n g
below-plus zero f g = refl
below-plus (suc n) f g = omega (arith, below-plus n f g)

below-one : (n : ℕ) (f : ℕ → ℕ) → ((a : ℕ) → a < n → f a ≡ 1) → below n f ≡ n
below-one zero f ones = refl
below-one (suc n) f ones = omega (arith, below-one n f (λ a less. ones a (omega arith)), ones n (omega arith))

below_same : (n : ℕ) (f g : ℕ → ℕ) → ((a : ℕ) → a < n → f a ≡ g a) → below n f ≡ below n g
below_same zero f g same = refl
below_same (suc n) f g same = omega (arith, below_same n f g (λ a less. same a (omega arith)), same n (omega arith))

-- the number k counts once below what is greater, and not below what isn't
below-none : (n k : ℕ) → n ≤ k → below n (λ a. cond (k == a) 1 0) ≡ 0
below-none zero k le = refl
below-none (suc n) k le =
    let no : ◌≡◌ {A = ℕ} (cond (k == n) 1 0) 0 = grind (arith, nat_tests) in omega (arith, below-none n k (omega arith), no)

below-step : (n k : ℕ) → k < suc n → (k < n → below n (λ a. cond (k == a) 1 0) ≡ 1) → (b : Bool) → (k == n) ≡ b → below n (λ a. cond (k == a) 1 0) + cond b 1 0 ≡ 1
below-step n k less before true is =
    let same : k ≡ n = grind (arith, nat_tests) in omega (arith, below-none n k (omega arith))
below-step n k less before false is =
    let less' : k < n = grind (arith, nat_tests) in omega (arith, before less')

below-here : (n k : ℕ) → k < n → below n (λ a. cond (k == a) 1 0) ≡ 1
below-here zero k less = absurd (omega arith)
below-here (suc n) k less = below-step n k less (λ less'. below-here n k less') (k == n) refl

-- the ends of known actors, counted actor by actor
counted : (actors : ℕ) (ends : List Holding) → All (λ (h : Holding). h.share.actor < actors) ends → below actors (λ a. holders a ends) ≡ length ends
counted actors [] known = zeros actors
  where
    zeros : (n : ℕ) → below n (λ a. holders a []) ≡ 0
    zeros zero = refl
    zeros (suc n) = omega (arith, zeros n)
counted actors (h ∷ hs) known =
    let each = below_same actors (λ a. holders a (h ∷ hs)) (λ a. cond (h.share.actor == a) 1 0 + holders a hs) (λ a less. sum_by-cons (λ (x : Holding). cond (x.share.actor == a) 1 0) h hs) in
    let parts = below-plus actors (λ a. cond (h.share.actor == a) 1 0) (λ a. holders a hs) in
    let one = below-here actors h.share.actor (All-first (λ (x : Holding). x.share.actor < actors) h hs known) in
    let rest = counted actors hs (All-rest (λ (x : Holding). x.share.actor < actors) h hs known) in
    omega (arith, each, parts, one, rest)

-- where each actor has one end, there are as many ends as actors
pub length_once : (actors : ℕ) (ends : List Holding) → All (λ (h : Holding). h.share.actor < actors) ends → ((a : ℕ) → a < actors → holders a ends ≡ 1) → length ends ≡ actors
length_once actors ends known once = sym (counted actors ends known) ∙ below-one actors (λ a. holders a ends) once
