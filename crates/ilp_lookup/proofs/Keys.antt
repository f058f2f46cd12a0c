-- What a look-up by the text of a key says of the texts that the keys hold.
use Rattle.std.proofs.Common.{◌≡◌, ◌≢◌, ℕ, ◌+◌, Bool, true, false, cond, not, ◌||◌, List, [], ◌∷◌, ◌++◌, length, map, refl, ap, sym, ◌∙◌, arith, Contains, if◌then◌else◌}
use Rattle.std.specs.List.{list_any, position, prefix_len, AllPairs, AllZip, IsDistinct, AllByRecursion}
use Rattle.std.specs.Str.{bytes_eq}
use Rattle.std.proofs.lemmas.Bool.{false≢true}
use Rattle.std.proofs.lemmas.Cmp.{nat_list_eq_equiv}
use Rattle.std.proofs.lemmas.List.{length-map, get_or-map, map-append}
use Rattle.std.proofs.lemmas.List.Kept.{AllPairs-cons}
use Rattle.std.proofs.lemmas.List.Elements.{All-from_recursion}
use Rattle.std.proofs.lemmas.Map.Views.{Contains-from_any, list_any-from_Contains}
use Rattle.indexmap.specs.IndexSet.{insert_key}
use Rattle.std.proofs.lemmas.Slice.Eq.{bytes_eq-Decides}

-- an element of a list gives one of the mapped list
pub Contains-map : {X Y : Type 0} (f : X → Y) (xs : List X) (x : X) → Contains xs x → Contains (map f xs) (f x)
Contains-map f xs x h = (
  h.0,
  (let same : length (map f xs) ≡ length xs = length-map xs f in omega (arith, same, h.1)),
  get_or-map f xs h.0 x (f x) h.1 ∙ ap f h.2,
)

-- a test finds a text exactly where the list has it
pub Contains-found : (text : List ℕ) (texts : List (List ℕ)) → list_any (bytes_eq text) texts ≡ true → Contains texts text
Contains-found = Contains-from_any (λ x y. (bytes_eq-Decides x y).0)

pub found-Contains : (text : List ℕ) (texts : List (List ℕ)) → Contains texts text → list_any (bytes_eq text) texts ≡ true
found-Contains = list_any-from_Contains nat_list_eq_equiv

module _ {X : Type 0} (text_of : X → List ℕ) where
  -- a key is found by a text exactly where the text is among the keys' texts
  pub list_any-texts : (text : List ℕ) (keys : List X) → list_any (λ k. bytes_eq text (text_of k)) keys ≡ list_any (bytes_eq text) (map text_of keys)
  list_any-texts text [] = refl
  list_any-texts text (k ∷ keys) = ap (λ b. bytes_eq text (text_of k) || b) (list_any-texts text keys)

  -- the place of a key is that of its text
  prefix_len-texts : (text : List ℕ) (keys : List X) → prefix_len (λ k. not (bytes_eq text (text_of k))) keys ≡ prefix_len (λ t. not (bytes_eq text t)) (map text_of keys)
  prefix_len-texts text [] = refl
  prefix_len-texts text (k ∷ keys) = ap (λ n. cond (not (bytes_eq text (text_of k))) (1 + n) 0) (prefix_len-texts text keys)

  pub position-texts : (text : List ℕ) (keys : List X) → position (λ k. bytes_eq text (text_of k)) keys ≡ position (bytes_eq text) (map text_of keys)
  position-texts text keys = rw (prefix_len-texts text keys, ← length-map keys text_of) refl

  -- a key that differs from all keys differs from them in its text
  differs : (k : X) (keys : List X) → AllByRecursion (λ y. bytes_eq (text_of k) (text_of y) ≡ false) keys → AllByRecursion (λ t. text_of k ≢ t) (map text_of keys)
  differs k [] h = tt
  differs k (y ∷ keys) h = ((λ same. false≢true (sym h.0 ∙ (bytes_eq-Decides (text_of k) (text_of y)).1 same)), differs k keys h.1)

  -- the texts of keys that are distinct are distinct
  pub AllPairs-texts : (keys : List X) → IsDistinct (λ j k. bytes_eq (text_of j) (text_of k)) keys → AllPairs (λ x y. x ≢ y) (map text_of keys)
  unfolding IsDistinct
  AllPairs-texts [] h = λ i j d before inside. absurd (omega arith)
  AllPairs-texts (k ∷ keys) h = AllPairs-cons (λ x y. x ≢ y) (text_of k) (map text_of keys) (All-from_recursion (λ t. text_of k ≢ t) (map text_of keys) (differs k keys h.0)) (AllPairs-texts keys h.1)

  -- a new key goes last
  pub insert_key-texts : (keys : List X) (key : X) → ¬ Contains (map text_of keys) (text_of key)
      → map text_of (insert_key (λ j k. bytes_eq (text_of j) (text_of k)) keys key) ≡ map text_of keys ++ text_of key ∷ []
  insert_key-texts keys key new = by (list_any (λ k. bytes_eq (text_of key) (text_of k)) keys) refl
    where
      by : (b : Bool) → list_any (λ k. bytes_eq (text_of key) (text_of k)) keys ≡ b → map text_of (if b then keys else keys ++ key ∷ []) ≡ map text_of keys ++ text_of key ∷ []
      by true is = absurd (new (Contains-found (text_of key) (map text_of keys) (sym (list_any-texts (text_of key) keys) ∙ is)))
      by false is = map-append text_of keys (key ∷ [])

-- keys, each of which has the text of the other's, have the same texts
pub same-texts : {X : Type 0} (text_of : X → List ℕ) (R : X → X → Type 0) → ((x y : X) → R x y → text_of y ≡ text_of x) → (xs ys : List X) → AllZip R xs ys → map text_of ys ≡ map text_of xs
same-texts text_of R same [] [] h = refl
same-texts text_of R same [] (y ∷ ys) h = absurd h
same-texts text_of R same (x ∷ xs) [] h = absurd h
same-texts text_of R same (x ∷ xs) (y ∷ ys) h = λ i. same x y h.0 i ∷ same-texts text_of R same xs ys h.1 i
