-- What begins with a spelling has no fault, and begins with no other.
use Rattle.std.proofs.Common.{◌≡◌, ℕ, ◌<◌, List, ◌++◌, length, take, drop, None, sym, ◌∙◌, ap, subst, arith, length-append, append_assoc}
use Rattle.std.proofs.lemmas.Bool.Decides.{nat_tests}
use Rattle.std.proofs.lemmas.List.{append_cancel_left}
use Rattle.std.proofs.Math.Seq.{take-append_seam, drop-append_seam}
use Rattle.ilp_oer.specs.OctetString.{prefix, spelling, Splits, fault_of, told_len}

-- a prefix tells its length, whatever follows
pub told_len-prefix : (n : ℕ) (more : List ℕ) → n < 65536 → told_len (prefix n ++ more) ≡ n
told_len-prefix n more within = grind (arith, nat_tests)

pub fault_of-spelling : (content rest : List ℕ) → length content < 65536 → fault_of (spelling content ++ rest) ≡ None
fault_of-spelling content rest within = grind (arith, nat_tests, length-append, append_assoc)

-- what begins with a spelling has no fault
pub fault_of-split : (input content rest : List ℕ) → Splits input content rest → fault_of input ≡ None
fault_of-split input content rest split = rw split.whole (fault_of-spelling content rest split.within)

-- a prefix and what follows it are told apart from any other
pub prefix-unique : (n m : ℕ) (xs ys : List ℕ) → n < 65536 → m < 65536 → prefix n ++ xs ≡ prefix m ++ ys → (n ≡ m) × (xs ≡ ys)
prefix-unique n m xs ys n_fits m_fits same =
    let lens : n ≡ m = sym (told_len-prefix n xs n_fits) ∙ ap told_len same ∙ told_len-prefix m ys m_fits in
    (lens, append_cancel_left (prefix m) xs ys (subst (λ k. prefix k ++ xs ≡ prefix m ++ ys) lens same))

-- the length and the octets after it, of an input that begins with a spelling
pub Splits-prefix : (input content rest more : List ℕ) (n : ℕ) → n < 65536 → input ≡ prefix n ++ more → Splits input content rest → (length content ≡ n) × (content ++ rest ≡ more)
Splits-prefix input content rest more n fits told split =
    prefix-unique (length content) n (content ++ rest) more split.within fits
    (sym (append_assoc (prefix (length content)) content rest) ∙ sym split.whole ∙ told)

-- two lists with equal beginnings as long as each other have equal ends
append-unique : (xs ys us vs : List ℕ) → length xs ≡ length us → xs ++ ys ≡ us ++ vs → (xs ≡ us) × (ys ≡ vs)
append-unique xs ys us vs lens same = (
  sym (take-append_seam xs ys) ∙ ap (take (length xs)) same ∙ ap (λ n. take n (us ++ vs)) lens ∙ take-append_seam us vs,
  sym (drop-append_seam xs ys) ∙ ap (drop (length xs)) same ∙ ap (λ n. drop n (us ++ vs)) lens ∙ drop-append_seam us vs,
)

-- what begins with the spelling of a content begins with that of no other
pub Splits-unique : (input content rest other more : List ℕ) → Splits input content rest → Splits input other more → (content ≡ other) × (rest ≡ more)
Splits-unique input content rest other more first second =
    let apart =
    Splits-prefix input content rest (other ++ more) (length other) second.within
    (second.whole ∙ append_assoc (prefix (length other)) other more) first in
    append-unique content rest other more apart.0 apart.1
