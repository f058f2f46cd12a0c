-- What was written to a sink, over several calls.
use Rattle.std.proofs.Common.{ℕ, List, [], ◌++◌, Option, refl, sym, ap, ◌∙◌, arith, append_assoc, length-append}
use Rattle.std.specs.Io.KnownBytes.{Appends}
use Rattle.std.proofs.KnownBytes.{Appends-nil, Appends-trans}
use Rattle.std.proofs.lemmas.List.{append-nil}
use Rattle.ilp_io.specs.Writing.{AppendsPrefix, AppendsProperPrefix}

-- a proper prefix of octets is a prefix of them
pub AppendsPrefix-of_proper : (u v : Option (List ℕ)) (octets : List ℕ) → AppendsProperPrefix u v octets → AppendsPrefix u v octets
AppendsPrefix-of_proper u v octets x = record { written = x.written; rest = x.rest; whole = x.whole; taken = x.taken }

-- all of some octets are a prefix of them
pub AppendsPrefix-of_all : (u v : Option (List ℕ)) (octets : List ℕ) → Appends u v octets → AppendsPrefix u v octets
AppendsPrefix-of_all u v octets wrote = record { written = octets; rest = []; whole = sym (append-nil octets); taken = wrote }

-- no octets are a prefix of any
pub AppendsPrefix-none : (u : Option (List ℕ)) (octets : List ℕ) → AppendsPrefix u u octets
AppendsPrefix-none u octets = record { written = []; rest = octets; whole = refl; taken = Appends-nil u }

-- all of a, and then a prefix of b
pub AppendsPrefix-after : (u v w : Option (List ℕ)) (a b : List ℕ) → Appends u v a → AppendsPrefix v w b → AppendsPrefix u w (a ++ b)
AppendsPrefix-after u v w a b first next = record {
  written = a ++ next.written;
  rest = next.rest;
  whole = ap (λ (t : List ℕ). a ++ t) next.whole ∙ sym (append_assoc a next.written next.rest);
  taken = Appends-trans u v w a next.written first next.taken;
}

-- a prefix of a is one of a and what follows it
pub AppendsPrefix-more : (u v : Option (List ℕ)) (a b : List ℕ) → AppendsPrefix u v a → AppendsPrefix u v (a ++ b)
AppendsPrefix-more u v a b x = record {
  written = x.written;
  rest = x.rest ++ b;
  whole = ap (λ (t : List ℕ). t ++ b) x.whole ∙ append_assoc x.written x.rest b;
  taken = x.taken;
}

-- all of a, and then a proper prefix of b
pub AppendsProperPrefix-after : (u v w : Option (List ℕ)) (a b : List ℕ)
    → Appends u v a → AppendsProperPrefix v w b → AppendsProperPrefix u w (a ++ b)
AppendsProperPrefix-after u v w a b first next = record {
  written = a ++ next.written;
  rest = next.rest;
  whole = ap (λ (t : List ℕ). a ++ t) next.whole ∙ sym (append_assoc a next.written next.rest);
  taken = Appends-trans u v w a next.written first next.taken;
  missing = next.missing;
}

-- a proper prefix of a is one of a and what follows it
pub AppendsProperPrefix-more : (u v : Option (List ℕ)) (a b : List ℕ) → AppendsProperPrefix u v a → AppendsProperPrefix u v (a ++ b)
AppendsProperPrefix-more u v a b x = record {
  written = x.written;
  rest = x.rest ++ b;
  whole = ap (λ (t : List ℕ). t ++ b) x.whole ∙ append_assoc x.written x.rest b;
  taken = x.taken;
  missing = omega (arith, length-append x.rest b, x.missing);
}
