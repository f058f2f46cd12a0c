-- Refusals in order: the first that applies is the answer.
use Rattle.std.specs.Prelude.{Bool, true, false, Option, Some, None, Result, Ok, Err}

infixl 10 ◌>>=◌
-- what follows is asked only where nothing was refused
abbrev pub ◌>>=◌ : {A B E : Type 0} → Result A E → (A → Result B E) → Result B E
(Ok x) >>= f = f x
(Err e) >>= f = Err e

-- a refusal where the test passes
abbrev pub refuse_if : {E : Type 0} → Bool → E → Result (Unit {0}) E
refuse_if true e = Err e
refuse_if false e = Ok tt

-- what was looked for, or a refusal where it was not found
abbrev pub found_or : {A E : Type 0} → Option A → E → Result A E
found_or (Some x) e = Ok x
found_or None e = Err e

-- a refusal, where one was found
abbrev pub refuse_some : {E : Type 0} → Option E → Result (Unit {0}) E
refuse_some (Some e) = Err e
refuse_some None = Ok tt
