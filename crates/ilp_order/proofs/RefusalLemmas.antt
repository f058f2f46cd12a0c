-- What is known where nothing was refused.
use Rattle.std.proofs.Common.{◌≡◌, Bool, true, false, cond, not, Option, Some, None, refl}
use Rattle.std.specs.Prelude.{Result, Ok, Err, IsSome, IsNone, is_none}
use Rattle.ilp_order.specs.Refusals.{◌>>=◌, refuse_if, refuse_some, found_or}

-- ---- refusals in order

-- a test that would refuse did not pass, and what follows it was not refused
pub refused_not : {A E : Type 0} (b : Bool) (fault : E) (next : Result A E) (y : A) → (refuse_if b fault >>= λ _. next) ≡ Ok y → (b ≡ false) × (next ≡ Ok y)
refused_not true fault next y e = absurd cc
refused_not false fault next y e = (refl, e)

-- what was looked for was found, and what follows it was not refused
pub found : {A B E : Type 0} (o : Option A) (fault : E) (next : A → Result B E) (y : B) → (found_or o fault >>= next) ≡ Ok y → (x : A) × (o ≡ Some x) × (next x ≡ Ok y)
found None fault next y e = absurd cc
found (Some x) fault next y e = (x, refl, e)

-- nothing was found that refuses
pub none_refused : {B E : Type 0} (o : Option E) (next : Result B E) (y : B) → (refuse_some o >>= λ _. next) ≡ Ok y → (o ≡ None) × (next ≡ Ok y)
none_refused None next y e = (refl, e)
none_refused (Some a) next y e = absurd cc

-- what comes first was not refused, and neither was what follows it
pub bound : {A B E : Type 0} (r : Result A E) (next : A → Result B E) (y : B) → (r >>= next) ≡ Ok y → (x : A) × (r ≡ Ok x) × (next x ≡ Ok y)
bound (Err fault) next y e = absurd cc
bound (Ok x) next y e = (x, refl, e)

-- two values are one where their results are
pub ok_same : {A E : Type 0} (x y : A) → ◌≡◌ {A = Result A E} (Ok x) (Ok y) → x ≡ y
ok_same x y e = cc

-- ---- tests, and what stands under them

pub not_true : (b : Bool) → not b ≡ false → b ≡ true
not_true true e = refl
not_true false e = cc

-- a refusal under a test that did not pass
pub refusal_not : {A E : Type 0} (b : Bool) (fault : E) (x y : A) → cond b (Err fault) (Ok x) ≡ Ok y → (b ≡ false) × (x ≡ y)
refusal_not true fault x y e = absurd cc
refusal_not false fault x y e = (refl, cc)

-- a value under a test that passed, where it is refused otherwise
pub value_under : {A E : Type 0} (b : Bool) (fault : E) (x y : A) → cond b (Ok x) (Err fault) ≡ Ok y → (b ≡ true) × (x ≡ y)
value_under true fault x y e = (refl, cc)
value_under false fault x y e = absurd cc

-- what is there under a test passed it
pub chosen : {X : Type 0} (b : Bool) (o : Option X) (x : X) → cond b o None ≡ Some x → (b ≡ true) × (o ≡ Some x)
chosen true o x e = (refl, e)
chosen false o x e = absurd cc

-- ---- what is there or not

pub some_same : {A : Type 0} (x y : A) → ◌≡◌ {A = Option A} (Some x) (Some y) → x ≡ y
some_same x y e = cc

pub is_none_at : {X : Type 0} (o : Option X) → is_none o ≡ true → IsNone o
is_none_at None e = refl
is_none_at (Some x) e = cc

pub is_some_at : {X : Type 0} (o : Option X) (x : X) → o ≡ Some x → IsSome o
is_some_at None x e = cc
is_some_at (Some y) x e = refl
