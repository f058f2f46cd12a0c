-- What is there, and what holds of it.
use Rattle.std.specs.Prelude.{Option, Some, None, IfSome, refl}
use Rattle.std.specs.Option.{ForSome}

-- what holds of each value that is there holds where there is one
pub where_some : {T : Type 0} (P : T → Type 0) (o : Option T) → ForSome o P → IfSome o P
where_some P None each = tt
where_some P (Some x) each = each x refl
