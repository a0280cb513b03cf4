-- Refusals in their order: a call's checks are a list of conditions, each with the refusal that it brings.
--   first cs     the refusal of the first check whose condition holds, or none
--   refusal r    the refusal that a call answered, or none where it was granted
use Rattle.std.specs.Prelude.{Bool, if◌then◌else◌, List, [], ◌∷◌, Some, None, Ok, Err, Option, Result}

module _ {E : Type 0} where
  abbrev pub first : List (Bool × E) → Option E
  first [] = None
  first (c ∷ cs) = if c.0 then Some c.1 else first cs

  abbrev pub refusal : {X : Type 0} → Result X E → Option E
  refusal (Ok x) = None
  refusal (Err e) = Some e
