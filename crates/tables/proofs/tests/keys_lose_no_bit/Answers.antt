use Rattle.std.proofs.Common.{refl}
use lib.Ieee.{is_nan, of_bits, neg}
use Rattle.tables.proofs.tests.keys_lose_no_bit.Goals as goal

pub invariant_of-told_apart : goal.invariant_of-told_apart
unfolding is_nan of_bits
invariant_of-told_apart g c = record { numbers = (refl, refl, refl) }

pub invariant_of-told_apart-2 : goal.invariant_of-told_apart-2
unfolding is_nan of_bits neg
invariant_of-told_apart-2 g c = record { numbers = (refl, refl, refl) }

pub invariant_of-told_apart-3 : goal.invariant_of-told_apart-3
unfolding is_nan of_bits
invariant_of-told_apart-3 g c = record { numbers = (refl, refl) }
