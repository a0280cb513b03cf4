-- Zero is a number, so that a point and a pair of zeros are ones by their type.
use Rattle.std.proofs.Common.{◌≡◌, false, refl}
use lib.Ieee.{is_nan, of_bits, binary32}

pub zero_is : is_nan (of_bits binary32 0) ≡ false
unfolding is_nan of_bits
zero_is = refl
