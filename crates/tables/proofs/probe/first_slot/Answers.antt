use Rattle.std.proofs.Common.{◌*◌, ◌/◌, ◌<◌, refl, mul-lt-mul_of_pos_right, arith}
use Rattle.std.proofs.lemmas.Nat.{div_below}
use Rattle.tables.specs.Hashing.{slot_of}
use Rattle.tables.proofs.probe.first_slot.Goals as goal

pub returns : goal.returns
unfolding slot_of
returns c =
    let half : c.args.hash / 4294967296 < 4294967296 = omega arith in
    let some : 0 < c.args.slots = omega arith in
    let below : (c.args.hash / 4294967296) * c.args.slots < 4294967296 * c.args.slots = mul-lt-mul_of_pos_right half some in
    record {
      is = refl;
      inside = div_below ((c.args.hash / 4294967296) * c.args.slots) 4294967296 c.args.slots (omega arith) (omega arith);
    }
