use Rattle.std.proofs.Common.{◌≡◌, ◌-◌, replicate, refl, arith}
use Rattle.std.proofs.lemmas.Grind.{common_steps}
use Rattle.mesh.proofs.MergeRows.{spare-filled}
use Rattle.mesh.proofs.merge.shorten.Goals as goal

pub returns : goal.returns
returns g c =
    let r = c.args.row.now in
    let n = r.count - c.args.count in
    let filled : c.fill.new.cells ≡ replicate n c.args.blank = grind (arith, common_steps) in
    record {
      count = refl;
      items = grind (arith, common_steps);
      steady = record {
        room = grind (arith, common_steps);
        spare = λ zero? e h. spare-filled zero? _ n c.args.blank r e h (grind (arith, common_steps));
      };
    }
