use Rattle.std.proofs.Common.{refl}
use Rattle.mesh.specs.Surface.{Capacities}
use Rattle.mesh.proofs.UnfoldFacts.{cases_ok}
use Rattle.mesh.proofs.numbering.TablesNumbering.merge.Goals as goal

pub returns : goal.returns
returns g c =
    let e = c.merge_points.ensures in
    let t = c.args.self.now in
    let n : Capacities = record { corners = g.Ct.CornerTable.capacity t.corners; positions = g.Pt.CornerTable.capacity t.positions; textures = g.Tt.CornerTable.capacity t.textures; normals = g.Nt.CornerTable.capacity t.normals; points = g.Qt.CornerTable.capacity t.points; pairs = g.Rt.CornerTable.capacity t.pairs } in
    record {
      refused = e.refused n (record { points = refl; pairs = refl });
      granted = λ m. cases_ok c.merge_points.result _ (λ ok. e.merged ok m);
      rooms = e.rooms;
      remap = e.cleared;
      blank = e.blank;
      keys = refl;
      none = (e.points.none, e.pairs.none);
      capacities = (let x = e.points.capacity in let y = e.pairs.capacity in cc);
      sound = λ s. (s.0, (s.1.0, e.points.sound, e.pairs.sound), s.2);
    }
