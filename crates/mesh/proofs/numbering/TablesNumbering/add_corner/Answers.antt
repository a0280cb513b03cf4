use Rattle.std.proofs.Common.{[], refl}
use Rattle.elements.specs.Contents.{sources}
use Rattle.mesh.specs.Surface.{Capacities}
use Rattle.mesh.specs.Lists.{surface, rooms}
use Rattle.mesh.proofs.UnfoldFacts.{adds_writes, single_adds, multi_adds}
use Rattle.mesh.proofs.numbering.TablesNumbering.add_corner.Goals as goal

pub returns-then-options : goal.returns-then-options
returns-then-options g c =
    let e = c.add_vertex.ensures in
    let t = c.args.self.now in
    let l = c.args.lists.now in
    let l' = c.add_vertex.new.lists in
    let n : Capacities = record { corners = g.Ct.CornerTable.capacity t.corners; positions = g.Pt.CornerTable.capacity t.positions; textures = g.Tt.CornerTable.capacity t.textures; normals = g.Nt.CornerTable.capacity t.normals; points = g.Qt.CornerTable.capacity t.points; pairs = g.Rt.CornerTable.capacity t.pairs } in
    let p = g.Pt.CornerTable.keys t.positions in
    let q = g.Tt.CornerTable.keys t.textures in
    let u = g.Nt.CornerTable.keys t.normals in
    record {
      kept = record {
        rooms = e.lists.rooms;
        remap = e.lists.remap;
        blank = e.lists.blank;
        capacities = (let x = e.table.capacity in cc);
        points = refl;
        pairs = refl;
        sound = λ s. ((e.table.sound s.0.0, s.0.1, s.0.2), s.1, s.2);
      };
      writes = λ s. adds_writes c.args.options (sources c.args.attributes.now) (rooms l) n c.args.vert (surface l) (surface l')
          (record { corners = g.Ct.CornerTable.keys t.corners; positions = p; textures = q; normals = u })
          (record { corners = g.Ct.CornerTable.keys c.add_vertex.new.table; positions = p; textures = q; normals = u }) c.add_vertex.result
          (single_adds c.args.options (sources c.args.attributes.now) (rooms l) n c.args.vert (surface l) (surface l')
          (g.Ct.CornerTable.keys t.corners) (g.Ct.CornerTable.keys c.add_vertex.new.table) p p q q u u c.add_vertex.result c.if-options.true (e.adds s.0.0 n refl));
    }

pub returns-else-options : goal.returns-else-options
returns-else-options g c =
    let e = c.add_vertex_multi_index.ensures in
    let t = c.args.self.now in
    let l = c.args.lists.now in
    let a = c.add_vertex_multi_index.new in
    let n : Capacities = record { corners = g.Ct.CornerTable.capacity t.corners; positions = g.Pt.CornerTable.capacity t.positions; textures = g.Tt.CornerTable.capacity t.textures; normals = g.Nt.CornerTable.capacity t.normals; points = g.Qt.CornerTable.capacity t.points; pairs = g.Rt.CornerTable.capacity t.pairs } in
    let k = g.Ct.CornerTable.keys t.corners in
    let p = g.Pt.CornerTable.keys t.positions in
    let q = g.Tt.CornerTable.keys t.textures in
    let u = g.Nt.CornerTable.keys t.normals in
    let p' = g.Pt.CornerTable.keys a.positions in
    let q' = g.Tt.CornerTable.keys a.textures in
    let u' = g.Nt.CornerTable.keys a.normals in
    record {
      kept = record {
        rooms = e.lists.rooms;
        remap = e.lists.remap;
        blank = e.lists.blank;
        capacities = (let x = e.positions.capacity in let y = e.textures.capacity in let z = e.normals.capacity in cc);
        points = refl;
        pairs = refl;
        sound = λ s. (
          (s.0.0, e.positions.sound s.0.1, e.textures.sound s.0.2),
          (e.normals.sound s.1.0, s.1.1, s.1.2),
          (e.textures.within s.0.2 s.2.0, e.normals.within s.1.0 s.2.1),
        );
      };
      writes = λ s. adds_writes c.args.options (sources c.args.attributes.now) (rooms l) n c.args.vert (surface l) (surface a.lists)
          (record { corners = k; positions = p; textures = q; normals = u }) (record { corners = k; positions = p'; textures = q'; normals = u' }) c.add_vertex_multi_index.result
          (multi_adds c.args.options (sources c.args.attributes.now) (rooms l) n c.args.vert (surface l) (surface a.lists)
          k k p p' q q' u u' c.add_vertex_multi_index.result c.if-options.false (e.adds n (record { capacities = (refl, refl, refl); sound = (s.0.1, s.0.2, s.1.0); within = s.2 }) []));
    }
