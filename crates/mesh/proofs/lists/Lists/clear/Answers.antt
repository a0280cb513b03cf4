use Rattle.std.proofs.Common.{◌≡◌, Bool, true, refl}
use lib.Ieee.{of_bits, to_bits}
use Rattle.elements.specs.declared.row.Row.{Row}
use Rattle.elements.specs.Cells.{blanked}
use Rattle.elements.specs.Rows.{held}
use Rattle.mesh.specs.Lists.{Spare, zero_number, zero_point, zero_pair}
use Rattle.mesh.specs.Outcome.{Zero}
use Rattle.mesh.proofs.UnfoldCells.{spare-cleared, zeros-cleared}
use Rattle.mesh.proofs.lists.Lists.clear.Goals as goal

-- a row that was cleared
row : {X : Type 0} (zero? : X → Bool) (r s : Row X) {z : X} → Spare zero? r → s.count ≡ 0 → held s ≡ blanked (held r) z → zero? z ≡ true → Zero zero? s × Spare zero? s
row zero? r s h none cells e = (zeros-cleared zero? r s _ none cells e h, spare-cleared zero? r s _ none cells e h)

pub returns-clause-zeros : goal.returns-clause-zeros
unfolding to_bits of_bits
returns-clause-zeros c h =
    let l = c.args.self.now in
    let positions = row zero_point l.positions c.clear.new.self h.0.0 c.clear.ensures.count c.clear.ensures.cells refl in
    let colours = row zero_point l.vertex_color c.clear-2.new.self h.0.1 c.clear-2.ensures.count c.clear-2.ensures.cells refl in
    let textures = row zero_pair l.texcoords c.clear-3.new.self h.0.2 c.clear-3.ensures.count c.clear-3.ensures.cells refl in
    let normals = row zero_point l.normals c.clear-4.new.self h.0.3 c.clear-4.ensures.count c.clear-4.ensures.cells refl in
    let indices = row zero_number l.indices c.clear-5.new.self h.0.4 c.clear-5.ensures.count c.clear-5.ensures.cells refl in
    let arities = row zero_number l.face_arities c.clear-6.new.self h.1.0 c.clear-6.ensures.count c.clear-6.ensures.cells refl in
    let colour_indices = row zero_number l.vertex_color_indices c.clear-7.new.self h.1.1 c.clear-7.ensures.count c.clear-7.ensures.cells refl in
    let texture_indices = row zero_number l.texcoord_indices c.clear-8.new.self h.1.2 c.clear-8.ensures.count c.clear-8.ensures.cells refl in
    let normal_indices = row zero_number l.normal_indices c.clear-9.new.self h.1.3 c.clear-9.ensures.count c.clear-9.ensures.cells refl in
    let remap = row zero_number l.remap c.clear-10.new.self h.1.4 c.clear-10.ensures.count c.clear-10.ensures.cells refl in (
      ((positions.0, colours.0, textures.0, normals.0, indices.0), (arities.0, colour_indices.0, texture_indices.0, normal_indices.0, remap.0)),
      ((positions.1, colours.1, textures.1, normals.1, indices.1), (arities.1, colour_indices.1, texture_indices.1, normal_indices.1, remap.1)),
    )
