use Rattle.std.proofs.Common.{◌≡◌, true, false, sym, refl, ◌∙◌, arith}
use Rattle.std.proofs.lemmas.Grind.{common_steps}
use lib.Ieee.{of_bits, to_bits}
use Rattle.elements.specs.Rows.{items}
use Rattle.mesh.specs.Lists.{zero_number}
use Rattle.mesh.proofs.MergeAll.{lacking, lacking_is, copied_as, check_cells, check_bits, all-blank, merged-all}
use Rattle.mesh.proofs.merge_all.merge_points.Goals as goal

pub returns-then-lacks_cells-clause-refused : goal.returns-then-lacks_cells-clause-refused
returns-then-lacks_cells-clause-refused g c n t =
    let lacks : lacking c.args.lists.now ≡ true = (let e = lacking_is c.args.lists.now in grind (arith, common_steps)) in
    check_cells c.args.lists.now n lacks

pub returns-clause-merged : goal.returns-clause-merged
returns-clause-merged g c done ok =
    let a = c.args.lists.now in
    let cis = c.number_colours in
    let h = c.merge_lists.ensures in
    merged-all a ok c.merge_lists.new.lists cis.new.colour_indices
    (copied_as a.vertex_color (items a.indices) (items a.vertex_color_indices) (items cis.new.colour_indices) cis.ensures.some cis.ensures.none)
    (h.colours done) (h.positions done) (h.normals done) (h.textures done) h.steady.arities

pub returns-clause-refused : goal.returns-clause-refused
returns-clause-refused g c n t =
    let fine : lacking c.args.lists.now ≡ false = (let e = lacking_is c.args.lists.now in grind (arith, common_steps)) in
    check_bits c.args.lists.now n _ _ _ fine (record { points = t.points ∙ sym c.empty.ensures.capacity; pairs = t.pairs ∙ sym c.empty-2.ensures.capacity }) c.merge_lists.ensures.refused

pub returns-clause-blank : goal.returns-clause-blank
unfolding to_bits of_bits
returns-clause-blank g c h =
    all-blank _ _ _ _ c.merge_lists.ensures.steady refl refl
    (h.0, (h.1.0, c.number_colours.ensures.steady.spare zero_number refl h.1.1, h.1.2, h.1.3, c.shorten.ensures.steady.spare zero_number refl h.1.4))
