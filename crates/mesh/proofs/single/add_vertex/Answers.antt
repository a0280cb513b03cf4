use Rattle.std.proofs.Common.{◌≡◌, ◌∙◌, ◌≤◌, Some, None, ◌⊎◌, Err, true, is_ok, length, sym, arith}
use Rattle.std.proofs.lemmas.Result.{err_from_is_err_and}
use Rattle.elements.specs.Contents.{sources}
use Rattle.elements.specs.declared.error.LoadError.TheVariants.{TableFull, MeshFull}
use Rattle.mesh.proofs.SingleSourceFacts.{or_mesh_full, reading_is, gathered}
use Rattle.mesh.proofs.SingleListFacts.{undisturbed}
use Rattle.mesh.proofs.SingleFacts.{adds_refused, adds_crowded, adds_full, adds_done, settled_changed}
use Rattle.mesh.proofs.single.add_vertex.Goals as goal

pub returns-in_err-vertex-clause-adds : goal.returns-in_err-vertex-clause-adds
returns-in_err-vertex-clause-adds g c sd n en ns cs st =
    let a = c.args.attributes.now in
    let k = c.args.vert in
    let e = c.in_err-vertex.field-0.0 in
    let p = err_from_is_err_and c.from_residual.result c.from_residual.ensures.1 in
    rw (p.1, p.2) (adds_refused (sources a) n k c.args.lists.now ns cs e (sym (reading_is a k) ∙ c.in_err-vertex.ensures))

pub returns-in_err-number-clause-adds : goal.returns-in_err-number-clause-adds
returns-in_err-number-clause-adds g c sd n en ns cs st =
    let a = c.args.attributes.now in
    let k = c.args.vert in
    let p = err_from_is_err_and c.from_residual-in_err-number.result c.from_residual-in_err-number.ensures.1 in
    let none : c.enter.result ≡ None = grind arith in
    let full : c.in_err-number.field-0.0 ≡ TableFull = grind arith in
    let refused = rw none at c.enter.ensures.entering sd in
    rw (p.1, p.2, full) (adds_crowded (sources a) n k c.args.lists.now ns cs _ st (sym (reading_is a k) ∙ c.in_ok-vertex.ensures.0) _ (rw (sym en) at refused))

pub returns-clause-lists : goal.returns-clause-lists
returns-clause-lists g c =
    let h = c.settle.ensures in
    undisturbed _ _ (settled_changed c.args.lists.now c.settle.new.lists c.in_ok-number.number c.in_ok-vertex.vertex (is_ok c.settle.result) h.old h.new)

pub returns-clause-adds : goal.returns-clause-adds
returns-clause-adds g c sd n en ns cs st =
    let a = c.args.attributes.now in
    let k = c.args.vert in
    let p = c.args.lists.now in
    let q = c.settle.new.lists in
    let b = is_ok c.settle.result in
    let got = c.in_ok-vertex.ensures in
    let good = sym (reading_is a k) ∙ got.0 in
    let v = c.in_ok-vertex.vertex in
    let ga = gathered a k v got.0 got.1 in
    let h = c.settle.ensures in
    let taken : c.enter.result ≡ Some c.in_ok-number.number = grind arith in
    let placed = rw (sym en) at (rw taken at c.enter.ensures.entering sd) in
    let within : length (g.T.CornerTable.keys c.enter.new.self) ≤ n.corners = let f = (c.enter.ensures.fit sd).within in let m = c.enter.ensures.capacity in omega arith in
    let full : (c.map_err.result ≡ Err MeshFull) ⊎ (b ≡ true) = grind arith in
    or_mesh_full _ _ c.map_err.result b c.map_err.ensures.variant full
    (λ x. adds_done (sources a) n k p ns cs _ st good v ga _ c.in_ok-number.number placed within q b h.old h.new)
    (adds_full (sources a) n k p ns cs _ st good v ga _ c.in_ok-number.number placed within q b h.old h.new)
