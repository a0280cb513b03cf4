use Rattle.std.proofs.Common.{◌≡◌, ◌⊎◌, true, is_ok, Some, Err, sym, ap, ◌∙◌, arith}
use Rattle.std.proofs.lemmas.Result.{err_from_is_err_and}
use Rattle.std.proofs.lemmas.Bool.{not-true, not-false}
use Rattle.elements.specs.Contents.{sources}
use Rattle.elements.specs.declared.error.LoadError.TheVariants.{MeshFull}
use Rattle.mesh.specs.Lists.{rooms}
use Rattle.mesh.proofs.SingleSourceFacts.{or_mesh_full}
use Rattle.mesh.proofs.MultiStepFacts.{looking_is, looks_brings, full-crowded, numbers_uncrowded, numbers-keys, numbers_brings, refused-reference, refused_table, refused_list, refused-not}
use Rattle.mesh.proofs.multi.add_vertex_multi_index.Goals as goal

pub returns-in_err-found-clause-adds : goal.returns-in_err-found-clause-adds
returns-in_err-found-clause-adds g c n _ ks ns cs st =
    let a = c.args.attributes.now in
    let p = err_from_is_err_and c.from_residual.result c.from_residual.ensures.1 in
    rw (p.1, p.2) (refused-reference (sources a) (rooms c.args.lists.now) n ns cs c.args.vert _ (sym (looking_is a c.args.vert) ∙ c.in_err-found.ensures))

pub returns-in_err-corner-clause-adds : goal.returns-in_err-corner-clause-adds
returns-in_err-corner-clause-adds g c n ready ks ns cs st =
    let a = c.args.attributes.now in
    let v = c.args.vert in
    let k = c.in_ok-found.found in
    let found = c.in_ok-found.ensures.1 in
    let p = err_from_is_err_and c.from_residual-in_err-corner.result c.from_residual-in_err-corner.ensures.1 in
    let e = c.in_err-corner.ensures.numbers in
    let b = looks_brings a v c.args.lists.now k found ns cs st.surface in
    let i = c.enter_corner.new in
    rw (p.1, p.2) (refused_table (sources a) (rooms c.args.lists.now) n ns cs v (sym (looking_is a v) ∙ c.in_ok-found.ensures.0)
    (full-crowded (sources a) cs v k b g.Pt.CornerTable g.Tt.CornerTable g.Nt.CornerTable c.args.positions.now i.positions c.args.textures.now i.textures c.args.normals.now i.normals
    n ready ks st.keys _ e) ∙ ap (λ x. Some x) (sym e.0))

pub returns-clause-adds : goal.returns-clause-adds
returns-clause-adds g c n ready ks ns cs st =
    let a = c.args.attributes.now in
    let v = c.args.vert in
    let k = c.in_ok-found.found in
    let found = c.in_ok-found.ensures.1 in
    let i = c.enter_corner.new in
    let j = c.in_ok-corner.corner in
    let h = c.in_ok-corner.ensures.numbers in
    let same = c.enter_corner.ensures.positions.capacity in
    let first = sym (looking_is a v) ∙ c.in_ok-found.ensures.0 in
    let b = looks_brings a v c.args.lists.now k found ns cs st.surface in
    let room = numbers_uncrowded (sources a) cs v k b g.Pt.CornerTable g.Tt.CornerTable g.Nt.CornerTable c.args.positions.now i.positions c.args.textures.now i.textures c.args.normals.now i.normals n ready ks st.keys j h same in
    let brings = numbers_brings (sources a) cs v k b g.Pt.CornerTable g.Tt.CornerTable g.Nt.CornerTable c.args.positions.now i.positions c.args.textures.now i.textures c.args.normals.now i.normals n ready ks st.keys j h same in
    let keys = numbers-keys (sources a) cs v k b g.Pt.CornerTable g.Tt.CornerTable g.Nt.CornerTable c.args.positions.now i.positions c.args.textures.now i.textures c.args.normals.now i.normals n ready ks st.keys j h same in
    let drew = c.write_corner.ensures.drew (sources a) ns cs v st.surface brings in
    let full : (c.map_err.result ≡ Err MeshFull) ⊎ (is_ok c.write_corner.result ≡ true) = grind arith in
    or_mesh_full _ _ c.map_err.result (is_ok c.write_corner.result) c.map_err.ensures.variant full
    (λ _ e. (
      refused-not (sources a) (rooms c.args.lists.now) n ns cs v first room (not-true _ (sym drew.tells ∙ e)),
      record { surface = drew.surface e; keys = keys },
    ))
    (λ e. refused_list (sources a) (rooms c.args.lists.now) n ns cs v first room (not-false _ (sym drew.tells ∙ e)))
