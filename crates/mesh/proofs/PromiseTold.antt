-- Every granted export keeps its promises.
use Rattle.std.proofs.Common.{◌≡◌, ℕ, true, false, cond, ◌&&◌, List, [], sym, refl, ap, ◌∙◌, subst, ⊎_elim}
use Rattle.std.proofs.lemmas.Bool.{both_ways, cases_Bool, and_from, cond-true, cond-false}
use Rattle.elements.specs.declared.corner.VertexIndices.{VertexIndices}
use Rattle.elements.specs.declared.options.LoadOptions.{LoadOptions}
use Rattle.elements.specs.Contents.{Sources, Contents}
use Rattle.mesh.specs.Unfold.{events, corners_of, arities_of}
use Rattle.mesh.specs.Surface.{Surface}
use Rattle.mesh.specs.Numbering.{single, multi, numbered, with_arities}
use Rattle.mesh.specs.Merging.{merged}
use Rattle.mesh.specs.Rules.{all_three, unmerged, trimmed, finished}
use Rattle.mesh.specs.Promises.{MeshPromise, Promises}
use Rattle.mesh.proofs.PromiseFacts.{Granted, granted}
use Rattle.mesh.proofs.PromiseMeshes.{single_promise, multi_promise, merged_promise}
use Rattle.mesh.proofs.PromiseArities.{arity_promise}

module _ (o : LoadOptions) (s : Sources) (cs : List VertexIndices) (ns : List ℕ) (g : Granted o s cs) where
  -- the mesh that the options ask for
  pub mesh_promise : MeshPromise o s cs (cond o.merge_identical_points (merged (with_arities ns (numbered o s cs))) (with_arities ns (numbered o s cs)))
  mesh_promise =
      let M : Surface → Type 0 = λ m. MeshPromise o s cs m in
      let a = λ (m : Surface). merged (with_arities ns m) in
      let b = λ (m : Surface). with_arities ns m in
      ⊎_elim
      (λ merging.
      let apart : o.single_index ≡ false = ⊎_elim (λ t. absurd (both_ways (o.single_index && o.merge_identical_points) g.apart (and_from _ _ t merging))) (λ f. f) (cases_Bool o.single_index) in
      subst M (sym (cond-true o.merge_identical_points _ _ merging ∙ ap a (cond-false o.single_index (single s cs) (multi s cs) apart))) (merged_promise o s cs ns g apart merging))
      (λ separate. ⊎_elim
      (λ t. subst M (sym (cond-false o.merge_identical_points _ _ separate ∙ ap b (cond-true o.single_index (single s cs) (multi s cs) t))) (single_promise o s cs ns g t separate))
      (λ f. subst M (sym (cond-false o.merge_identical_points _ _ separate ∙ ap b (cond-false o.single_index (single s cs) (multi s cs) f))) (multi_promise o s cs ns g f separate))
      (cases_Bool o.single_index))
      (cases_Bool o.merge_identical_points)

-- merging leaves the arities
finished-arities : (o : LoadOptions) (c : Contents) → (finished o c).arities ≡ (trimmed (unmerged o c)).arities
finished-arities o c = elim o.merge_identical_points as (λ b. (cond b (merged (trimmed (unmerged o c))) (trimmed (unmerged o c))).arities ≡ (trimmed (unmerged o c)).arities) [ true ↦ refl | false ↦ refl ]

pub promises : Promises
promises o c rs n h =
    let es = events o c.waiting in
    let kept = mesh_promise o c.sources (corners_of es) (cond (all_three (arities_of es)) [] (arities_of es)) (granted o c rs n h) in
    record { mesh = kept; arities = arity_promise o c.waiting (finished o c) (finished-arities o c) kept.counted }
