-- What a reference asks for, and the checks of a corner against the elements that there are.
use Rattle.std.proofs.Common.{◌≡◌, ℕ, ◌<◌, ◌≤◌, Bool, true, false, cond, not, ◌&&◌, eqb, ltb, leb, List, [], ◌∷◌, ◌++◌, map, length, Some, None, Option, Ok, Err, Result, is_ok, MatchResult, ◌⊎◌, sym, refl, ap, ◌∙◌, subst, ⊎_elim, arith}
use Rattle.std.proofs.lemmas.Bool.{lt-ltb, le-leb, ne_eqb, and_from, and_cases, both_ways, cases_lt, cases_Bool, not_from_false, cond-true, cond-false}
use Rattle.std.proofs.lemmas.List.{length-map, get_or-map}
use Rattle.elements.specs.declared.row.Row.{Row}
use Rattle.elements.specs.declared.point.Point.{Point}
use Rattle.elements.specs.declared.attributes.Attributes.{Attributes}
use Rattle.elements.specs.declared.corner.VertexIndices.{VertexIndices}
use Rattle.elements.specs.declared.error.LoadError.{LoadError}
use Rattle.elements.specs.declared.error.LoadError.TheVariants.{FaceVertexOutOfBounds, FaceTexCoordOutOfBounds, FaceNormalOutOfBounds, FaceColorOutOfBounds, MeshFull}
use Rattle.elements.specs.Bits.{point_bits, pair_bits}
use Rattle.elements.specs.Checks.{first}
use Rattle.elements.specs.Contents.{Sources, sources}
use Rattle.elements.specs.Corners.{missing}
use Rattle.elements.specs.Rows.{items}
use Rattle.elements.proofs.RowFacts.{length-items}
use Rattle.mesh.specs.Numbering.{some, names, element}
use Rattle.mesh.specs.Rules.{outside, uncoloured}
use Rattle.mesh.specs.declared.single.Vertex.{Vertex}
use Rattle.mesh.specs.Streams.{lost}
use Rattle.mesh.specs.Single.{bits_of, reading_checks, At, Reads}

pub some-none : {E : Type 0} (e : E) → Some e ≡ None → ⊥
some-none e h = let z : ◌≡◌ {A = ℕ} 0 1 = cc in omega arith

pub length_bits : {X : Type 0} (bits : X → List ℕ) (r : Row X) → length (map bits (items r)) ≡ r.count
length_bits bits r = length-map (items r) bits ∙ length-items r

-- the element of xs that a reference asks for, if it asks for one
abbrev pub asked : List (List ℕ) → ℕ → Option (List ℕ)
asked xs r = cond (names xs r) (Some (element xs r)) None

-- v has what the corner c asks for
pub record Gathered (s : Sources) (c : VertexIndices) (v : Vertex) : Type 0 where
  pub position : point_bits v.position ≡ element s.positions c.v
  pub texture : bits_of pair_bits v.texture ≡ asked s.textures c.vt
  pub normal : bits_of point_bits v.normal ≡ asked s.normals c.vn
  pub colour : bits_of point_bits v.colour ≡ cond (some s.colours) (Some (element s.colours c.v)) None

-- the checks of a corner against the elements that there are
abbrev pub source_checks : Sources → VertexIndices → List (Bool × LoadError)
source_checks s c =
    (leb (length s.positions) c.v, FaceVertexOutOfBounds)
    ∷ (outside s.textures c.vt, FaceTexCoordOutOfBounds)
    ∷ (outside s.normals c.vn, FaceNormalOutOfBounds)
    ∷ (uncoloured s.colours c.v, FaceColorOutOfBounds)
    ∷ []

-- ---- checks in their order

module _ {E : Type 0} where
  -- what passes the first checks is up to those after them
  pub first_after : (xs ys : List (Bool × E)) → first xs ≡ None → first (xs ++ ys) ≡ first ys
  first_after [] ys h = refl
  first_after (x ∷ xs) ys h = ⊎_elim
      (λ t. absurd (some-none x.1 (sym (cond-true x.0 (Some x.1) (first xs) t) ∙ h)))
      (λ f. cond-false x.0 (Some x.1) (first (xs ++ ys)) f ∙ first_after xs ys (sym (cond-false x.0 (Some x.1) (first xs) f) ∙ h))
      (cases_Bool x.0)

  -- what fails them is refused by them
  pub first_before : (xs ys : List (Bool × E)) (e : E) → first xs ≡ Some e → first (xs ++ ys) ≡ Some e
  first_before [] ys e h = absurd (some-none e (sym h))
  first_before (x ∷ xs) ys e h = ⊎_elim
      (λ t. cond-true x.0 (Some x.1) (first (xs ++ ys)) t ∙ (sym (cond-true x.0 (Some x.1) (first xs) t) ∙ h))
      (λ f. cond-false x.0 (Some x.1) (first (xs ++ ys)) f ∙ first_before xs ys e (sym (cond-false x.0 (Some x.1) (first xs) f) ∙ h))
      (cases_Bool x.0)

-- what a call answers that refuses where its lists have no cell left
pub or_mesh_full : {X : Type 0} (P : X → Type 0) (Q : LoadError → Type 0) (r : Result X LoadError) (b : Bool) → is_ok r ≡ b → (r ≡ Err MeshFull) ⊎ (b ≡ true)
    → ((x : X) → b ≡ true → P x) → (b ≡ false → Q MeshFull) → MatchResult r P Q
or_mesh_full P Q (Ok x) b e h p q = p x (sym e)
or_mesh_full P Q (Err d) b e h p q = ⊎_elim (λ i. let same : MeshFull ≡ d = cc in subst Q same (q (sym e))) (λ t. absurd (both_ways b (sym e) t)) h

-- ---- a row by the bits of its elements

module _ {X : Type 0} (bits : X → List ℕ) (r : Row X) (at : ℕ) where
  names_here : 0 < r.count → (at ≡ missing → ⊥) → names (map bits (items r)) at ≡ true
  names_here l h =
      let n = length_bits bits r in
      and_from (some (map bits (items r))) (not (eqb at missing)) (lt-ltb 0 (length (map bits (items r))) (omega arith)) (not_from_false (eqb at missing) (ne_eqb at missing h))

  -- whether a reference is refused is seen from the count alone
  pub lost-outside : outside (map bits (items r)) at ≡ lost r at
  lost-outside = ap (λ n. (ltb 0 n && not (eqb at missing)) && leb n at) (length_bits bits r)

  -- a place that is there is not the missing one
  pub there : at < r.count → at ≡ missing → ⊥
  there l e = let f = r.fits in omega arith

  names-there : at < r.count → names (map bits (items r)) at ≡ true
  names-there l = names_here (omega arith) (there l)

  -- a reference that leads nowhere and yet passes its check asks for nothing
  names-none : r.count ≤ at → outside (map bits (items r)) at ≡ false → names (map bits (items r)) at ≡ false
  names-none l e =
      let n = length_bits bits r in
      ⊎_elim (λ f. f) (λ f. absurd (both_ways (leb (length (map bits (items r))) at) f (le-leb (length (map bits (items r))) at (omega arith)))) (and_cases (names (map bits (items r)) at) (leb (length (map bits (items r))) at) e)

  -- an element that is there
  pub reads : (x : X) → At r at (Some x) → bits x ≡ element (map bits (items r)) at
  reads x h = let l = h.0 in let n = length-items r in ap bits h.1 ∙ sym (get_or-map bits (items r) at x [] (omega arith))

  pub reads-asked : (o : Option X) → lost r at ≡ false → At r at o → bits_of bits o ≡ asked (map bits (items r)) at
  reads-asked None e h = sym (cond-false (names (map bits (items r)) at) (Some (element (map bits (items r)) at)) None (names-none h (lost-outside ∙ e)))
  reads-asked (Some x) e h = ap (λ y. Some y) (reads x h) ∙ sym (cond-true (names (map bits (items r)) at) (Some (element (map bits (items r)) at)) None (names-there h.0))

-- ---- the checks by attributes and by sources

-- a reference that is not missing asks wherever there are elements
names-some : (xs : List (List ℕ)) (v : ℕ) → (v ≡ missing → ⊥) → names xs v ≡ some xs
names-some xs v h =
    ap (λ b. some xs && b) (not_from_false (eqb v missing) (ne_eqb v missing h))
    ∙ elim (some xs) as (λ b. (b && true) ≡ b) [ true ↦ refl | false ↦ refl ]

module _ (a : Attributes) (c : VertexIndices) where
  colour-names : c.v < a.positions.count → names (sources a).colours c.v ≡ some (sources a).colours
  colour-names l = names-some (sources a).colours c.v (there point_bits a.positions c.v l)

  -- a place that has a position asks for a colour wherever there are colours
  pub uncoloured-lost : c.v < a.positions.count → uncoloured (sources a).colours c.v ≡ lost a.colours c.v
  uncoloured-lost l = ap (λ b. b && leb (length (sources a).colours) c.v) (sym (colour-names l)) ∙ lost-outside point_bits a.colours c.v

  pub reading_is : first (reading_checks a c) ≡ first (source_checks (sources a) c)
  reading_is =
      let n = length_bits point_bits a.positions in
      let t = lost-outside pair_bits a.textures c.vt in
      let m = lost-outside point_bits a.normals c.vn in
      ⊎_elim
      (λ l. let k = uncoloured-lost l in simp (n, t, m, k) refl)
      (λ l. cond-true (leb a.positions.count c.v) _ _ (le-leb a.positions.count c.v l) ∙ sym (cond-true (leb (length (sources a).positions) c.v) _ _ (le-leb (length (sources a).positions) c.v (omega arith))))
      (cases_lt c.v a.positions.count)

  pub colour_asked : (o : Option Point) → c.v < a.positions.count → lost a.colours c.v ≡ false → At a.colours c.v o → bits_of point_bits o ≡ cond (some (sources a).colours) (Some (element (sources a).colours c.v)) None
  colour_asked o l e h = reads-asked point_bits a.colours c.v o e h ∙ ap (λ b. cond b (Some (element (sources a).colours c.v)) None) (colour-names l)

  -- checks that pass one by one
  passed : (p t n k : Bool) (e₁ e₂ e₃ e₄ : LoadError) → first ((p, e₁) ∷ (t, e₂) ∷ (n, e₃) ∷ (k, e₄) ∷ []) ≡ None → (t ≡ false) × (n ≡ false) × (k ≡ false)
  passed false false false false e₁ e₂ e₃ e₄ h = (refl, refl, refl)
  passed false false false true e₁ e₂ e₃ e₄ h = absurd (some-none e₄ h)
  passed false false true k e₁ e₂ e₃ e₄ h = absurd (some-none e₃ h)
  passed false true n k e₁ e₂ e₃ e₄ h = absurd (some-none e₂ h)
  passed true t n k e₁ e₂ e₃ e₄ h = absurd (some-none e₁ h)

  pub gathered : (v : Vertex) → first (reading_checks a c) ≡ None → Reads a c v → Gathered (sources a) c v
  gathered v h r =
      let ok = passed (leb a.positions.count c.v) (lost a.textures c.vt) (lost a.normals c.vn) (lost a.colours c.v) _ _ _ _ h in
      record {
        position = reads point_bits a.positions c.v v.position r.position;
        texture = reads-asked pair_bits a.textures c.vt v.texture ok.0 r.texture;
        normal = reads-asked point_bits a.normals c.vn v.normal ok.1 r.normal;
        colour = colour_asked v.colour r.position.0 ok.2 r.colour;
      }
