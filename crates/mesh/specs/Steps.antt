-- What adding one corner to a mesh does, said from any list of corners that the mesh was made of before.
--   AddsSingle    where one number stands for a corner
--   AddsMulti     where positions, textures and normals are numbered apart
--   Adds          by the options
use Rattle.std.specs.Prelude.{◌≡◌, ℕ, List, [], ◌∷◌, ◌++◌, Some, None, Result, MatchResult}
use Rattle.elements.specs.declared.corner.VertexIndices.{VertexIndices}
use Rattle.elements.specs.declared.options.LoadOptions.{LoadOptions}
use Rattle.elements.specs.declared.error.LoadError.{LoadError}
use Rattle.elements.specs.Checks.{first}
use Rattle.elements.specs.Contents.{Sources}
use Rattle.elements.specs.First.{distinct}
use Rattle.mesh.specs.Surface.{Surface, Rooms, Capacities}
use Rattle.mesh.specs.Numbering.{Keys, corner_keys, single, multi, multi_keys, numbered, keyed, with_arities}
use Rattle.mesh.specs.Rules.{single_checks, multi_checks, corner_checks}

-- the mesh m, with the keys ks, is that of the corners cs, with the arities ns
pub record SingleOf (s : Sources) (ns : List ℕ) (cs : List VertexIndices) (m : Surface) (ks : List (List ℕ)) : Type 0 where
  pub surface : m ≡ with_arities ns (single s cs)
  pub keys : ks ≡ distinct (corner_keys cs)

pub record MultiOf (s : Sources) (ns : List ℕ) (cs : List VertexIndices) (m : Surface) (ks : Keys) : Type 0 where
  pub surface : m ≡ with_arities ns (multi s cs)
  pub keys : ks ≡ multi_keys s cs

pub record DrawnOf (o : LoadOptions) (s : Sources) (ns : List ℕ) (cs : List VertexIndices) (m : Surface) (ks : Keys) : Type 0 where
  pub surface : m ≡ with_arities ns (numbered o s cs)
  pub keys : ks ≡ keyed o s cs

module _ {X : Type 0} (s : Sources) (rs : Rooms) (n : Capacities) (c : VertexIndices) where
  -- the corner c turned the mesh m with the keys ks into m' with ks', or was refused
  abbrev pub AddsSingle : Surface → List (List ℕ) → Surface → List (List ℕ) → Result X LoadError → Type 0
  AddsSingle m ks m' ks' r =
      (ns : List ℕ) (cs : List VertexIndices) → SingleOf s ns cs m ks →
      MatchResult r
      (λ _. (first (single_checks s rs n ns cs c) ≡ None) × SingleOf s ns (cs ++ c ∷ []) m' ks')
      (λ e. first (single_checks s rs n ns cs c) ≡ Some e)

  abbrev pub AddsMulti : Surface → Keys → Surface → Keys → Result X LoadError → Type 0
  AddsMulti m ks m' ks' r =
      (ns : List ℕ) (cs : List VertexIndices) → MultiOf s ns cs m ks →
      MatchResult r
      (λ _. (first (multi_checks s rs n ns cs c) ≡ None) × MultiOf s ns (cs ++ c ∷ []) m' ks')
      (λ e. first (multi_checks s rs n ns cs c) ≡ Some e)

  abbrev pub Adds : LoadOptions → Surface → Keys → Surface → Keys → Result X LoadError → Type 0
  Adds o m ks m' ks' r =
      (ns : List ℕ) (cs : List VertexIndices) → DrawnOf o s ns cs m ks →
      MatchResult r
      (λ _. (first (corner_checks o s rs n ns cs c) ≡ None) × DrawnOf o s ns (cs ++ c ∷ []) m' ks')
      (λ e. first (corner_checks o s rs n ns cs c) ≡ Some e)
