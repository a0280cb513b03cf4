-- The merging of a whole mesh.
use Rattle.std.proofs.Common.{◌≡◌, ℕ, ◌<◌, ◌≤◌, Bool, true, false, if◌then◌else◌, cond, ◌&&◌, ◌||◌, nat_lt, List, [], map, length, Some, Option, sym, refl, ap, ◌∙◌, subst, ⊎_elim, arith}
use Rattle.std.proofs.lemmas.List.{length-map}
use Rattle.std.proofs.lemmas.Bool.{cases_Bool, cond-true, cond-false}
use Rattle.std.proofs.lemmas.Grind.{common_steps}
use Rattle.elements.specs.declared.point.Point.{Point}
use Rattle.elements.specs.declared.point.Pair.{Pair}
use Rattle.elements.specs.declared.row.Row.{Row}
use Rattle.elements.specs.declared.error.LoadError.{LoadError}
use Rattle.elements.specs.declared.error.LoadError.TheVariants.{MeshFull}
use Rattle.elements.specs.Bits.{point_bits, pair_bits}
use Rattle.elements.specs.Checks.{first}
use Rattle.elements.specs.Rows.{items, room}
use Rattle.elements.proofs.RowFacts.{length-items}
use Rattle.mesh.specs.declared.lists.Lists.{Lists}
use Rattle.mesh.specs.Surface.{Capacities, over}
use Rattle.mesh.specs.Lists.{surface, rooms, Blank, Spare, zero_point, zero_pair, zero_number}
use Rattle.mesh.specs.Numbering.{some}
use Rattle.mesh.specs.Merging.{renumbered, merged, longest, merge_checks, bit_checks}
use Rattle.mesh.specs.Merges.{Within, most, AllSteady, RowsMerged, Mergeable, TablesFor}
use Rattle.mesh.proofs.MergeFacts.{renumbered-through}

-- ---- what merging lacks

-- a list has as many elements as it counts
pub length-elements : {E : Type 0} (meaning : E → List ℕ) (r : Row E) → length (map meaning (items r)) ≡ r.count
length-elements meaning r = length-map (items r) meaning ∙ length-items r

abbrev pub lacking : Lists → Bool
lacking l = nat_lt (rooms l).remap (longest (surface l)) || some (surface l).colours && over (rooms l).colour_indices (surface l).indices

-- the same, read from the rows
pub lacking_is : (l : Lists) → lacking l ≡ (nat_lt (room l.remap) (most l) || nat_lt 0 l.vertex_color.count && nat_lt (room l.vertex_color_indices) l.indices.count)
lacking_is l =
    let p = length-elements point_bits l.positions in
    let c = length-elements point_bits l.vertex_color in
    let n = length-elements point_bits l.normals in
    let t = length-elements pair_bits l.texcoords in
    let i = length-items l.indices in
    cc

-- what the colours' numbers start as
pub copied_as : (r : Row Point) (xs ys zs : List ℕ) → (0 < r.count → zs ≡ xs) → (r.count ≤ 0 → zs ≡ ys) → zs ≡ (if some (map point_bits (items r)) then xs else ys)
copied_as r xs ys zs a b = let n = length-elements point_bits r in grind (arith, common_steps)

-- ---- the checks, and all rows together

pub check_cells : (l : Lists) (n : Capacities) → lacking l ≡ true → Some MeshFull ≡ first (merge_checks (rooms l) n (surface l))
check_cells l n lacks = cc

-- where nothing is lacking, the tables decide
pub check_bits : (l : Lists) (n : Capacities) (p q : ℕ) (o : Option LoadError) → lacking l ≡ false → TablesFor n p q → o ≡ first (bit_checks p q (surface l)) → o ≡ first (merge_checks (rooms l) n (surface l))
check_bits l n p q o fine t h = cc

pub all-blank : (p : Point) (q : Pair) (a b : Lists) → AllSteady p q a b → zero_point p ≡ true → zero_pair q ≡ true → Blank a → Blank b
all-blank p q a b s zp zq h =
    let P : Row ℕ → Type 0 = λ r. Spare zero_number r in (
      (s.positions.spare zero_point zp h.0.0, s.colours.spare zero_point zp h.0.1, s.textures.spare zero_pair zq h.0.2, s.normals.spare zero_point zp h.0.3, s.indices.spare zero_number refl h.0.4),
      (subst P (sym s.arities) h.1.0, s.colour_indices.spare zero_number refl h.1.1, s.texture_indices.spare zero_number refl h.1.2, s.normal_indices.spare zero_number refl h.1.3, s.remap.spare zero_number refl h.1.4),
    )

-- ---- the merged mesh

module _ (a : Lists) (ok : Mergeable (surface a)) where
  -- the numbers of a merged list, where all of them name elements
  followed : {E : Type 0} (meaning : E → List ℕ) (r s : Row E) (ms ns : Row ℕ) → RowsMerged meaning r s ms ns → Within (length (map meaning (items r))) (items ms)
      → items ns ≡ renumbered (map meaning (items r)) (items ms)
  followed meaning r s ms ns m w = m.indices ∙ renumbered-through (map meaning (items r)) (items ms) w

  within_none : (k : ℕ) (ns : List ℕ) → ns ≡ [] → Within k ns
  within_none k ns e i l = let n = ap length e in absurd (omega arith)

  -- where cis are the colours' numbers before they were merged
  colour_numbers : (cs : Row Point) (cis cis' : Row ℕ)
      → items cis ≡ cond (some (surface a).colours) (items a.indices) (items a.vertex_color_indices)
      → RowsMerged point_bits a.vertex_color cs cis cis'
      → items cis' ≡ cond (some (surface a).colours) (renumbered (surface a).colours (surface a).indices) []
  colour_numbers cs cis cis' copied m = ⊎_elim
      (λ there.
      let is = copied ∙ cond-true (some (surface a).colours) (items a.indices) (items a.vertex_color_indices) there in
      let P : List ℕ → Type 0 = λ ns. Within (length (surface a).colours) ns in
      let Q : ℕ → Type 0 = λ n. Within n (items a.indices) in
      let w = subst Q (sym (ok.beside there)) ok.indices in
      followed point_bits a.vertex_color cs cis cis' m (subst P (sym is) w)
      ∙ (ap (renumbered (surface a).colours) is ∙ sym (cond-true (some (surface a).colours) (renumbered (surface a).colours (surface a).indices) [] there)))
      (λ lacks.
      let is = copied ∙ (cond-false (some (surface a).colours) (items a.indices) (items a.vertex_color_indices) lacks ∙ ok.none) in
      followed point_bits a.vertex_color cs cis cis' m (within_none (length (surface a).colours) (items cis) is)
      ∙ (ap (renumbered (surface a).colours) is ∙ sym (cond-false (some (surface a).colours) (renumbered (surface a).colours (surface a).indices) [] lacks)))
      (cases_Bool (some (surface a).colours))

  pub merged-all : (b : Lists) (cis : Row ℕ)
      → items cis ≡ cond (some (surface a).colours) (items a.indices) (items a.vertex_color_indices)
      → RowsMerged point_bits a.vertex_color b.vertex_color cis b.vertex_color_indices
      → RowsMerged point_bits a.positions b.positions a.indices b.indices
      → RowsMerged point_bits a.normals b.normals a.normal_indices b.normal_indices
      → RowsMerged pair_bits a.texcoords b.texcoords a.texcoord_indices b.texcoord_indices
      → b.face_arities ≡ a.face_arities
      → surface b ≡ merged (surface a)
  merged-all b cis copied mc mp mn mt same =
      let e0 = mp.points in
      let first-is = mc.points in
      let second_is = mt.points in
      let third-is = mn.points in
      let fourth-is = followed point_bits a.positions b.positions a.indices b.indices mp ok.indices in
      let fifth-is = ap items same in
      let sixth-is = colour_numbers b.vertex_color cis b.vertex_color_indices copied mc in
      let seventh-is = followed pair_bits a.texcoords b.texcoords a.texcoord_indices b.texcoord_indices mt ok.textures in
      let eighth-is = followed point_bits a.normals b.normals a.normal_indices b.normal_indices mn ok.normals in
      cc
