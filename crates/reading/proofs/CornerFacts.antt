use Rattle.std.proofs.Common.{◌≡◌, ℕ, ◌<◌, Bool, true, false, cond, List, [], ◌∷◌, length, get_or, drop, Some, None, Option, sym, refl, ap, ◌∙◌, arith}
use Rattle.std.proofs.lemmas.List.{get_or-drop, drop-drop}
use Rattle.std.specs.Bool.{then_some}
use Rattle.std.specs.Option.{option_map}
use Rattle.elements.specs.declared.corner.VertexIndices.{VertexIndices}
use Rattle.reading.specs.declared.counts.Counts.{Counts}
use Rattle.reading.specs.declared.reader.Part.{Part}
use Rattle.reading.specs.declared.reader.Part.TheVariants.{Empty, Filled}
use Rattle.reading.specs.declared.reader.Parts.{Parts}
use Rattle.reading.specs.Value.{value, reference}
use Rattle.reading.specs.Pieces.{whole, vacant}
use Rattle.reading.specs.Readers.{Gives, left, part_place}
use Rattle.reading.specs.Corner.{place, place_of, indices, corner_of}

place-filled : (n : ℕ) (bs : List ℕ) → 0 < length bs → place n bs ≡ option_map (reference n) (value bs)
place-filled n [] h = absurd (omega arith)
place-filled n (c ∷ cs) h = refl

-- what the reader answers refers to what the first of the parts that were left does
place_is : (n : ℕ) (s : Parts) (o : Option Part) (t : Parts) → Gives s o t → part_place n o ≡ place_of n (left s) 0
place_is n s None t h = sym (ap (λ z. place_of n z 0) h.0.0)
place_is n s (Some (Empty at)) t h = sym (ap (λ z. place_of n z 0) h.0)
place_is n s (Some (Filled bytes at)) t h = sym (ap (λ z. place_of n z 0) h.0 ∙ place-filled n bytes.now h.1)

left_is : (s : Parts) (o : Option Part) (t : Parts) → Gives s o t → left t ≡ drop 1 (left s)
left_is s None t h = h.0.1 ∙ sym (ap (drop 1) h.0.0)
left_is s (Some p) t h = sym (ap (drop 1) h.0)

then_by : (b : Bool) (x : VertexIndices) → then_some b x ≡ cond b (Some x) None
then_by true x = refl
then_by false x = refl

-- the corner from the answers of the reader
module _ (n : Counts) (s0 s1 s2 s3 : Parts) (q1 q2 q3 : Option Part) (g1 : Gives s0 q1 s1) (g2 : Gives s1 q2 s2) (g3 : Gives s2 q3 s3) where
  pub corner_is : corner_of n (left s0) ≡ cond (vacant (left s3)) (indices (part_place n.positions q1) (part_place n.textures q2) (part_place n.normals q3)) None
  corner_is =
      let l1 = left_is s0 q1 s1 g1 in
      let l2 : left s2 ≡ drop 2 (left s0) = left_is s1 q2 s2 g2 ∙ (ap (drop 1) l1 ∙ drop-drop 1 1 (left s0)) in
      let l3 : left s3 ≡ drop 3 (left s0) = left_is s2 q3 s3 g3 ∙ (ap (drop 1) l2 ∙ drop-drop 1 2 (left s0)) in
      let a = place_is n.positions s0 q1 s1 g1 in
      let b = place_is n.textures s1 q2 s2 g2 ∙ ap (λ z. place n.textures z.bytes) (ap (λ z. get_or z 0 (whole [])) l1 ∙ get_or-drop 1 (left s0) 0 (whole [])) in
      let d = place_is n.normals s2 q3 s3 g3 ∙ ap (λ z. place n.normals z.bytes) (ap (λ z. get_or z 0 (whole [])) l2 ∙ get_or-drop 2 (left s0) 0 (whole [])) in
      rw (a, b, d, l3) refl

  pub corner_read : (v vt vn : ℕ) (b : Bool) → part_place n.positions q1 ≡ Some v → part_place n.textures q2 ≡ Some vt → part_place n.normals q3 ≡ Some vn → b ≡ vacant (left s3)
      → then_some b (record { v = v; vt = vt; vn = vn }) ≡ corner_of n (left s0)
  corner_read v vt vn b h1 h2 h3 e =
      let all : cond (vacant (left s3)) (indices (part_place n.positions q1) (part_place n.textures q2) (part_place n.normals q3)) None ≡ cond (vacant (left s3)) (indices (Some v) (Some vt) (Some vn)) None = rw (h1, h2, h3) refl in
      then_by b _ ∙ (ap (λ d. cond d (indices (Some v) (Some vt) (Some vn)) None) e ∙ sym (corner_is ∙ all))
