-- The lists of a mesh after one corner more was to be written.
use Rattle.std.proofs.Common.{◌≡◌, ℕ, zero, suc, ◌-◌, Bool, true, false, cond, not, ◌||◌, eqb, ltb, List, [], ◌∷◌, ◌++◌, map, length, replicate, Some, None, Option, sym, refl, ap, ◌∙◌, subst}
use Rattle.std.proofs.lemmas.Bool.{both_ways, not-true, or_left, or_right, or_from, or_parts}
use Rattle.std.proofs.lemmas.List.{length-map, map-append, map_push}
use Rattle.elements.specs.declared.row.Row.{Row}
use Rattle.elements.specs.declared.point.Point.{Point}
use Rattle.elements.specs.declared.point.Pair.{Pair}
use Rattle.elements.specs.Bits.{point_bits, pair_bits}
use Rattle.elements.specs.Rows.{items, room}
use Rattle.mesh.specs.declared.lists.Lists.{Lists}
use Rattle.mesh.specs.declared.single.Vertex.{Vertex}
use Rattle.mesh.specs.Surface.{Surface, Rooms, over, lacks}
use Rattle.mesh.specs.Lists.{surface, rooms, Spare, zero_number, zero_point, zero_pair}
use Rattle.mesh.specs.Single.{Kept, Becomes, Undisturbed, Changed, Settles, padded, attached, followed, bits_of, numbered_again, widened}
use Rattle.mesh.proofs.SingleRowFacts.{kept_same, kept_then, row_fits}
use Rattle.mesh.proofs.SingleSourceFacts.{length_bits}

pub not-not : (b : Bool) → not (not b) ≡ b
not-not true = refl
not-not false = refl

-- ---- rows by their bits

module _ {X : Type 0} (bits : X → List ℕ) where
  over_bits : (n : ℕ) (xs : List X) → over n (map bits xs) ≡ over n xs
  over_bits n xs = ap (λ (k : ℕ). ltb n k) (length-map xs bits)

  pub bits_fit : (r : Row X) → over (room r) (map bits (items r)) ≡ false
  bits_fit r = over_bits (room r) (items r) ∙ row_fits r

  map-replicate : (n : ℕ) (z : X) → map bits (replicate n z) ≡ replicate n (bits z)
  map-replicate zero z = refl
  map-replicate (suc n) z = ap (λ ys. bits z ∷ ys) (map-replicate n z)

  map-padded : (n : ℕ) (z : X) (xs : List X) → map bits (padded n z xs) ≡ padded n (bits z) (map bits xs)
  map-padded n z xs =
      map-append bits xs (replicate (n - length xs) z)
      ∙ ap (λ ys. map bits xs ++ ys) (map-replicate (n - length xs) z ∙ ap (λ (k : ℕ). replicate (n - k) (bits z)) (sym (length-map xs bits)))

  map-attached : (n : ℕ) (z : X) (xs : List X) (o : Option X) → map bits (attached n z xs o) ≡ attached n (bits z) (map bits xs) (bits_of bits o)
  map-attached n z xs None =
      elim (eqb (length xs) 0) as (λ b. map bits (cond b xs (xs ++ z ∷ [])) ≡ cond b (map bits xs) (map bits xs ++ bits z ∷ [])) [ true ↦ refl | false ↦ map_push bits xs z ]
      ∙ ap (λ (k : ℕ). cond (eqb k 0) (map bits xs) (map bits xs ++ bits z ∷ [])) (sym (length-map xs bits))
  map-attached n z xs (Some x) = map_push bits (padded n z xs) x ∙ ap (λ ys. ys ++ bits x ∷ []) (map-padded n z xs)

  attached_bits : (xs : List X) (o : Option X) (z : X) (w : List ℕ) (i k : ℕ) → bits z ≡ w → i ≡ k → map bits (attached i z xs o) ≡ attached k w (map bits xs) (bits_of bits o)
  attached_bits xs o z w i k ez ei =
      map-attached i z xs o
      ∙ (ap (λ (x : List ℕ). attached i x (map bits xs) (bits_of bits o)) ez ∙ ap (λ (n : ℕ). attached n w (map bits xs) (bits_of bits o)) ei)

  map-followed : (xs : List X) (o : Option X) → map bits (followed xs o) ≡ followed (map bits xs) (bits_of bits o)
  map-followed xs None = refl
  map-followed xs (Some x) = map_push bits xs x

-- ---- all lists together

pub undisturbed : (p q : Lists) → Changed p q → Undisturbed p q
undisturbed p q h =
    record {
      rooms = let a = h.positions.room in let b = h.colours.room in let c = h.textures.room in let d = h.normals.room in let e = h.indices.room in
          let f = h.same.arities in let g = h.same.colour_indices in let i = h.same.texture_indices in let j = h.same.normal_indices in let k = h.remap in
          cc;
      blank = λ b.
          let P : Row ℕ → Type 0 = Spare zero_number in (
            (
              h.positions.spare zero_point b.0.0,
              h.colours.spare zero_point b.0.1,
              h.textures.spare zero_pair b.0.2,
              h.normals.spare zero_point b.0.3,
              h.indices.spare zero_number b.0.4,
            ),
            (
              subst P (sym h.same.arities) b.1.0,
              subst P (sym h.same.colour_indices) b.1.1,
              subst P (sym h.same.texture_indices) b.1.2,
              subst P (sym h.same.normal_indices) b.1.3,
              subst P (sym h.remap) b.1.4,
            ),
          );
      remap = h.remap;
    }

pub changed-same : (p : Lists) → Changed p p
changed-same p =
    record {
      positions = kept_same p.positions;
      colours = kept_same p.vertex_color;
      textures = kept_same p.texcoords;
      normals = kept_same p.normals;
      indices = kept_same p.indices;
      same = record { arities = refl; colour_indices = refl; texture_indices = refl; normal_indices = refl };
      remap = refl;
    }

-- what lists hold fits them
pub lists_fit : (p : Lists) → lacks (rooms p) (surface p) ≡ false
lists_fit p =
    or_from _ _ (bits_fit point_bits p.positions)
    (or_from _ _ (bits_fit point_bits p.vertex_color)
    (or_from _ _ (bits_fit pair_bits p.texcoords)
    (or_from _ _ (bits_fit point_bits p.normals)
    (or_from _ _ (row_fits p.indices)
    (or_from _ _ (row_fits p.face_arities)
    (or_from _ _ (row_fits p.texcoord_indices) (row_fits p.normal_indices)))))))

pub settles_same : (p : Lists) → Settles p p (surface p) true
settles_same p = record { changed = changed-same p; tells = sym (ap not (lists_fit p)); granted = λ _. refl }

-- where one list alone can be too long, it decides
pub or_false : (b : Bool) → (b || false) ≡ b
or_false true = refl
or_false false = refl

fifth : (a b c d e f : Bool) → (a || (b || (c || (d || (e || f))))) ≡ false → (x : Bool) → (a || (b || (c || (d || (x || f))))) ≡ x
fifth a b c d e f h x =
    let h1 = or_parts a _ h in
    let h2 = or_parts b _ h1.1 in
    let h3 = or_parts c _ h2.1 in
    let h4 = or_parts d _ h3.1 in
    let h5 = or_parts e f h4.1 in
    let ea = h1.0 in let eb = h2.0 in let ec = h3.0 in let ed = h4.0 in let ef = h5.1 in
    rw (ea, eb, ec, ed, ef) (or_false x)

second : (a b c : Bool) → a ≡ false → c ≡ false → (a || (b || c)) ≡ b
second a b c ea ec = rw (ea, ec) (or_false b)

-- ---- one number more at the end of the indices

lacks_again : (rs : Rooms) (m : Surface) (i : ℕ) → lacks rs m ≡ false → lacks rs (numbered_again m i) ≡ over rs.indices (m.indices ++ i ∷ [])
lacks_again rs m i h =
    fifth (over rs.positions m.positions) (over rs.colours m.colours) (over rs.textures m.textures) (over rs.normals m.normals)
    (over rs.indices m.indices) (over rs.arities m.arities || (over rs.texture_indices m.texture_indices || over rs.normal_indices m.normal_indices))
    h (over rs.indices (m.indices ++ i ∷ []))

abbrev with_indices : Lists → Row ℕ → Lists
with_indices q s =
    record {
      positions = q.positions;
      vertex_color = q.vertex_color;
      texcoords = q.texcoords;
      normals = q.normals;
      indices = s;
      face_arities = q.face_arities;
      vertex_color_indices = q.vertex_color_indices;
      texcoord_indices = q.texcoord_indices;
      normal_indices = q.normal_indices;
      remap = q.remap;
    }

abbrev surface_with : Lists → List ℕ → Surface
surface_with q ns =
    record {
      positions = map point_bits (items q.positions);
      colours = map point_bits (items q.vertex_color);
      textures = map pair_bits (items q.texcoords);
      normals = map point_bits (items q.normals);
      indices = ns;
      arities = items q.face_arities;
      colour_indices = items q.vertex_color_indices;
      texture_indices = items q.texcoord_indices;
      normal_indices = items q.normal_indices;
    }

pub settles_push : (p q : Lists) (m : Surface) (i : ℕ) (s : Row ℕ) (b : Bool) → Settles p q m true → Becomes q.indices s (items q.indices ++ i ∷ []) b
    → Settles p (with_indices q s) (numbered_again m i) b
settles_push p q m i s b h e =
    let is = h.granted refl in
    let grown : items q.indices ++ i ∷ [] ≡ m.indices ++ i ∷ [] = ap (λ (w : Surface). w.indices ++ i ∷ []) is in
    let c = h.changed in
    record {
      changed = record {
        positions = c.positions;
        colours = c.colours;
        textures = c.textures;
        normals = c.normals;
        indices = kept_then p.indices q.indices s c.indices e.kept;
        same = record { arities = c.same.arities; colour_indices = c.same.colour_indices; texture_indices = c.same.texture_indices; normal_indices = c.same.normal_indices };
        remap = c.remap;
      };
      tells = e.tells ∙ (ap (λ (n : ℕ). not (over n (items q.indices ++ i ∷ []))) c.indices.room
          ∙ (ap (λ (ns : List ℕ). not (over (room p.indices) ns)) grown
          ∙ ap not (sym (lacks_again (rooms p) m i (not-true (lacks (rooms p) m) (sym h.tells))))));
      granted = λ t. ap (λ (ns : List ℕ). surface_with q ns) (e.granted t) ∙ ap (λ (w : Surface). numbered_again w i) is;
    }

pub stops : (p q : Lists) (m : Surface) → Changed p q → lacks (rooms p) m ≡ true → Settles p q m false
stops p q m c h = record { changed = c; tells = sym (ap not h); granted = λ e. absurd (both_ways false refl e) }

-- ---- what a new number brings

-- a row that was to hold xs, by the bits ys of xs
pub by_bits : {X : Type 0} (bits : X → List ℕ) (r s : Row X) (xs : List X) (ys : List (List ℕ)) (b : Bool) → map bits xs ≡ ys → Becomes r s xs b
    → (over (room r) ys ≡ not b) × (b ≡ true → map bits (items s) ≡ ys)
by_bits bits r s xs ys b e h = (
  ap (λ (zs : List (List ℕ)). over (room r) zs) (sym e) ∙ (over_bits bits (room r) xs ∙ (sym (not-not (over (room r) xs)) ∙ sym (ap not h.tells))),
  λ t. ap (map bits) (h.granted t) ∙ e,
)

abbrev with_four : Lists → Row Point → Row Pair → Row Point → Row Point → Lists
with_four p a t n k =
    record {
      positions = a;
      vertex_color = k;
      texcoords = t;
      normals = n;
      indices = p.indices;
      face_arities = p.face_arities;
      vertex_color_indices = p.vertex_color_indices;
      texcoord_indices = p.texcoord_indices;
      normal_indices = p.normal_indices;
      remap = p.remap;
    }

changed_four : (p : Lists) (a : Row Point) (t : Row Pair) (n k : Row Point) → Kept p.positions a → Kept p.texcoords t → Kept p.normals n → Kept p.vertex_color k → Changed p (with_four p a t n k)
changed_four p a t n k ha ht hn hk =
    record {
      positions = ha;
      colours = hk;
      textures = ht;
      normals = hn;
      indices = kept_same p.indices;
      same = record { arities = refl; colour_indices = refl; texture_indices = refl; normal_indices = refl };
      remap = refl;
    }

lacks-textures : (rs : Rooms) (m : Surface) → over rs.textures m.textures ≡ true → lacks rs m ≡ true
lacks-textures rs m h = or_right (over rs.positions m.positions) _ (or_right (over rs.colours m.colours) _ (or_left (over rs.textures m.textures) _ h))

lacks-normals : (rs : Rooms) (m : Surface) → over rs.normals m.normals ≡ true → lacks rs m ≡ true
lacks-normals rs m h =
    or_right (over rs.positions m.positions) _ (or_right (over rs.colours m.colours) _ (or_right (over rs.textures m.textures) _ (or_left (over rs.normals m.normals) _ h)))

module _ (p : Lists) (v : Vertex) (a : Row Point) where
  positions_by : (b : Bool) → Becomes p.positions a (items p.positions ++ v.position ∷ []) b
      → (over (room p.positions) (widened (surface p) v).positions ≡ not b) × (b ≡ true → map point_bits (items a) ≡ (widened (surface p) v).positions)
  positions_by b h = by_bits point_bits p.positions a (items p.positions ++ v.position ∷ []) (widened (surface p) v).positions b (map_push point_bits (items p.positions) v.position) h

  pub stops_position : Becomes p.positions a (items p.positions ++ v.position ∷ []) false → Settles p (with_four p a p.texcoords p.normals p.vertex_color) (widened (surface p) v) false
  stops_position ha =
      stops p (with_four p a p.texcoords p.normals p.vertex_color) (widened (surface p) v)
      (changed_four p a p.texcoords p.normals p.vertex_color ha.kept (kept_same p.texcoords) (kept_same p.normals) (kept_same p.vertex_color))
      (or_left (over (room p.positions) (widened (surface p) v).positions) _ (positions_by false ha).0)

-- z and y are the fillers, and i is the new number
module _ (p : Lists) (v : Vertex) (a : Row Point) (ha : Becomes p.positions a (items p.positions ++ v.position ∷ []) true) (z : Pair) (i : ℕ) (ez : pair_bits z ≡ 0 ∷ 0 ∷ []) (ei : i ≡ p.positions.count) (t : Row Pair) where
  at_length : i ≡ length (surface p).positions
  at_length = ei ∙ sym (length_bits point_bits p.positions)

  textures_by : (b : Bool) → Becomes p.texcoords t (attached i z (items p.texcoords) v.texture) b
      → (over (room p.texcoords) (widened (surface p) v).textures ≡ not b) × (b ≡ true → map pair_bits (items t) ≡ (widened (surface p) v).textures)
  textures_by b h =
      by_bits pair_bits p.texcoords t (attached i z (items p.texcoords) v.texture) (widened (surface p) v).textures b
      (attached_bits pair_bits (items p.texcoords) v.texture z (0 ∷ 0 ∷ []) i (length (surface p).positions) ez at_length) h

  pub stops_texture : Becomes p.texcoords t (attached i z (items p.texcoords) v.texture) false → Settles p (with_four p a t p.normals p.vertex_color) (widened (surface p) v) false
  stops_texture ht =
      stops p (with_four p a t p.normals p.vertex_color) (widened (surface p) v)
      (changed_four p a t p.normals p.vertex_color ha.kept ht.kept (kept_same p.normals) (kept_same p.vertex_color))
      (lacks-textures (rooms p) (widened (surface p) v) (textures_by false ht).0)

  module _ (ht : Becomes p.texcoords t (attached i z (items p.texcoords) v.texture) true) (y : Point) (ey : point_bits y ≡ 0 ∷ 0 ∷ 0 ∷ []) (n : Row Point) where
    normals_by : (b : Bool) → Becomes p.normals n (attached i y (items p.normals) v.normal) b
        → (over (room p.normals) (widened (surface p) v).normals ≡ not b) × (b ≡ true → map point_bits (items n) ≡ (widened (surface p) v).normals)
    normals_by b h =
        by_bits point_bits p.normals n (attached i y (items p.normals) v.normal) (widened (surface p) v).normals b
        (attached_bits point_bits (items p.normals) v.normal y (0 ∷ 0 ∷ 0 ∷ []) i (length (surface p).positions) ey at_length) h

    pub stops_normal : Becomes p.normals n (attached i y (items p.normals) v.normal) false → Settles p (with_four p a t n p.vertex_color) (widened (surface p) v) false
    stops_normal hn =
        stops p (with_four p a t n p.vertex_color) (widened (surface p) v)
        (changed_four p a t n p.vertex_color ha.kept ht.kept hn.kept (kept_same p.vertex_color))
        (lacks-normals (rooms p) (widened (surface p) v) (normals_by false hn).0)

    pub widens : Becomes p.normals n (attached i y (items p.normals) v.normal) true → (k : Row Point) (b : Bool) → Becomes p.vertex_color k (followed (items p.vertex_color) v.colour) b
        → Settles p (with_four p a t n k) (widened (surface p) v) b
    widens hn k b hk =
        let pa = positions_by p v a true ha in
        let pt = textures_by true ht in
        let pn = normals_by true hn in
        let pk = by_bits point_bits p.vertex_color k (followed (items p.vertex_color) v.colour) (widened (surface p) v).colours b (map-followed point_bits (items p.vertex_color) v.colour) hk in
        let rest = or_from _ _ pt.0 (or_from _ _ pn.0 (or_from _ _ (row_fits p.indices) (or_from _ _ (row_fits p.face_arities) (or_from _ _ (row_fits p.texcoord_indices) (row_fits p.normal_indices))))) in
        record {
          changed = changed_four p a t n k ha.kept ht.kept hn.kept hk.kept;
          tells = sym (ap not (second _ _ _ pa.0 rest ∙ pk.0) ∙ not-not b);
          granted = λ e. let ea = pa.1 refl in let et = pt.1 refl in let en = pn.1 refl in let ek = pk.1 e in cc;
        }
