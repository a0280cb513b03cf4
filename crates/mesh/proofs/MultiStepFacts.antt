-- What the stages of one corner rest on, and how they make up its checks.
use Rattle.std.proofs.Common.{◌≡◌, ℕ, ◌<◌, Bool, true, false, cond, not, ◌||◌, leb, List, [], ◌∷◌, ◌++◌, map, length, Some, None, Option, sym, refl, ap, ◌∙◌, subst, ⊎_elim, arith}
use Rattle.std.proofs.lemmas.List.{map_push}
use Rattle.std.proofs.lemmas.Bool.{cases_Bool, cases_lt, lt-ltb, le-leb, or_from, or_left, or_right, or_cases, cond-true, cond-false, or_parts, le-ltb, not-true, not-false, not_from_true, both_ways}
use Rattle.elements.specs.declared.corner.VertexIndices.{VertexIndices}
use Rattle.elements.specs.declared.error.LoadError.{LoadError}
use Rattle.elements.specs.declared.error.LoadError.TheVariants.{TableFull, MeshFull}
use Rattle.elements.specs.declared.row.Row.{Row}
use Rattle.elements.specs.declared.point.Point.{Point}
use Rattle.elements.specs.declared.point.Pair.{Pair}
use Rattle.elements.specs.Bits.{point_bits, pair_bits}
use Rattle.elements.specs.Checks.{first}
use Rattle.elements.specs.First.{distinct, numbers, entered}
use Rattle.elements.specs.declared.attributes.Attributes.{Attributes}
use Rattle.elements.specs.Contents.{Sources, sources}
use Rattle.elements.specs.Rows.{items, room}
use Rattle.elements.proofs.RowFacts.{length-items}
use Rattle.mesh.specs.declared.lists.Lists.{Lists}
use Rattle.mesh.specs.Lists.{surface, rooms}
use Rattle.elements.proofs.FirstFacts.{distinct_more}
use Rattle.tables.specs.declared.key.Reference.{Reference}
use Rattle.tables.specs.declared.table.CornerTable.{Ghosts}
use Rattle.tables.specs.Tables.{Fit, Placed as Taken, Refused}
use Rattle.mesh.specs.declared.multi.Corner.{Corner}
use Rattle.mesh.specs.declared.stream.Named.{Named}
use Rattle.mesh.specs.Surface.{Surface, Rooms, Capacities, over, lacks}
use Rattle.mesh.specs.Numbering.{Keys, carried, some, element, v_of, one, coloured, position_refs, texture_refs, normal_refs, ref_keys, picked, ref_numbers, multi, multi_keys, crowded, with_arities}
use Rattle.mesh.specs.Rules.{multi_checks}
use Rattle.mesh.specs.MultiSteps.{reference_checks, looking_checks, Coloured, Looks, Brings, Numbers, FullTable, Ready, keys_of, keys_in, Tinted, Tints, Drew}
use Rattle.mesh.specs.Single.{Becomes, placed, bits_of}
use Rattle.mesh.specs.Streams.{meant, ByReference, ByNumber, Names, Entered, Written, Writes, Enters, Takes}
use Rattle.mesh.specs.declared.stream.Named.TheVariants.{Element}
use Rattle.mesh.proofs.SingleSourceFacts.{some-none, length_bits, first_before, first_after, lost-outside, uncoloured-lost, reads, colour_asked}
use Rattle.mesh.proofs.SingleListFacts.{not-not}
use Rattle.mesh.proofs.MultiFacts.{carried-more, all-keys, element-entered, none-entered, placed_by}

-- the colour beside a position, by its bits
coloured_by : (xs : List (List ℕ)) (v : ℕ) (o : Option Point) → bits_of point_bits o ≡ cond (some xs) (Some (element xs v)) None → Coloured xs v o
coloured_by xs v None h = ⊎_elim (λ t. absurd (some-none (element xs v) (sym (h ∙ cond-true (some xs) (Some (element xs v)) None t)))) (λ f. f) (cases_Bool (some xs))
coloured_by xs v (Some p) h = ⊎_elim
    (λ t. let e = h ∙ cond-true (some xs) (Some (element xs v)) None t in (t, cc))
    (λ f. absurd (some-none (point_bits p) (h ∙ cond-false (some xs) (Some (element xs v)) None f)))
    (cases_Bool (some xs))

-- ---- what a corner names

module _ (a : Attributes) (c : VertexIndices) where
  pub looking_is : first (looking_checks a c) ≡ first (reference_checks (sources a) c)
  looking_is =
      let n = length_bits point_bits a.positions in
      let t = lost-outside pair_bits a.textures c.vt in
      let m = lost-outside point_bits a.normals c.vn in
      ⊎_elim
      (λ l. let k = uncoloured-lost a c l in simp (n, t, m, k) refl)
      (λ l. cond-true (leb a.positions.count c.v) _ _ (le-leb a.positions.count c.v l) ∙ sym (cond-true (leb (length (sources a).positions) c.v) _ _ (le-leb (length (sources a).positions) c.v (omega arith))))
      (cases_lt c.v a.positions.count)

  module _ (l : Lists) (k : Corner Reference) (h : Looks a c l k) where
    pub looks_brings : (ns : List ℕ) (cs : List VertexIndices) → surface l ≡ with_arities ns (multi (sources a) cs) → Brings (sources a) cs c ByReference k
    looks_brings ns cs is =
        record {
          inside = let e = length_bits point_bits a.positions in let i = h.point.0 in omega arith;
          position = h.position;
          point = reads point_bits a.positions c.v k.point h.point;
          colour = coloured_by (sources a).colours c.v k.colour (colour_asked a c k.colour h.point.0 h.colour.0 h.colour.1);
          texture = h.texture.1 pair_bits (texture_refs cs) (ap (λ (m : Surface). m.texture_indices) is);
          normal = h.normal.1 point_bits (normal_refs cs) (ap (λ (m : Surface). m.normal_indices) is);
        }

-- ---- the colour of a new position

pub tinted : (r r' : Row Point) (n : ℕ) (x : Point) (t : Bool) → Becomes r r' (placed (items r) n x) t → Tints r n (Some x) r' t
tinted r r' n x t p xs ks k is h at =
    let all = λ (ys : List (List ℕ)). cond-true (some xs) (map (λ y. element xs (v_of y)) ys) [] h.0 in
    let by = placed_by point_bits r r' x t ks k (λ y. element xs (v_of y)) (is ∙ all ks) h.1 n at p in
    record {
      tells = sym (ap not (ap (over (room r)) (all (entered ks k)) ∙ by.0) ∙ not-not t);
      colours = λ w. by.1 w ∙ sym (all (entered ks k));
    }

-- ---- one corner more

module _ (s : Sources) (cs : List VertexIndices) (c : VertexIndices) where
  pub position-more : position_refs (cs ++ c ∷ []) ≡ position_refs cs ++ c.v ∷ []
  position-more = map_push (λ k. k.v) cs c

  pub texture-more : texture_refs (cs ++ c ∷ []) ≡ texture_refs cs ++ meant (texture_refs cs) c.vt ∷ []
  texture-more = ap (carried 0) (map_push (λ k. k.vt) cs c) ∙ carried-more 0 (map (λ k. k.vt) cs) c.vt

  pub normal-more : normal_refs (cs ++ c ∷ []) ≡ normal_refs cs ++ meant (normal_refs cs) c.vn ∷ []
  normal-more = ap (carried 0) (map_push (λ k. k.vn) cs c) ∙ carried-more 0 (map (λ k. k.vn) cs) c.vn

  texture-keys-more : ref_keys s.textures (texture_refs (cs ++ c ∷ [])) ≡ ref_keys s.textures (texture_refs cs ++ meant (texture_refs cs) c.vt ∷ [])
  texture-keys-more = ap (ref_keys s.textures) texture-more

  normal-keys-more : ref_keys s.normals (normal_refs (cs ++ c ∷ [])) ≡ ref_keys s.normals (normal_refs cs ++ meant (normal_refs cs) c.vn ∷ [])
  normal-keys-more = ap (ref_keys s.normals) normal-more

  module _ (inside : c.v < length s.positions) where
    some-positions : some s.positions ≡ true
    some-positions = lt-ltb 0 (length s.positions) (omega arith)

    position-keys : distinct (map one (position_refs cs)) ≡ ref_keys s.positions (position_refs cs)
    position-keys = sym (all-keys s.positions (position_refs cs) 0 some-positions)

    position-keys-more : distinct (map one (position_refs (cs ++ c ∷ []))) ≡ ref_keys s.positions (position_refs cs ++ c.v ∷ [])
    position-keys-more = ap (λ rs. distinct (map one rs)) position-more ∙ sym (all-keys s.positions (position_refs cs ++ c.v ∷ []) 0 some-positions)

  -- ---- entering it

  module _ (k : Corner Reference) (b : Brings s cs c ByReference k) (n : Capacities) (cap : ℕ) (is : n.positions ≡ cap) (ks ks' : List (List ℕ)) (all : ks ≡ distinct (map one (position_refs cs))) where
    names-position : Names point_bits s.positions (position_refs cs) c.v ByReference (Element k.position k.point)
    names-position = (some-positions b.inside, b.position, b.point)

    pub position-full : Refused cap (one k.position.at) ks ks' → crowded n (multi_keys s (cs ++ c ∷ [])) ≡ true
    position-full h =
        or_left _ _ (ap (λ a. over a (distinct (map one (position_refs (cs ++ c ∷ []))))) is
        ∙ (ap (over cap) (position-keys-more b.inside)
        ∙ none-entered point_bits s.positions (position_refs cs) c.v cap ks (all ∙ position-keys b.inside) k.position k.point ks' names-position h))

    module _ (i : ℕ) (fit : Fit cap ks') (took : Taken cap (one k.position.at) ks ks' i) where
      position_taken : Entered point_bits s.positions (position_refs cs) c.v cap ks' (Some (Element i k.point))
      position_taken = element-entered point_bits s.positions (position_refs cs) c.v cap ks (all ∙ position-keys b.inside) k.position k.point ks' names-position i fit took

      pub position-room : over n.positions (distinct (map one (position_refs (cs ++ c ∷ [])))) ≡ false
      position-room = ap (λ a. over a (distinct (map one (position_refs (cs ++ c ∷ []))))) is ∙ (ap (over cap) (position-keys-more b.inside) ∙ position_taken.0)

      pub position-entered : ks' ≡ distinct (map one (position_refs (cs ++ c ∷ [])))
      position-entered = position_taken.1 ∙ sym (position-keys-more b.inside)

      pub position-number : ByNumber (position_refs cs) c.v i
      position-number = position_taken.2.1

  pub texture-full : (n : Capacities) (cap : ℕ) → n.textures ≡ cap → over cap (ref_keys s.textures (texture_refs cs ++ meant (texture_refs cs) c.vt ∷ [])) ≡ true → crowded n (multi_keys s (cs ++ c ∷ [])) ≡ true
  texture-full n cap is h = or_right _ _ (or_left _ _ (ap (λ a. over a (ref_keys s.textures (texture_refs (cs ++ c ∷ [])))) is ∙ (ap (over cap) texture-keys-more ∙ h)))

  pub normal-full : (n : Capacities) (cap : ℕ) → n.normals ≡ cap → over cap (ref_keys s.normals (normal_refs cs ++ meant (normal_refs cs) c.vn ∷ [])) ≡ true → crowded n (multi_keys s (cs ++ c ∷ [])) ≡ true
  normal-full n cap is h = or_right (over n.positions (multi_keys s (cs ++ c ∷ [])).positions) _ (or_right (over n.textures (multi_keys s (cs ++ c ∷ [])).textures) _ (ap (λ a. over a (ref_keys s.normals (normal_refs (cs ++ c ∷ [])))) is ∙ (ap (over cap) normal-keys-more ∙ h)))

  pub uncrowded : (n : Capacities) (t o : ℕ) → n.textures ≡ t → n.normals ≡ o
      → over n.positions (distinct (map one (position_refs (cs ++ c ∷ [])))) ≡ false
      → over t (ref_keys s.textures (texture_refs cs ++ meant (texture_refs cs) c.vt ∷ [])) ≡ false
      → over o (ref_keys s.normals (normal_refs cs ++ meant (normal_refs cs) c.vn ∷ [])) ≡ false
      → crowded n (multi_keys s (cs ++ c ∷ [])) ≡ false
  uncrowded n t o it io p q r =
      or_from _ _ p (or_from _ _
      (ap (λ a. over a (ref_keys s.textures (texture_refs (cs ++ c ∷ [])))) it ∙ (ap (over t) texture-keys-more ∙ q))
      (ap (λ a. over a (ref_keys s.normals (normal_refs (cs ++ c ∷ [])))) io ∙ (ap (over o) normal-keys-more ∙ r)))

  pub all-entered : (ks kp kt kn : List (List ℕ)) → ks ≡ [] → kp ≡ distinct (map one (position_refs (cs ++ c ∷ [])))
      → kt ≡ ref_keys s.textures (texture_refs cs ++ meant (texture_refs cs) c.vt ∷ [])
      → kn ≡ ref_keys s.normals (normal_refs cs ++ meant (normal_refs cs) c.vn ∷ [])
      → keys_of ks kp kt kn ≡ multi_keys s (cs ++ c ∷ [])
  all-entered ks kp kt kn a p q r = let q' = q ∙ sym texture-keys-more in let r' = r ∙ sym normal-keys-more in simp (a, p, q', r')

-- what the three tables answered, for a corner that was looked up
module _ (s : Sources) (cs : List VertexIndices) (c : VertexIndices) (k : Corner Reference) (b : Brings s cs c ByReference k)
    {X Y Z : Type 0} (P : Ghosts X Reference) (T : Ghosts Y Reference) (N : Ghosts Z Reference) (p p' : X) (t t' : Y) (o o' : Z)
    (n : Capacities) (ready : Ready P T N n p t o) (ks : List (List ℕ)) (is : keys_in P T N ks p t o ≡ multi_keys s cs) where
  positions_were : P.keys p ≡ distinct (map one (position_refs cs))
  positions_were = ap (λ (m : Keys). m.positions) is

  took_texture : (r : Option (Named ℕ Pair)) → Takes T t t' k.texture r → Entered pair_bits s.textures (texture_refs cs) (meant (texture_refs cs) c.vt) (T.capacity t) (T.keys t') r
  took_texture r h = h ready.sound.1 ready.within.0 pair_bits s.textures (texture_refs cs) (meant (texture_refs cs) c.vt) (ap (λ (m : Keys). m.textures) is) b.texture

  took_normal : (r : Option (Named ℕ Point)) → Takes N o o' k.normal r → Entered point_bits s.normals (normal_refs cs) (meant (normal_refs cs) c.vn) (N.capacity o) (N.keys o') r
  took_normal r h = h ready.sound.2 ready.within.1 point_bits s.normals (normal_refs cs) (meant (normal_refs cs) c.vn) (ap (λ (m : Keys). m.normals) is) b.normal

  pub full-crowded : (e : LoadError) → FullTable (Enters P p p' (one k.position.at)) (Takes T t t' k.texture) (Takes N o o' k.normal) e → crowded n (multi_keys s (cs ++ c ∷ [])) ≡ true
  full-crowded e h = ⊎_elim
      (λ x. position-full s cs c k b n (P.capacity p) ready.capacities.0 (P.keys p) (P.keys p') positions_were (x ready.sound.0).1)
      (⊎_elim
      (λ x. texture-full s cs c n (T.capacity t) ready.capacities.1 (took_texture None x))
      (λ x. normal-full s cs c n (N.capacity o) ready.capacities.2 (took_normal None x)))
      h.1

  module _ (j : Corner ℕ) (h : Numbers (Enters P p p' (one k.position.at)) (Takes T t t' k.texture) (Takes N o o' k.normal) k j) (same : P.capacity p' ≡ P.capacity p) where
    fit : Fit (P.capacity p) (P.keys p')
    fit = subst (λ a. Fit a (P.keys p')) same (h.position ready.sound.0).0

    pub numbers_uncrowded : crowded n (multi_keys s (cs ++ c ∷ [])) ≡ false
    numbers_uncrowded =
        uncrowded s cs c n (T.capacity t) (N.capacity o) ready.capacities.1 ready.capacities.2
        (position-room s cs c k b n (P.capacity p) ready.capacities.0 (P.keys p) (P.keys p') positions_were j.position fit (h.position ready.sound.0).1)
        (took_texture (Some j.texture) h.texture).0 (took_normal (Some j.normal) h.normal).0

    pub numbers-keys : keys_in P T N ks p' t' o' ≡ multi_keys s (cs ++ c ∷ [])
    numbers-keys =
        all-entered s cs c ks (P.keys p') (T.keys t') (N.keys o') (ap (λ (m : Keys). m.corners) is)
        (position-entered s cs c k b n (P.capacity p) ready.capacities.0 (P.keys p) (P.keys p') positions_were j.position fit (h.position ready.sound.0).1)
        (took_texture (Some j.texture) h.texture).1 (took_normal (Some j.normal) h.normal).1

    pub numbers_brings : Brings s cs c ByNumber j
    numbers_brings =
        record {
          inside = b.inside;
          position = position-number s cs c k b n (P.capacity p) ready.capacities.0 (P.keys p) (P.keys p') positions_were j.position fit (h.position ready.sound.0).1;
          point = ap point_bits h.point ∙ b.point;
          colour = subst (Coloured s.colours c.v) (sym h.colour) b.colour;
          texture = (took_texture (Some j.texture) h.texture).2;
          normal = (took_normal (Some j.normal) h.normal).2;
        }

-- ---- writing it

same-surface : {a a' b b' c c' d d' : List (List ℕ)} {e e' f f' g g' h h' i i' : List ℕ}
    → a ≡ a' → b ≡ b' → c ≡ c' → d ≡ d' → e ≡ e' → f ≡ f' → g ≡ g' → h ≡ h' → i ≡ i'
    → ◌≡◌ {A = Surface} (record { positions = a; colours = b; textures = c; normals = d; indices = e; arities = f; colour_indices = g; texture_indices = h; normal_indices = i })
    (record { positions = a'; colours = b'; textures = c'; normals = d'; indices = e'; arities = f'; colour_indices = g'; texture_indices = h'; normal_indices = i' })
same-surface p q r s t u v w x = simp (p, q, r, s, t, u, v, w, x)

-- some list of a mesh lacks a cell, from the lists that were written together
any-first : (p c t n i a ti ni : Bool) → (p || i) ≡ true → (p || (c || (t || (n || (i || (a || (ti || ni))))))) ≡ true
any-first p c t n i a ti ni h = ⊎_elim
    (λ e. or_left p _ e)
    (λ e. or_right p _ (or_right c _ (or_right t _ (or_right n _ (or_left i _ e)))))
    (or_cases p i h)

any_third : (p c t n i a ti ni : Bool) → (t || ti) ≡ true → (p || (c || (t || (n || (i || (a || (ti || ni))))))) ≡ true
any_third p c t n i a ti ni h = ⊎_elim
    (λ e. or_right p _ (or_right c _ (or_left t _ e)))
    (λ e. or_right p _ (or_right c _ (or_right t _ (or_right n _ (or_right i _ (or_right a _ (or_left ti _ e)))))))
    (or_cases t ti h)

all_but_last : (p c t n i a ti ni : Bool) → (p || i) ≡ false → c ≡ false → (t || ti) ≡ false → a ≡ false → (p || (c || (t || (n || (i || (a || (ti || ni))))))) ≡ (n || ni)
all_but_last p c t n i a ti ni pi c' tti a' =
    let x = or_parts p i pi in
    let y = or_parts t ti tti in
    let p' = x.0 in let i' = x.1 in let t' = y.0 in let ti' = y.1 in
    simp (p', i', c', t', ti', a')

module _ (l : Lists) (pos : Row Point) (ind : Row ℕ) (col : Row Point) (tex : Row Pair) (ti : Row ℕ) (nor : Row Point) (ni : Row ℕ) where
  -- the lists with other rows in place of those that a corner is written to
  abbrev pub after : Lists
  after =
      record {
        positions = pos;
        vertex_color = col;
        texcoords = tex;
        normals = nor;
        indices = ind;
        face_arities = l.face_arities;
        vertex_color_indices = l.vertex_color_indices;
        texcoord_indices = ti;
        normal_indices = ni;
        remap = l.remap;
      }

module _ (s : Sources) (cs : List VertexIndices) (c : VertexIndices) (ns : List ℕ) (l : Lists) (k : Corner ℕ)
    (is : surface l ≡ with_arities ns (multi s cs)) (b : Brings s cs c ByNumber k) where
  abbrev larger : Surface
  larger = with_arities ns (multi s (cs ++ c ∷ []))

  abbrev trefs : List ℕ
  trefs = texture_refs cs

  abbrev nrefs : List ℕ
  nrefs = normal_refs cs

  positions_are : picked s.positions (position_refs cs ++ c.v ∷ []) ≡ larger.positions
  positions_are = ap (map (λ y. element s.positions (v_of y))) (sym (position-keys-more s cs c b.inside))

  indices_are : ref_numbers s.positions (position_refs cs ++ c.v ∷ []) ≡ larger.indices
  indices_are =
      cond-true (some s.positions) (numbers (map one (position_refs cs ++ c.v ∷ []))) [] (some-positions s cs c b.inside)
      ∙ ap (λ rs. numbers (map one rs)) (sym (position-more s cs c))

  colours_are : coloured s.colours (entered (distinct (map one (position_refs cs))) (one c.v)) ≡ larger.colours
  colours_are =
      ap (coloured s.colours) (sym (distinct_more (map one (position_refs cs)) (one c.v))
      ∙ (ap distinct (sym (map_push one (position_refs cs) c.v)) ∙ ap (λ rs. distinct (map one rs)) (sym (position-more s cs c))))

  abbrev lacking : Bool
  lacking = lacks (rooms l) larger

  stopped : (m : Surface) → lacking ≡ true → Drew s cs c ns (rooms l) m false
  stopped m h = record { tells = sym (not_from_true _ h); surface = λ e. absurd (both_ways false refl e) }

  module _ (pos : Row Point) (ind : Row ℕ) (t : Bool) (w : Writes l.positions l.indices (Element k.position k.point) pos ind t) where
    positions_written : Written point_bits s.positions (position_refs cs) c.v (room l.positions) (room l.indices) (map point_bits (items pos)) (items ind) t
    positions_written =
        w point_bits s.positions (position_refs cs) c.v
        (ap (λ (m : Surface). m.positions) is ∙ ap (map (λ y. element s.positions (v_of y))) (position-keys s cs c b.inside))
        (ap (λ (m : Surface). m.indices) is ∙ sym (cond-true (some s.positions) (numbers (map one (position_refs cs))) [] (some-positions s cs c b.inside)))
        (some-positions s cs c b.inside, b.position, b.point)

    position-tells : t ≡ not (over (room l.positions) larger.positions || over (room l.indices) larger.indices)
    position-tells = positions_written.tells ∙ (ap (λ ys. not (over (room l.positions) ys || over (room l.indices) (ref_numbers s.positions (position_refs cs ++ c.v ∷ [])))) positions_are
        ∙ ap (λ ys. not (over (room l.positions) larger.positions || over (room l.indices) ys)) indices_are)

  pub stops-position : (pos : Row Point) (ind : Row ℕ) (m : Surface) → Writes l.positions l.indices (Element k.position k.point) pos ind false → Drew s cs c ns (rooms l) m false
  stops-position pos ind m w =
      stopped m (any-first (over (room l.positions) larger.positions) (over (room l.vertex_color) larger.colours) (over (room l.texcoords) larger.textures) (over (room l.normals) larger.normals)
      (over (room l.indices) larger.indices) (over (room l.face_arities) ns) (over (room l.texcoord_indices) larger.texture_indices) (over (room l.normal_indices) larger.normal_indices)
      (not-false _ (sym (position-tells pos ind false w))))

  module _ (col : Row Point) (t : Bool) (w : Tints l.vertex_color k.position k.colour col t) where
    colours_tinted : Tinted s.colours (entered (distinct (map one (position_refs cs))) (one c.v)) (room l.vertex_color) (map point_bits (items col)) t
    colours_tinted = w s.colours (distinct (map one (position_refs cs))) (one c.v) (ap (λ (m : Surface). m.colours) is) b.colour b.position

    colour-tells : t ≡ not (over (room l.vertex_color) larger.colours)
    colour-tells = colours_tinted.tells ∙ ap (λ ys. not (over (room l.vertex_color) ys)) colours_are

  pub stops-colour : (col : Row Point) (m : Surface) → Tints l.vertex_color k.position k.colour col false → Drew s cs c ns (rooms l) m false
  stops-colour col m w = stopped m (or_right (over (room l.positions) larger.positions) _ (or_left _ _ (not-false _ (sym (colour-tells col false w)))))

  module _ (tex : Row Pair) (ti : Row ℕ) (t : Bool) (w : Writes l.texcoords l.texcoord_indices k.texture tex ti t) where
    textures_written : Written pair_bits s.textures trefs (meant trefs c.vt) (room l.texcoords) (room l.texcoord_indices) (map pair_bits (items tex)) (items ti) t
    textures_written = w pair_bits s.textures trefs (meant trefs c.vt) (ap (λ (m : Surface). m.textures) is) (ap (λ (m : Surface). m.texture_indices) is) b.texture

    texture-tells : t ≡ not (over (room l.texcoords) larger.textures || over (room l.texcoord_indices) larger.texture_indices)
    texture-tells = textures_written.tells ∙ ap (λ rs. not (over (room l.texcoords) (picked s.textures rs) || over (room l.texcoord_indices) (ref_numbers s.textures rs))) (sym (texture-more s cs c))

  pub stops-texture : (tex : Row Pair) (ti : Row ℕ) (m : Surface) → Writes l.texcoords l.texcoord_indices k.texture tex ti false → Drew s cs c ns (rooms l) m false
  stops-texture tex ti m w =
      stopped m (any_third (over (room l.positions) larger.positions) (over (room l.vertex_color) larger.colours) (over (room l.texcoords) larger.textures) (over (room l.normals) larger.normals)
      (over (room l.indices) larger.indices) (over (room l.face_arities) ns) (over (room l.texcoord_indices) larger.texture_indices) (over (room l.normal_indices) larger.normal_indices)
      (not-false _ (sym (texture-tells tex ti false w))))

  arities_fit : over (room l.face_arities) ns ≡ false
  arities_fit =
      let e = sym (ap (λ (m : Surface). length m.arities) is) ∙ length-items l.face_arities in
      let h = l.face_arities.fits in
      le-ltb (room l.face_arities) (length ns) (omega arith)

  pub drew : (pos : Row Point) (ind : Row ℕ) (col : Row Point) (tex : Row Pair) (ti : Row ℕ) (nor : Row Point) (ni : Row ℕ) (t : Bool)
      → Writes l.positions l.indices (Element k.position k.point) pos ind true → Tints l.vertex_color k.position k.colour col true
      → Writes l.texcoords l.texcoord_indices k.texture tex ti true → Writes l.normals l.normal_indices k.normal nor ni t
      → Drew s cs c ns (rooms l) (surface (after l pos ind col tex ti nor ni)) t
  drew pos ind col tex ti nor ni t w₁ w₂ w₃ w₄ =
      let p = positions_written pos ind true w₁ in
      let q = colours_tinted col true w₂ in
      let r = textures_written tex ti true w₃ in
      let o = w₄ point_bits s.normals nrefs (meant nrefs c.vn) (ap (λ (m : Surface). m.normals) is) (ap (λ (m : Surface). m.normal_indices) is) b.normal in
      let normal-tells : t ≡ not (over (room l.normals) larger.normals || over (room l.normal_indices) larger.normal_indices) =
      o.tells ∙ ap (λ rs. not (over (room l.normals) (picked s.normals rs) || over (room l.normal_indices) (ref_numbers s.normals rs))) (sym (normal-more s cs c)) in
      let short = all_but_last (over (room l.positions) larger.positions) (over (room l.vertex_color) larger.colours) (over (room l.texcoords) larger.textures) (over (room l.normals) larger.normals)
      (over (room l.indices) larger.indices) (over (room l.face_arities) ns) (over (room l.texcoord_indices) larger.texture_indices) (over (room l.normal_indices) larger.normal_indices)
      (not-true _ (sym (position-tells pos ind true w₁))) (not-true _ (sym (colour-tells col true w₂))) (not-true _ (sym (texture-tells tex ti true w₃))) arities_fit in
      record {
        tells = normal-tells ∙ ap not (sym short);
        surface = λ e. same-surface
            (p.elements refl ∙ positions_are) (q.colours refl ∙ colours_are)
            (r.elements refl ∙ ap (picked s.textures) (sym (texture-more s cs c))) (o.elements e ∙ ap (picked s.normals) (sym (normal-more s cs c)))
            (p.numbers refl ∙ indices_are) (ap (λ (m : Surface). m.arities) is) (ap (λ (m : Surface). m.colour_indices) is)
            (r.numbers refl ∙ ap (ref_numbers s.textures) (sym (texture-more s cs c))) (o.numbers e ∙ ap (ref_numbers s.normals) (sym (normal-more s cs c)));
      }

-- ---- the checks of a corner

module _ (s : Sources) (rs : Rooms) (n : Capacities) (ns : List ℕ) (cs : List VertexIndices) (c : VertexIndices) where
  abbrev full-checks : List (Bool × LoadError)
  full-checks = (crowded n (multi_keys s (cs ++ c ∷ [])), TableFull) ∷ (lacks rs (with_arities ns (multi s (cs ++ c ∷ []))), MeshFull) ∷ []

  pub refused-reference : (e : LoadError) → first (reference_checks s c) ≡ Some e → first (multi_checks s rs n ns cs c) ≡ Some e
  refused-reference e h = first_before (reference_checks s c) full-checks e h

  module _ (h : first (reference_checks s c) ≡ None) where
    pub refused_table : crowded n (multi_keys s (cs ++ c ∷ [])) ≡ true → first (multi_checks s rs n ns cs c) ≡ Some TableFull
    refused_table t = first_after (reference_checks s c) full-checks h ∙ cond-true (crowded n (multi_keys s (cs ++ c ∷ []))) _ _ t

    module _ (f : crowded n (multi_keys s (cs ++ c ∷ [])) ≡ false) where
      pub refused_list : lacks rs (with_arities ns (multi s (cs ++ c ∷ []))) ≡ true → first (multi_checks s rs n ns cs c) ≡ Some MeshFull
      refused_list t =
          first_after (reference_checks s c) full-checks h
          ∙ (cond-false (crowded n (multi_keys s (cs ++ c ∷ []))) _ _ f ∙ cond-true (lacks rs (with_arities ns (multi s (cs ++ c ∷ [])))) _ _ t)

      pub refused-not : lacks rs (with_arities ns (multi s (cs ++ c ∷ []))) ≡ false → first (multi_checks s rs n ns cs c) ≡ None
      refused-not t =
          first_after (reference_checks s c) full-checks h
          ∙ (cond-false (crowded n (multi_keys s (cs ++ c ∷ []))) _ _ f ∙ cond-false (lacks rs (with_arities ns (multi s (cs ++ c ∷ [])))) _ _ t)
