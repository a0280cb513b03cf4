-- The promises of the three kinds of mesh: single-index, multi-index and merged.
use Rattle.std.proofs.Common.{◌≡◌, ℕ, zero, suc, ◌<◌, Bool, true, false, cond, eqb, List, [], ◌∷◌, map, length, get_or, sym, refl, ap, ◌∙◌, subst, arith}
use Rattle.std.proofs.lemmas.Bool.{both_ways, lt-ltb, cond-true, cond-false}
use Rattle.std.proofs.lemmas.List.{length-map, get_or-map}
use Rattle.elements.specs.declared.corner.VertexIndices.{VertexIndices}
use Rattle.elements.specs.declared.options.LoadOptions.{LoadOptions}
use Rattle.elements.specs.Contents.{Sources}
use Rattle.elements.specs.Corners.{missing, refs}
use Rattle.elements.specs.First.{has, distinct, place, numbers, PlaceOf}
use Rattle.elements.proofs.FirstFacts.{has-at, place_of, has-distinct, length-numbers, numbers_apart, numbers_shared, fewest}
use Rattle.mesh.specs.Surface.{Surface}
use Rattle.mesh.specs.Numbering.{some, names, element, v_of, vt_of, vn_of, corner_keys, coloured, single, one, position_refs, carried, picked, ref_numbers, multi, with_arities}
use Rattle.mesh.specs.Merging.{renumbered, merged}
use Rattle.mesh.specs.Promises.{refs_at, meant, Reads, Shares, Fewest, Used, MeshPromise, colourless}
use Rattle.mesh.proofs.PromiseFacts.{Granted}
use Rattle.mesh.proofs.PromiseReads.{Leads, reads-from, ref_at, named_some, named-there, length-carried, carried-at, numbers_lead, numbers-used, fillers_lead, picked_lead, merged_lead, merged-apart, merged_together, merged-used}

-- ---- sharing by keys

keys_shared : (ms : List (List ℕ)) → Shares ms (numbers ms)
keys_shared ms i j hi hj = (numbers_apart ms i j hi hj, numbers_shared ms i j hi hj)

-- an element for each key
elements-used : (f : List ℕ → List ℕ) (ms : List (List ℕ)) → Used (length (map f (distinct ms))) (numbers ms)
elements-used f ms = let U : ℕ → Type 0 = λ n. Used n (numbers ms) in subst U (sym (length-map (distinct ms) f)) (numbers-used ms)

coloured_lead : (xs : List (List ℕ)) (ms : List (List ℕ)) (i : ℕ) → i < length ms → some xs ≡ true → Leads (coloured xs (distinct ms)) (numbers ms) i (element xs (v_of (get_or ms i [])))
coloured_lead xs ms i l t =
    let f : List ℕ → List ℕ = λ k. element xs (v_of k) in
    let L : List (List ℕ) → Type 0 = λ ys. Leads ys (numbers ms) i (f (get_or ms i [])) in
    subst L (sym (cond-true (some xs) (map f (distinct ms)) [] t)) (numbers_lead f ms i l)

-- ---- what each corner means

module _ (s : Sources) where
  meant-at : (cs : List VertexIndices) (i : ℕ) → i < length cs → get_or (meant s cs) i [] ≡ element s.positions (v_of (refs_at cs i))
  meant-at [] i l = absurd (omega arith)
  meant-at (c ∷ cs) zero l = refl
  meant-at (c ∷ cs) (suc i) l = meant-at cs i (omega arith)

  meant-keys : (cs : List VertexIndices) → map (λ k. element s.positions (v_of k)) (map one (position_refs cs)) ≡ meant s cs
  meant-keys [] = refl
  meant-keys (c ∷ cs) = ap (λ xs. element s.positions c.v ∷ xs) (meant-keys cs)

-- an element of some of the keys is an element of all of them
has-map-distinct : (f : List ℕ → List ℕ) (ks : List (List ℕ)) (x : List ℕ) → has (map f (distinct ks)) x ≡ true → has (map f ks) x ≡ true
has-map-distinct f ks x h =
    let p = place_of (map f (distinct ks)) x h in
    let j = place (map f (distinct ks)) x in
    let lj : j < length (distinct ks) = omega (arith, p.0, length-map (distinct ks) f) in
    let k = get_or (distinct ks) j [] in
    let q = place_of ks k (has-distinct ks k (has-at (distinct ks) k j (lj, refl))) in
    let li : place ks k < length (map f ks) = omega (arith, q.0, length-map ks f) in
    has-at (map f ks) x (place ks k) (li, get_or-map f ks (place ks k) [] [] q.0 ∙ ap f q.1 ∙ sym (get_or-map f (distinct ks) j [] [] lj) ∙ p.1)

-- ---- what each number of a mesh leads to, before merging

module _ (s : Sources) (cs : List VertexIndices) (i : ℕ) (l : i < length cs) where
  among_corners : i < length (corner_keys cs)
  among_corners = omega (arith, length-map cs refs)

  single-positions : Leads (single s cs).positions (single s cs).indices i (element s.positions (v_of (refs_at cs i)))
  single-positions = numbers_lead (λ k. element s.positions (v_of k)) (corner_keys cs) i among_corners

  single-colours : some s.colours ≡ true → Leads (single s cs).colours (single s cs).indices i (element s.colours (v_of (refs_at cs i)))
  single-colours t = coloured_lead s.colours (corner_keys cs) i among_corners t

  among_positions : i < length (map one (position_refs cs))
  among_positions = omega (arith, length-map (position_refs cs) one, length-map cs (λ c. c.v))

  -- a corner's key is its reference
  position_key : get_or (map one (position_refs cs)) i [] ≡ one (v_of (refs_at cs i))
  position_key =
      let below : i < length (position_refs cs) = omega (arith, length-map cs (λ c. c.v)) in
      get_or-map one (position_refs cs) i 0 [] below ∙ ap one (ref_at v_of cs i l)

  multi-positions : Leads (multi s cs).positions (multi s cs).indices i (element s.positions (v_of (refs_at cs i)))
  multi-positions =
      let f : List ℕ → List ℕ = λ k. element s.positions (v_of k) in
      let L : List ℕ → Type 0 = λ k. Leads (multi s cs).positions (multi s cs).indices i (f k) in
      subst L position_key (numbers_lead f (map one (position_refs cs)) i among_positions)

  multi-colours : some s.colours ≡ true → Leads (multi s cs).colours (multi s cs).indices i (element s.colours (v_of (refs_at cs i)))
  multi-colours t =
      let L : List ℕ → Type 0 = λ k. Leads (multi s cs).colours (multi s cs).indices i (element s.colours (v_of k)) in
      subst L position_key (coloured_lead s.colours (map one (position_refs cs)) i among_positions t)

  -- textures and normals alike: the reference r of a corner to an element of xs
  carried_lead : (r : List ℕ → ℕ) (xs : List (List ℕ)) → names xs (r (refs_at cs i)) ≡ true →
      Leads (picked xs (carried 0 (map (λ c. r (refs c)) cs))) (ref_numbers xs (carried 0 (map (λ c. r (refs c)) cs))) i (element xs (r (refs_at cs i)))
  carried_lead r xs t =
      let rs : List ℕ = map (λ c. r (refs c)) cs in
      let at : get_or rs i 0 ≡ r (refs_at cs i) = ref_at r cs i l in
      let below : i < length rs = omega (arith, length-map cs (λ c. r (refs c))) in
      let below-carried : i < length (carried 0 rs) = omega (arith, length-carried 0 rs) in
      let kept : get_or (carried 0 rs) i 0 ≡ r (refs_at cs i) = carried-at 0 rs i below (ap (λ (x : ℕ). eqb x missing) at ∙ named-there xs (r (refs_at cs i)) t) ∙ at in
      let L : ℕ → Type 0 = λ n. Leads (picked xs (carried 0 rs)) (ref_numbers xs (carried 0 rs)) i (element xs n) in
      subst L kept (picked_lead xs (carried 0 rs) i below-carried (named_some xs (r (refs_at cs i)) t))

-- ---- the promises

-- the numbers that an option chooses
module _ (ys : List (List ℕ)) (r : ℕ) (xs : List (List ℕ)) (b : Bool) (ns ms : List ℕ) (i : ℕ) (below : r < length ys) where
  reads_first : b ≡ true → Leads xs ns i (element ys r) → Reads ys r xs (cond b ns ms) i
  reads_first t h = let R : List ℕ → Type 0 = λ at. Reads ys r xs at i in subst R (sym (cond-true b ns ms t)) (reads-from ys r xs ns i below h)

  reads_second : b ≡ false → Leads xs ms i (element ys r) → Reads ys r xs (cond b ns ms) i
  reads_second f h = let R : List ℕ → Type 0 = λ at. Reads ys r xs at i in subst R (sym (cond-false b ns ms f)) (reads-from ys r xs ms i below h)

-- each position of a mesh that numbers positions apart is used
pub multi-used : (s : Sources) (cs : List VertexIndices) → Used (length (multi s cs).positions) (multi s cs).indices
multi-used s cs = elements-used (λ k. element s.positions (v_of k)) (map one (position_refs cs))

module _ (o : LoadOptions) (s : Sources) (cs : List VertexIndices) (ns : List ℕ) (g : Granted o s cs) where
  pub single_promise : o.single_index ≡ true → o.merge_identical_points ≡ false → MeshPromise o s cs (with_arities ns (single s cs))
  single_promise joint unmerged =
      record {
        counted = length-numbers (corner_keys cs) ∙ length-map cs refs;
        used = elements-used (λ k. element s.positions (v_of k)) (corner_keys cs);
        positions = λ i l. reads-from _ _ _ _ i (g.within i l).position (single-positions s cs i l);
        textures = λ i l t. reads_first _ _ _ _ _ _ i ((g.within i l).texture t) joint (fillers_lead (0 ∷ 0 ∷ []) s.textures vt_of (corner_keys cs) i (among_corners s cs i l) t);
        normals = λ i l t. reads_first _ _ _ _ _ _ i ((g.within i l).normal t) joint (fillers_lead (0 ∷ 0 ∷ 0 ∷ []) s.normals vn_of (corner_keys cs) i (among_corners s cs i l) t);
        colours = λ i l t. reads_second _ _ _ _ _ _ i ((g.within i l).colour t) unmerged (single-colours s cs i l t);
        single_shared = λ _. keys_shared (corner_keys cs);
        multi_shared = λ h _. absurd (both_ways o.single_index h joint);
        merged_shared = λ h. absurd (both_ways o.merge_identical_points unmerged h);
        fewest = λ h. absurd (both_ways o.merge_identical_points unmerged h);
      }

  multi-counted : length (multi s cs).indices ≡ length cs
  multi-counted = length-numbers (map one (position_refs cs)) ∙ length-map (position_refs cs) one ∙ length-map cs (λ c. c.v)

  pub multi_promise : o.single_index ≡ false → o.merge_identical_points ≡ false → MeshPromise o s cs (with_arities ns (multi s cs))
  multi_promise apart unmerged =
      record {
        counted = multi-counted;
        used = multi-used s cs;
        positions = λ i l. reads-from _ _ _ _ i (g.within i l).position (multi-positions s cs i l);
        textures = λ i l t. reads_second _ _ _ _ _ _ i ((g.within i l).texture t) apart (carried_lead s cs i l vt_of s.textures t);
        normals = λ i l t. reads_second _ _ _ _ _ _ i ((g.within i l).normal t) apart (carried_lead s cs i l vn_of s.normals t);
        colours = λ i l t. reads_second _ _ _ _ _ _ i ((g.within i l).colour t) unmerged (multi-colours s cs i l t);
        single_shared = λ h. absurd (both_ways o.single_index apart h);
        multi_shared = λ _ _. keys_shared (map one (position_refs cs));
        merged_shared = λ h. absurd (both_ways o.merge_identical_points unmerged h);
        fewest = λ h. absurd (both_ways o.merge_identical_points unmerged h);
      }

  -- each number leads to the position that its corner means
  leads-meant : (i : ℕ) → i < length (meant s cs) → Leads (multi s cs).positions (multi s cs).indices i (get_or (meant s cs) i [])
  leads-meant i l =
      let below : i < length cs = omega (arith, length-map cs (λ c. element s.positions c.v)) in
      let L : List ℕ → Type 0 = λ x. Leads (multi s cs).positions (multi s cs).indices i x in
      subst L (sym (meant-at s cs i below)) (multi-positions s cs i below)

  positions_shared : Shares (meant s cs) (renumbered (multi s cs).positions (multi s cs).indices)
  positions_shared i j hi hj = (
    merged-apart (multi s cs).positions (multi s cs).indices i j _ _ (leads-meant i hi) (leads-meant j hj),
    merged_together (multi s cs).positions (multi s cs).indices i j _ _ (leads-meant i hi) (leads-meant j hj),
  )

  positions-fewest : Fewest (meant s cs) (distinct (multi s cs).positions)
  positions-fewest ps at h = fewest (multi s cs).positions ps (λ x t.
      let H : List (List ℕ) → Type 0 = λ xs. has xs x ≡ true in
      let p = place_of (meant s cs) x (subst H (meant-keys s cs) (has-map-distinct (λ k. element s.positions (v_of k)) (map one (position_refs cs)) x t)) in
      let P : List ℕ → Type 0 = λ y. PlaceOf y ps (get_or at (place (meant s cs) x) 0) in
      has-at ps x (get_or at (place (meant s cs) x) 0) (subst P p.1 (h (place (meant s cs) x) p.0)))

  colours_lead : (i : ℕ) → i < length cs → some s.colours ≡ true → Leads (merged (multi s cs)).colours (merged (multi s cs)).colour_indices i (element s.colours (v_of (refs_at cs i)))
  colours_lead i l t =
      let h = multi-colours s cs i l t in
      let any : some (multi s cs).colours ≡ true = lt-ltb 0 (length (multi s cs).colours) (omega (arith, h.1.0)) in
      let L : List ℕ → Type 0 = λ at. Leads (merged (multi s cs)).colours at i (element s.colours (v_of (refs_at cs i))) in
      subst L (sym (cond-true (some (multi s cs).colours) (renumbered (multi s cs).colours (multi s cs).indices) [] any)) (merged_lead (multi s cs).colours (multi s cs).indices i _ h)

  pub merged_promise : o.single_index ≡ false → o.merge_identical_points ≡ true → MeshPromise o s cs (merged (with_arities ns (multi s cs)))
  merged_promise apart merging =
      record {
        counted = length-map (multi s cs).indices (λ n. place (distinct (multi s cs).positions) (get_or (multi s cs).positions n [])) ∙ multi-counted;
        used = merged-used (multi s cs).positions (multi s cs).indices (multi-used s cs);
        positions = λ i l. reads-from _ _ _ _ i (g.within i l).position (merged_lead (multi s cs).positions (multi s cs).indices i _ (multi-positions s cs i l));
        textures = λ i l t. reads_second _ _ _ _ _ _ i ((g.within i l).texture t) apart (merged_lead (multi s cs).textures (multi s cs).texture_indices i _ (carried_lead s cs i l vt_of s.textures t));
        normals = λ i l t. reads_second _ _ _ _ _ _ i ((g.within i l).normal t) apart (merged_lead (multi s cs).normals (multi s cs).normal_indices i _ (carried_lead s cs i l vn_of s.normals t));
        colours = λ i l t. reads_first _ _ _ _ _ _ i ((g.within i l).colour t) merging (colours_lead i l t);
        single_shared = λ h. absurd (both_ways o.single_index apart h);
        multi_shared = λ _ h. absurd (both_ways o.merge_identical_points h merging);
        merged_shared = λ _. positions_shared;
        fewest = λ _. positions-fewest;
      }

-- ---- told of the sources that a log keeps

pub colourless_promise : (o : LoadOptions) (s : Sources) (cs : List VertexIndices) (m : Surface) → MeshPromise o s cs m → MeshPromise o (colourless s) cs m
colourless_promise o s cs m p =
    record {
      counted = p.counted;
      used = p.used;
      positions = p.positions;
      textures = p.textures;
      normals = p.normals;
      colours = λ i l t. absurd (both_ways false refl t);
      single_shared = p.single_shared;
      multi_shared = p.multi_shared;
      merged_shared = p.merged_shared;
      fewest = p.fewest;
    }
