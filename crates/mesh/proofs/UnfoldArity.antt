-- One arity more.
use Rattle.std.proofs.Common.{◌≡◌, ℕ, ◌+◌, ◌<◌, ◌≤◌, Bool, true, false, cond, ◌||◌, ltb, List, [], ◌∷◌, ◌++◌, map, length, Some, None, Ok, Err, Result, is_ok, sym, refl, ap, ◌∙◌, subst, arith}
use Rattle.std.proofs.lemmas.List.{append-nil, length-map, length_push}
use Rattle.std.proofs.lemmas.Bool.{le-ltb, lt-ltb, ltb-true, ltb-false}
use Rattle.std.specs.Result.{result_or}
use Rattle.elements.specs.declared.list.Full.{Full}
use Rattle.elements.specs.declared.row.Row.{Row}
use Rattle.elements.specs.declared.options.LoadOptions.{LoadOptions}
use Rattle.elements.specs.declared.error.LoadError.TheVariants.{MeshFull}
use Rattle.elements.specs.Contents.{Sources}
use Rattle.elements.specs.Rows.{items, room, roomy, Pushed}
use Rattle.elements.proofs.RowFacts.{length-items}
use Rattle.mesh.specs.declared.lists.Lists.{Lists}
use Rattle.mesh.specs.Unfold.{Event, arity, corners_of, arities_of}
use Rattle.mesh.specs.Surface.{Surface, over, lacks}
use Rattle.mesh.specs.Lists.{surface, rooms, Blank, Spare, zero_number}
use Rattle.mesh.specs.Numbering.{Keys, numbered, with_arities}
use Rattle.mesh.specs.Steps.{DrawnOf}
use Rattle.mesh.specs.Writing.{Stock, Drawn, Kept, Writing}
use Rattle.mesh.proofs.SingleListFacts.{or_false}
use Rattle.mesh.proofs.UnfoldFacts.{corners-append, arities-append}
use Rattle.mesh.proofs.UnfoldCells.{spare-pushed}

-- the lists with other arities
abbrev pub with_row : Lists → Row ℕ → Lists
with_row l r =
    record {
      positions = l.positions;
      vertex_color = l.vertex_color;
      texcoords = l.texcoords;
      normals = l.normals;
      indices = l.indices;
      face_arities = r;
      vertex_color_indices = l.vertex_color_indices;
      texcoord_indices = l.texcoord_indices;
      normal_indices = l.normal_indices;
      remap = l.remap;
    }

-- a row is never longer than its room
over-items : {X : Type 0} (r : Row X) → over (room r) (items r) ≡ false
over-items r = let n = length-items r in let f = r.fits in le-ltb (room r) (length (items r)) (omega arith)

over-map : {X Y : Type 0} (g : X → Y) (r : Row X) → over (room r) (map g (items r)) ≡ false
over-map g r = let n = length-items r in let k = length-map (items r) g in let f = r.fits in le-ltb (room r) (length (map g (items r))) (omega arith)

or_sixth : (a b c d e x g h : Bool) → a ≡ false → b ≡ false → c ≡ false → d ≡ false → e ≡ false → g ≡ false → h ≡ false → (a || (b || (c || (d || (e || (x || (g || h))))))) ≡ x
or_sixth a b c d e x g h pa pb pc pd pe pg ph = rw (pa, pb, pc, pd, pe, pg, ph) (or_false x)

-- only the arities can be too many
lacks-arities : (l : Lists) (ns : List ℕ) → lacks (rooms l) (with_arities ns (surface l)) ≡ over (room l.face_arities) ns
lacks-arities l ns =
    or_sixth _ _ _ _ _ (over (room l.face_arities) ns) _ _
    (over-map _ l.positions) (over-map _ l.vertex_color) (over-map _ l.texcoords) (over-map _ l.normals) (over-items l.indices)
    (over-items l.texcoord_indices) (over-items l.normal_indices)

module _ (o : LoadOptions) (s : Sources) (l : Lists) (k : ℕ) (es : List Event) (ks : Keys) (d : Drawn o s es (surface l) ks) where
  more : with_arities (arities_of es ++ k ∷ []) (numbered o s (corners_of es)) ≡ with_arities (items l.face_arities ++ k ∷ []) (surface l)
  more = sym (ap (λ (m : Surface). with_arities (m.arities ++ k ∷ []) m) d.surface)

  obstacle : lacks (rooms l) (with_arities (arities_of es ++ k ∷ []) (numbered o s (corners_of es))) ≡ ltb (room l.face_arities) (l.face_arities.count + 1)
  obstacle =
      ap (lacks (rooms l)) more
      ∙ (lacks-arities l (items l.face_arities ++ k ∷ [])
      ∙ ap (ltb (room l.face_arities)) (length_push (items l.face_arities) k ∙ ap (λ n. n + 1) (length-items l.face_arities)))

  drawn-more : (r : Row ℕ) → Pushed l.face_arities r k → Drawn o s (es ++ arity k ∷ []) (surface (with_row l r)) ks
  drawn-more r p =
      let cs : corners_of es ≡ corners_of (es ++ arity k ∷ []) = sym (corners-append es (arity k ∷ []) ∙ append-nil (corners_of es)) in
      let ns : arities_of es ++ k ∷ [] ≡ arities_of (es ++ arity k ∷ []) = sym (arities-append es (arity k ∷ [])) in
      let here : DrawnOf o s (arities_of es ++ k ∷ []) (corners_of es) (surface (with_row l r)) ks =
      record { surface = ap (λ xs. with_arities xs (surface l)) p.items ∙ sym more; keys = d.keys } in
      subst (λ xs. DrawnOf o s xs (corners_of (es ++ arity k ∷ [])) (surface (with_row l r)) ks) ns
      (subst (λ xs. DrawnOf o s (arities_of es ++ k ∷ []) xs (surface (with_row l r)) ks) cs here)

-- what other arities leave as it was
module _ (l : Lists) (r : Row ℕ) where
  pub rooms_row : room r ≡ room l.face_arities → rooms (with_row l r) ≡ rooms l
  rooms_row e =
      ap (λ n. record { positions = room l.positions; colours = room l.vertex_color; textures = room l.texcoords; normals = room l.normals; indices = room l.indices; arities = n; colour_indices = room l.vertex_color_indices; texture_indices = room l.texcoord_indices; normal_indices = room l.normal_indices; remap = room l.remap }) e

  pub blank_row : (Spare zero_number l.face_arities → Spare zero_number r) → Blank l → Blank (with_row l r)
  blank_row h b = (b.0, (h b.1.0, b.1.1, b.1.2, b.1.3, b.1.4))

module _ (o : LoadOptions) (s : Sources) (l : Lists) (t : Stock) (S : Type 0) (k : ℕ) where
  kept_row : (r : Row ℕ) → room r ≡ room l.face_arities → (Spare zero_number l.face_arities → Spare zero_number r) → Kept l (with_row l r) t t S S
  kept_row r e h =
      record {
        rooms = rooms_row l r e;
        remap = refl;
        blank = blank_row l r h;
        capacities = refl;
        points = refl;
        pairs = refl;
        sound = λ x. x;
      }

  -- it was written
  pub arity-written : {X : Type 0} (x : X) (r : Row ℕ) → l.face_arities.count < room l.face_arities → Pushed l.face_arities r k → Writing o s (arity k ∷ []) l (with_row l r) t t S S (Ok x)
  arity-written x r free p =
      record {
        kept = kept_row r p.room (spare-pushed zero_number l.face_arities r k p);
        writes = λ _ es d. (
          ap (λ b. cond b (Some MeshFull) None) (obstacle o s l k es t.keys d ∙ le-ltb (room l.face_arities) (l.face_arities.count + 1) (omega arith)),
          drawn-more o s l k es t.keys d r p,
        );
      }

  -- there was no cell for it
  pub arity-refused : {X : Type 0} (r : Row ℕ) → room l.face_arities ≤ l.face_arities.count → r ≡ l.face_arities → Writing o s (arity k ∷ []) l (with_row l r) t t S S {X = X} (Err MeshFull)
  arity-refused r full e =
      record {
        kept = kept_row r (ap room e) (λ h. let P : Row ℕ → Type 0 = λ x. Spare zero_number x in subst P (sym e) h);
        writes = λ _ es d. ap (λ b. cond b (Some MeshFull) None) (obstacle o s l k es t.keys d ∙ lt-ltb (room l.face_arities) (l.face_arities.count + 1) (omega arith));
      }

  pub arity-pushed : (q : Result (Unit {0}) Full) (r : Row ℕ) → is_ok q ≡ roomy l.face_arities → (is_ok q ≡ true → Pushed l.face_arities r k) → (is_ok q ≡ false → r ≡ l.face_arities)
      → Writing o s (arity k ∷ []) l (with_row l r) t t S S (result_or q (Err MeshFull))
  arity-pushed (Ok x) r tells granted refused = arity-written x r (ltb-true _ _ (sym tells)) (granted refl)
  arity-pushed (Err e) r tells granted refused = arity-refused r (ltb-false _ _ (sym tells)) (refused refl)
