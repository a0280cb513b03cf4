-- Each call's rule keeps what is promised, and so does every list of calls.
use Rattle.std.proofs.Common.{◌≡◌, ℕ, ◌+◌, Bool, not, List, [], ◌∷◌, ◌++◌, length, Some, None, Option, sym, refl, ap, ◌∙◌, subst, arith}
use Rattle.std.proofs.lemmas.List.{length_push, append-nil, append_assoc}
use Rattle.std.proofs.lemmas.List.Filters.{length-filter_both}
use Rattle.elements.specs.declared.corner.VertexIndices.{VertexIndices}
use Rattle.elements.specs.declared.error.LoadError.{LoadError}
use Rattle.elements.specs.declared.options.LoadOptions.{LoadOptions}
use Rattle.elements.specs.Bits.{triple_bits, double_bits}
use Rattle.elements.specs.Checks.{first}
use Rattle.elements.specs.Contents.{Contents, Sources}
use Rattle.mesh.specs.Unfold.{wanted, skips, events, corners_of}
use Rattle.mesh.specs.Surface.{Rooms, Capacities}
use Rattle.mesh.specs.Promises.{MeshPromise, ArityPromise, colourless}
use Rattle.mesh.specs.Rules.{verdict, finished}
use Rattle.mesh.proofs.PromiseMeshes.{colourless_promise}
use Rattle.mesh.proofs.PromiseTold.{promises}
use Rattle.book.specs.Requests.{Request, add_position, add_colour, add_texture, add_normal, add_face, write_mesh, BookRooms}
use Rattle.book.specs.Rules.{CallAnswer, checks, corners_read, granted, Settled, Left, exported, written_faces, skipped_faces, Exports, Does}
use Rattle.book.specs.History.{blank, more, Log, told_sources, face_told, noted, logged, log, Agrees, ExportKept, KeptExport, Plain, Kept, Promised, History}

not-not : (b : Bool) → b ≡ not (not b)
not-not b = grind arith

-- every face is written or skipped
written_or_skipped : (o : LoadOptions) (fs : List (List VertexIndices)) → written_faces o fs + skipped_faces o fs ≡ length fs
written_or_skipped o fs = length-filter_both (wanted o) (skips o) (λ f. not-not (skips o f)) fs

module _ (l : Log) (c : Contents) (h : Agrees l c) where
  -- what a granted request adds, it adds to both
  granted-agrees : (q : Request) → Agrees (noted l q) (granted c q)
  granted-agrees (add_position x y z) =
      record { positions = ap (λ xs. xs ++ triple_bits x y z ∷ []) h.positions; textures = h.textures; normals = h.normals; waiting = h.waiting; order = h.order; counted = h.counted; conserved = h.conserved }
  granted-agrees (add_colour x y z) =
      record { positions = h.positions; textures = h.textures; normals = h.normals; waiting = h.waiting; order = h.order; counted = h.counted; conserved = h.conserved }
  granted-agrees (add_texture u v) =
      record { positions = h.positions; textures = ap (λ xs. xs ++ double_bits u v ∷ []) h.textures; normals = h.normals; waiting = h.waiting; order = h.order; counted = h.counted; conserved = h.conserved }
  granted-agrees (add_normal x y z) =
      record { positions = h.positions; textures = h.textures; normals = ap (λ xs. xs ++ triple_bits x y z ∷ []) h.normals; waiting = h.waiting; order = h.order; counted = h.counted; conserved = h.conserved }
  granted-agrees (add_face text) =
      let e : corners_read c.sources text ≡ face_told l text = cc (h.positions, h.textures, h.normals) in
      let f = face_told l text in
      let n = length_push c.waiting (corners_read c.sources text) in
      let k = length_push l.all f in
      let i = h.counted in
      let j = h.conserved in
      record {
        positions = h.positions;
        textures = h.textures;
        normals = h.normals;
        waiting = ap (λ fs. fs ++ corners_read c.sources text ∷ []) h.waiting ∙ ap (λ g. l.waiting ++ g ∷ []) e;
        order = ap (λ g. l.gone ++ (c.waiting ++ g ∷ [])) e ∙ (sym (append_assoc l.gone c.waiting (f ∷ [])) ∙ ap (λ fs. fs ++ f ∷ []) h.order);
        counted = omega arith;
        conserved = omega arith;
      }
  granted-agrees (write_mesh o material ms ts) =
      let both = written_or_skipped o l.waiting in
      let n = ap length h.waiting in
      let j = h.conserved in
      record {
        positions = h.positions;
        textures = h.textures;
        normals = h.normals;
        waiting = refl;
        order = append-nil (l.gone ++ l.waiting) ∙ (ap (λ fs. l.gone ++ fs) (sym h.waiting) ∙ h.order);
        counted = h.counted;
        conserved = omega arith;
      }

  settled_agrees : (v : Option LoadError) (q : Request) (a : CallAnswer) (d : Contents) → Settled v c (granted c q) a d → Agrees (logged l q a) d × Plain a
  settled_agrees None q a d r =
      let P : CallAnswer → Type 0 = λ x. Agrees (logged l q x) d × Plain x in
      subst P (sym r.0) (subst (λ x. Agrees (noted l q) x) (sym r.1) (granted-agrees q), tt)
  settled_agrees (Some e) q a d r =
      let P : CallAnswer → Type 0 = λ x. Agrees (logged l q x) d × Plain x in
      subst P (sym r.0) (subst (λ x. Agrees l x) (sym r.1) h, tt)

  -- the mesh of an export, for what the log tells
  export_kept : (o : LoadOptions) (material : Option ℕ) (ms : Rooms) (ts : Capacities) → verdict o c ms ts ≡ None
      → ExportKept l o material (written_faces o c.waiting) (skipped_faces o c.waiting) (exported o material ts c)
  export_kept o material ms ts v =
      let p = promises o c ms ts v in
      let m = finished o c in
      let s : colourless c.sources ≡ told_sources l = cc (h.positions, h.textures, h.normals) in
      let one = colourless_promise o c.sources (corners_of (events o c.waiting)) m p.mesh in
      let P : Sources → List (List VertexIndices) → Type 0 = λ src fs. MeshPromise o src (corners_of (events o fs)) m in
      record {
        written = ap (written_faces o) h.waiting;
        skipped = ap (skipped_faces o) h.waiting;
        material_is = refl;
        mesh = subst (λ fs. P (told_sources l) fs) h.waiting (subst (λ src. P src c.waiting) s one);
        arities = subst (λ fs. ArityPromise o fs m) h.waiting p.arities;
      }

  exports_keep : (o : LoadOptions) (material : Option ℕ) (ms : Rooms) (ts : Capacities) (v : Option LoadError) → verdict o c ms ts ≡ v → (a : CallAnswer) (m : Left) (d : Contents)
      → Exports v o material ts c a m d → Agrees (logged l (write_mesh o material ms ts) a) d × KeptExport l o material ts a m
  exports_keep o material ms ts None e a m d r =
      let q = write_mesh o material ms ts in
      let P : CallAnswer → Type 0 = λ x. Agrees (logged l q x) d × KeptExport l o material ts x m in
      subst P (sym r.0) (
        subst (λ x. Agrees (noted l q) x) (sym r.2) (granted-agrees q),
        subst (λ x. ExportKept l o material (written_faces o c.waiting) (skipped_faces o c.waiting) x) (sym r.1) (export_kept o material ms ts e),
      )
  exports_keep o material ms ts (Some x) e a m d r =
      let q = write_mesh o material ms ts in
      let P : CallAnswer → Type 0 = λ y. Agrees (logged l q y) d × KeptExport l o material ts y m in
      subst P (sym r.0) (subst (λ y. Agrees l y) (sym r.2) h, r.1)

  pub step : (rs : BookRooms) (q : Request) (a : CallAnswer) (m : Left) (d : Contents) → Does rs c q a m d → Agrees (logged l q a) d × Kept l q a m
  step rs (add_position x y z) a m d r = settled_agrees (first (checks rs c (add_position x y z))) (add_position x y z) a d r
  step rs (add_colour x y z) a m d r = settled_agrees (first (checks rs c (add_colour x y z))) (add_colour x y z) a d r
  step rs (add_texture u v) a m d r = settled_agrees (first (checks rs c (add_texture u v))) (add_texture u v) a d r
  step rs (add_normal x y z) a m d r = settled_agrees (first (checks rs c (add_normal x y z))) (add_normal x y z) a d r
  step rs (add_face text) a m d r = settled_agrees (first (checks rs c (add_face text))) (add_face text) a d r
  step rs (write_mesh o material ms ts) a m d r = exports_keep o material ms ts (verdict o c ms ts) refl a m d r

pub history : History
history rs blank c e =
    subst (Promised blank) (sym e)
    (record { agrees = record { positions = refl; textures = refl; normals = refl; waiting = refl; order = refl; counted = refl; conserved = refl }; kept = tt })
history rs (more p h) c r =
    let before = history rs p r.0 r.1 in
    let now = step (log p) r.0 before.agrees rs h.asked h.answer h.mesh c r.2 in
    record { agrees = now.0; kept = (before.kept, now.1) }
