use Rattle.std.proofs.Common.{◌≡◌, ℕ, ◌+◌, ◌<◌, ◌≤◌, Bool, true, false, cond, List, [], ◌∷◌, ◌++◌, map, length, get_or, take, drop, set, is_some, Some, None, Option, sym, refl, ap, ◌∙◌, arith}
use Rattle.std.proofs.lemmas.List.{append_assoc, append-nil, length-append, nil_from_length, take_all, take_more_set}
use Rattle.std.proofs.lemmas.Bool.{false≢true}
use Rattle.std.proofs.lemmas.Option.{none-some}
use Rattle.std.specs.Option.{option_map, unwrap_or}
use Rattle.elements.specs.declared.corner.VertexIndices.{VertexIndices}
use Rattle.reading.specs.declared.counts.Counts.{Counts}
use Rattle.reading.specs.Value.{value, reference}
use Rattle.reading.specs.Pieces.{Stretch, whole, parts, vacant, tokens}
use Rattle.reading.specs.Corner.{place, indices, corner}
use Rattle.reading.specs.Face.{all, corners, face}

-- whether a token reads does not depend on the counts

some_mapped : {X Y Z : Type 0} (f : X → Y) (g : X → Z) (o : Option X) → is_some (option_map f o) ≡ is_some (option_map g o)
some_mapped f g None = refl
some_mapped f g (Some x) = refl

some-place : (m n : ℕ) (bs : List ℕ) → is_some (place m bs) ≡ is_some (place n bs)
some-place m n [] = refl
some-place m n (c ∷ cs) = some_mapped (reference m) (reference n) (value (c ∷ cs))

some-indices : (a b d x y z : Option ℕ) → is_some a ≡ is_some x → is_some b ≡ is_some y → is_some d ≡ is_some z → is_some (indices a b d) ≡ is_some (indices x y z)
some-indices None b d None y z e f g = refl
some-indices None b d (Some x) y z e f g = absurd (false≢true e)
some-indices (Some a) b d None y z e f g = absurd (false≢true (sym e))
some-indices (Some a) None d (Some x) None z e f g = refl
some-indices (Some a) None d (Some x) (Some y) z e f g = absurd (false≢true f)
some-indices (Some a) (Some b) d (Some x) None z e f g = absurd (false≢true (sym f))
some-indices (Some a) (Some b) None (Some x) (Some y) None e f g = refl
some-indices (Some a) (Some b) None (Some x) (Some y) (Some z) e f g = absurd (false≢true g)
some-indices (Some a) (Some b) (Some d) (Some x) (Some y) None e f g = absurd (false≢true (sym g))
some-indices (Some a) (Some b) (Some d) (Some x) (Some y) (Some z) e f g = refl

some-cond : (b : Bool) (o p : Option VertexIndices) → is_some o ≡ is_some p → is_some (cond b o None) ≡ is_some (cond b p None)
some-cond true o p h = h
some-cond false o p h = refl

pub reads-alike : (m n : Counts) (token : Stretch) → is_some (corner m token) ≡ is_some (corner n token)
reads-alike m n token =
    some-cond (vacant (drop 3 (parts token))) _ _
    (some-indices _ _ _ _ _ _
    (some-place m.positions n.positions (get_or (parts token) 0 (whole [])).bytes)
    (some-place m.textures n.textures (get_or (parts token) 1 (whole [])).bytes)
    (some-place m.normals n.normals (get_or (parts token) 2 (whole [])).bytes))

-- the tokens one by one

abbrev pub after : List VertexIndices → Option (List VertexIndices) → Option (List VertexIndices)
after ds o = option_map (λ cs. ds ++ cs) o

after_none : (o : Option (List VertexIndices)) → o ≡ after [] o
after_none None = refl
after_none (Some cs) = refl

after_push : (ds : List VertexIndices) (c : VertexIndices) (o : Option (List VertexIndices)) → after ds (option_map (λ cs. c ∷ cs) o) ≡ after (ds ++ c ∷ []) o
after_push ds c None = refl
after_push ds c (Some cs) = ap Some (sym (append_assoc ds (c ∷ []) cs))

corners-more : (n : Counts) (ts : List Stretch) (t : Stretch) (us : List Stretch) (c : VertexIndices) → ts ≡ t ∷ us → corner n t ≡ Some c → corners n ts ≡ option_map (λ cs. c ∷ cs) (corners n us)
corners-more n ts t us c e h = ap (corners n) e ∙ ap (λ o. all (o ∷ map (corner n) us)) h

corners-none : (n : Counts) (ts : List Stretch) (t : Stretch) (us : List Stretch) → ts ≡ t ∷ us → corner n t ≡ None → corners n ts ≡ None
corners-none n ts t us e h = ap (corners n) e ∙ ap (λ o. all (o ∷ map (corner n) us)) h

-- how many there are, if all read, after k

abbrev pub more : ℕ → Option (List VertexIndices) → Option ℕ
more k o = option_map (λ cs. k + length cs) o

pub more-none : (o : Option (List VertexIndices)) → more 0 o ≡ option_map length o
more-none None = refl
more-none (Some cs) = ap Some (omega arith)

more_push : (k : ℕ) (c : VertexIndices) (o : Option (List VertexIndices)) → more (k + 1) o ≡ more k (option_map (λ cs. c ∷ cs) o)
more_push k c None = refl
more_push k c (Some cs) = ap Some (omega arith)

more_step : (n : Counts) (k : ℕ) (ts : List Stretch) (t : Stretch) (us : List Stretch) (o : Option VertexIndices) → ts ≡ t ∷ us → corner n t ≡ o → is_some o ≡ true → more (k + 1) (corners n us) ≡ more k (corners n ts)
more_step n k ts t us None e h s = absurd (false≢true s)
more_step n k ts t us (Some c) e h s = more_push k c (corners n us) ∙ sym (ap (more k) (corners-more n ts t us c e h))

stop_step : (n : Counts) (k : ℕ) (ts : List Stretch) (t : Stretch) (us : List Stretch) (o : Option VertexIndices) → ts ≡ t ∷ us → corner n t ≡ o → is_some o ≡ false → None ≡ more k (corners n ts)
stop_step n k ts t us None e h s = sym (ap (more k) (corners-none n ts t us e h))
stop_step n k ts t us (Some c) e h s = absurd (false≢true (sym s))

pub count-more : (n : Counts) (k : ℕ) (ts : List Stretch) (t : Stretch) (us : List Stretch) → ts ≡ t ∷ us → is_some (corner n t) ≡ true → more (k + 1) (corners n us) ≡ more k (corners n ts)
count-more n k ts t us e s = more_step n k ts t us (corner n t) e refl s

pub count_stop : (n : Counts) (k : ℕ) (ts : List Stretch) (t : Stretch) (us : List Stretch) → ts ≡ t ∷ us → is_some (corner n t) ≡ false → None ≡ more k (corners n ts)
count_stop n k ts t us e s = stop_step n k ts t us (corner n t) e refl s

pub count-all : (n : Counts) (k : ℕ) (ts : List Stretch) → ts ≡ [] → Some k ≡ more k (corners n ts)
count-all n k ts e = ap Some (omega arith) ∙ sym (ap (λ us. more k (corners n us)) e)

-- the cells that are written: ds are the corners so far, and ts the tokens that are left

module _ (n : Counts) (ds : List VertexIndices) (ts : List Stretch) (m : ℕ) (fit : option_map length (after ds (corners n ts)) ≡ Some m) where
  pub rest_there : length ds < m → ts ≡ [] → ⊥
  rest_there l e =
      let h : Some (length (ds ++ [])) ≡ Some m = sym (ap (λ us. option_map length (after ds (corners n us))) e) ∙ fit in
      omega (arith, l, length-append ds [], ap (λ o. unwrap_or o 0) h)

  pub corner_there : (t : Stretch) (us : List Stretch) → ts ≡ t ∷ us → corner n t ≡ None → ⊥
  corner_there t us e h = none-some m (sym (ap (λ o. option_map length (after ds o)) (corners-none n ts t us e h)) ∙ fit)

all_by : (ds : List VertexIndices) (o : Option (List VertexIndices)) → option_map length (after ds o) ≡ Some (length ds) → after ds o ≡ Some ds
all_by ds None h = absurd (none-some (length ds) h)
all_by ds (Some cs) h =
    let e : length (ds ++ cs) ≡ length ds = ap (λ o. unwrap_or o 0) h in
    let z : cs ≡ [] = nil_from_length cs (omega (arith, e, length-append ds cs)) in
    ap (λ es. Some (ds ++ es)) z ∙ ap Some (append-nil ds)

pub face_start : (n : Counts) (text : List ℕ) (ts : List Stretch) → ts ≡ tokens text → face n text ≡ after [] (corners n ts)
face_start n text ts e = after_none (face n text) ∙ ap (λ us. after [] (corners n us)) (sym e)

pub face_more : (n : Counts) (text : List ℕ) (cells : List VertexIndices) (k : ℕ) (ts us : List Stretch) (t : Stretch) (c : VertexIndices) → k < length cells
    → face n text ≡ after (take k cells) (corners n ts) → ts ≡ t ∷ us → corner n t ≡ Some c → face n text ≡ after (take (k + 1) (set cells k c)) (corners n us)
face_more n text cells k ts us t c l h e g =
    h ∙ (ap (after (take k cells)) (corners-more n ts t us c e g) ∙ (after_push (take k cells) c (corners n us)
    ∙ ap (λ ds. after ds (corners n us)) (sym (take_more_set cells k c l))))

pub face_end : (n : Counts) (text : List ℕ) (cells : List VertexIndices) (k : ℕ) (ts : List Stretch) → length cells ≤ k
    → face n text ≡ after (take k cells) (corners n ts) → option_map length (face n text) ≡ Some (length cells) → face n text ≡ Some cells
face_end n text cells k ts l h fit =
    let e = h ∙ ap (λ ds. after ds (corners n ts)) (take_all k cells l) in
    e ∙ all_by cells (corners n ts) (ap (option_map length) (sym e) ∙ fit)
