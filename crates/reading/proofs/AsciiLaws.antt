use Rattle.std.proofs.Common.{◌≡◌, ℕ, ◌+◌, ◌^◌, ◌≤◌, Bool, true, false, cond, ◌&&◌, eqb, ltb, leb, List, [], ◌∷◌, map, length, get_or, drop, ℤ, pos, neg_ℤ, is_some, Some, None, Option, refl, ap, ◌∙◌, arith}
use Rattle.std.proofs.lemmas.Bool.{and_parts, and_from, le-leb, leb-true, eqb-true, false≢true, both_ways}
use Rattle.std.proofs.lemmas.Bool.Decides.{nat_tests}
use Rattle.std.specs.List.{list_all}
use Rattle.std.specs.Option.{option_map}
use Rattle.elements.specs.declared.corner.VertexIndices.{VertexIndices}
use Rattle.reading.specs.declared.counts.Counts.{Counts}
use Rattle.std.specs.Char.{is_ascii_digit}
use Rattle.reading.specs.Ascii.{plain, ascii}
use Rattle.reading.specs.Value.{digits, numeral, number, signed, value, reference}
use Rattle.reading.specs.Pieces.{Stretch, whole, onto, pieces, stretches, unless_empty, filled, space, slash, tokens, parts, none, vacant}
use Rattle.reading.specs.Corner.{place, place_of, indices, corner_of, corner}
use Rattle.reading.specs.Face.{all, corners, face}
use Rattle.reading.specs.Laws.{OnlyAscii}

abbrev all_ascii : List Stretch → Bool
all_ascii [] = true
all_ascii (q ∷ qs) = ascii q.bytes && all_ascii qs

-- numbers are ASCII

digits-ascii : (cs : List ℕ) → digits cs ≡ true → ascii cs ≡ true
digits-ascii [] h = refl
digits-ascii (c ∷ cs) h =
    let p = and_parts (is_ascii_digit c) (digits cs) h in
    let q = and_parts (leb 48 c) (leb c 57) p.0 in
    and_from (leb c 127) (ascii cs) (le-leb c 127 (omega (arith, leb-true c 57 q.1))) (digits-ascii cs p.1)

numeral-ascii : (cs : List ℕ) → numeral cs ≡ true → ascii cs ≡ true
numeral-ascii [] h = refl
numeral-ascii (c ∷ cs) h = digits-ascii (c ∷ cs) h

signed_by : (sign : ℕ → ℤ) (cs : List ℕ) (b t : Bool) → numeral cs ≡ b → is_some (option_map sign (cond (b && t) (Some (number cs)) None)) ≡ true → ascii cs ≡ true
signed_by sign cs true t e h = numeral-ascii cs e
signed_by sign cs false t e h = absurd (false≢true h)

signed-ascii : (sign : ℕ → ℤ) (limit : ℕ) (cs : List ℕ) → is_some (signed sign limit cs) ≡ true → ascii cs ≡ true
signed-ascii sign limit cs h = signed_by sign cs (numeral cs) (ltb (number cs) limit) refl h

sign_ascii : (c k : ℕ) (cs : List ℕ) → k ≤ 127 → eqb c k ≡ true → ascii cs ≡ true → ascii (c ∷ cs) ≡ true
sign_ascii c k cs l e h = and_from (leb c 127) (ascii cs) (le-leb c 127 (omega (arith, eqb-true c k e))) h

value_by : (c : ℕ) (cs : List ℕ) (m p : Bool) → eqb c 45 ≡ m → eqb c 43 ≡ p → is_some (cond m (signed (λ n. neg_ℤ (pos n)) (2 ^ 63 + 1) cs) (cond p (signed pos (2 ^ 63) cs) (signed pos (2 ^ 63) (c ∷ cs)))) ≡ true → ascii (c ∷ cs) ≡ true
value_by c cs true p e f h = sign_ascii c 45 cs (omega arith) e (signed-ascii (λ n. neg_ℤ (pos n)) (2 ^ 63 + 1) cs h)
value_by c cs false true e f h = sign_ascii c 43 cs (omega arith) f (signed-ascii pos (2 ^ 63) cs h)
value_by c cs false false e f h = signed-ascii pos (2 ^ 63) (c ∷ cs) h

value-ascii : (cs : List ℕ) → is_some (value cs) ≡ true → ascii cs ≡ true
value-ascii [] h = refl
value-ascii (c ∷ cs) h = value_by c cs (eqb c 45) (eqb c 43) refl refl h

some_of : {X Y : Type 0} (f : X → Y) (o : Option X) → is_some (option_map f o) ≡ true → is_some o ≡ true
some_of f None h = h
some_of f (Some x) h = refl

place-ascii : (n : ℕ) (cs : List ℕ) → is_some (place n cs) ≡ true → ascii cs ≡ true
place-ascii n [] h = refl
place-ascii n (c ∷ cs) h = value-ascii (c ∷ cs) (some_of (reference n) (value (c ∷ cs)) h)

-- so are parts and tokens that read

vacant_by : (q : Stretch) (bs : List ℕ) (qs : List Stretch) → q.bytes ≡ bs → none (unless_empty q bs (filled qs)) ≡ true → (ascii bs ≡ true) × (vacant qs ≡ true)
vacant_by q [] qs e h = (refl, h)
vacant_by q (c ∷ cs) qs e h = absurd (false≢true h)

vacant-ascii : (qs : List Stretch) → vacant qs ≡ true → all_ascii qs ≡ true
vacant-ascii [] h = refl
vacant-ascii (q ∷ qs) h =
    let p = vacant_by q q.bytes qs refl h in
    and_from (ascii q.bytes) (all_ascii qs) p.0 (vacant-ascii qs p.1)

indices-some : (a b d : Option ℕ) → is_some (indices a b d) ≡ true → (is_some a ≡ true) × (is_some b ≡ true) × (is_some d ≡ true)
indices-some None b d h = absurd (false≢true h)
indices-some (Some a) None d h = absurd (false≢true h)
indices-some (Some a) (Some b) None h = absurd (false≢true h)
indices-some (Some a) (Some b) (Some d) h = (refl, refl, refl)

cond-some : (b : Bool) (o : Option VertexIndices) → is_some (cond b o None) ≡ true → (b ≡ true) × (is_some o ≡ true)
cond-some true o h = (refl, h)
cond-some false o h = absurd (false≢true h)

first_three : (ps : List Stretch) → ascii (get_or ps 0 (whole [])).bytes ≡ true → ascii (get_or ps 1 (whole [])).bytes ≡ true → ascii (get_or ps 2 (whole [])).bytes ≡ true → all_ascii (drop 3 ps) ≡ true → all_ascii ps ≡ true
first_three [] a b d h = refl
first_three (p ∷ []) a b d h = and_from (ascii p.bytes) true a refl
first_three (p ∷ q ∷ []) a b d h = and_from (ascii p.bytes) (ascii q.bytes && true) a (and_from (ascii q.bytes) true b refl)
first_three (p ∷ q ∷ r ∷ ps) a b d h =
    and_from (ascii p.bytes) (ascii q.bytes && (ascii r.bytes && all_ascii ps)) a
    (and_from (ascii q.bytes) (ascii r.bytes && all_ascii ps) b (and_from (ascii r.bytes) (all_ascii ps) d h))

corner_of-ascii : (n : Counts) (ps : List Stretch) → is_some (corner_of n ps) ≡ true → all_ascii ps ≡ true
corner_of-ascii n ps h =
    let a = cond-some (vacant (drop 3 ps)) (indices (place_of n.positions ps 0) (place_of n.textures ps 1) (place_of n.normals ps 2)) h in
    let b = indices-some (place_of n.positions ps 0) (place_of n.textures ps 1) (place_of n.normals ps 2) a.1 in
    first_three ps (place-ascii n.positions (get_or ps 0 (whole [])).bytes b.0) (place-ascii n.textures (get_or ps 1 (whole [])).bytes b.1) (place-ascii n.normals (get_or ps 2 (whole [])).bytes b.2) (vacant-ascii (drop 3 ps) a.0)

-- and what is cut at ASCII bytes into ASCII pieces

module _ (cut : ℕ → Bool) (low : (c : ℕ) → cut c ≡ true → c ≤ 127) where
  stretches-at : (i j : ℕ) (ps : List (List ℕ)) → all_ascii (stretches i ps) ≡ all_ascii (stretches j ps)
  stretches-at i j [] = refl
  stretches-at i j (p ∷ ps) = ap (λ b. ascii p && b) (stretches-at (i + length p + 1) (j + length p + 1) ps)

  onto-ascii : (i c : ℕ) (ps : List (List ℕ)) → all_ascii (stretches i (onto c ps)) ≡ true → (leb c 127 ≡ true) × (all_ascii (stretches i ps) ≡ true)
  onto-ascii i c [] h = let p = and_parts (leb c 127 && true) true h in ((and_parts (leb c 127) true p.0).0, refl)
  onto-ascii i c (p ∷ ps) h =
      let a = and_parts (leb c 127 && ascii p) (all_ascii (stretches (i + length (c ∷ p) + 1) ps)) h in
      let b = and_parts (leb c 127) (ascii p) a.0 in
      (b.0, and_from (ascii p) (all_ascii (stretches (i + length p + 1) ps)) b.1 (stretches-at (i + length p + 1) (i + length (c ∷ p) + 1) ps ∙ a.1))

  cut_by : (i c : ℕ) (ps : List (List ℕ)) (b : Bool) → cut c ≡ b → all_ascii (stretches i (cond b ([] ∷ ps) (onto c ps))) ≡ true → (leb c 127 ≡ true) × (all_ascii (stretches i ps) ≡ true)
  cut_by i c ps true e h = (le-leb c 127 (low c e), stretches-at i (i + 0 + 1) ps ∙ h)
  cut_by i c ps false e h = onto-ascii i c ps h

  pieces-ascii : (i : ℕ) (cs : List ℕ) → all_ascii (stretches i (pieces cut cs)) ≡ true → ascii cs ≡ true
  pieces-ascii i [] h = refl
  pieces-ascii i (c ∷ cs) h =
      let p = cut_by i c (pieces cut cs) (cut c) refl h in
      and_from (leb c 127) (ascii cs) p.0 (pieces-ascii i cs p.1)

slash_low : (c : ℕ) → slash c ≡ true → c ≤ 127
slash_low c h = omega (arith, eqb-true c 47 h)

space_low : (c : ℕ) → space c ≡ true → c ≤ 127
space_low c h = grind (arith, nat_tests)

corner-ascii : (n : Counts) (token : Stretch) → is_some (corner n token) ≡ true → ascii token.bytes ≡ true
corner-ascii n token h = pieces-ascii slash slash_low token.from token.bytes (corner_of-ascii n (parts token) h)

corners_by : (n : Counts) (t : Stretch) (ts : List Stretch) (o : Option VertexIndices) → corner n t ≡ o → is_some (all (o ∷ map (corner n) ts)) ≡ true → (is_some (corner n t) ≡ true) × (is_some (corners n ts) ≡ true)
corners_by n t ts None e h = absurd (false≢true h)
corners_by n t ts (Some c) e h = (ap is_some e, some_of (λ cs. c ∷ cs) (corners n ts) h)

corners-ascii : (n : Counts) (ts : List Stretch) → is_some (corners n ts) ≡ true → all_ascii ts ≡ true
corners-ascii n [] h = refl
corners-ascii n (t ∷ ts) h =
    let p = corners_by n t ts (corner n t) refl h in
    and_from (ascii t.bytes) (all_ascii ts) (corner-ascii n t p.0) (corners-ascii n ts p.1)

filled_by : (q : Stretch) (bs : List ℕ) (qs : List Stretch) → q.bytes ≡ bs → all_ascii (unless_empty q bs (filled qs)) ≡ true → (ascii q.bytes ≡ true) × (all_ascii (filled qs) ≡ true)
filled_by q [] qs e h = (ap ascii e, h)
filled_by q (c ∷ cs) qs e h = and_parts (ascii q.bytes) (all_ascii (filled qs)) h

filled-ascii : (qs : List Stretch) → all_ascii (filled qs) ≡ true → all_ascii qs ≡ true
filled-ascii [] h = refl
filled-ascii (q ∷ qs) h =
    let p = filled_by q q.bytes qs refl h in
    and_from (ascii q.bytes) (all_ascii qs) p.0 (filled-ascii qs p.1)

face-ascii : (n : Counts) (text : List ℕ) → is_some (face n text) ≡ true → ascii text ≡ true
face-ascii n text h = pieces-ascii space space_low 0 text (filled-ascii (stretches 0 (pieces space text)) (corners-ascii n (tokens text) h))

only_by : (n : Counts) (text : List ℕ) (o : Option (List VertexIndices)) → face n text ≡ o → ascii text ≡ false → o ≡ None
only_by n text None e h = refl
only_by n text (Some cs) e h = absurd (both_ways (ascii text) h (face-ascii n text (ap is_some e)))

pub only_ascii : OnlyAscii
only_ascii n text h = only_by n text (face n text) refl h

-- a text has no byte above 127 exactly where each of its bytes is plain

pub plain_all : (cs : List ℕ) → list_all plain cs ≡ ascii cs
plain_all [] = refl
plain_all (c ∷ cs) = ap (λ b. plain c && b) (plain_all cs)
