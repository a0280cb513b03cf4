-- How numbers lead back to what they stand for, before and after merging.
use Rattle.std.proofs.Common.{◌≡◌, ℕ, zero, suc, ◌<◌, true, false, cond, not, eqb, List, [], ◌∷◌, map, length, get_or, sym, refl, ap, ◌∙◌, subst, arith}
use Rattle.std.proofs.lemmas.Bool.{and_parts, not-true, or_left, or_right, cond-true, cond-false}
use Rattle.std.proofs.lemmas.List.{length-map, get_or-map}
use Rattle.elements.specs.declared.corner.VertexIndices.{VertexIndices}
use Rattle.elements.specs.Corners.{missing, refs}
use Rattle.elements.specs.First.{has, distinct, place, numbers, PlaceOf}
use Rattle.elements.proofs.FirstFacts.{has-at, place_of, place_unique, place_injective, apart_distinct, has-distinct, distinct-has, length-numbers, get_or-numbers, numbers_back}
use Rattle.mesh.specs.Numbering.{some, names, element, v_of, any_named, named_or, with_fillers, one, carried, picked, ref_numbers}
use Rattle.mesh.specs.Merging.{renumbered}
use Rattle.mesh.specs.Promises.{Reads, Used, refs_at}

-- there is a number at i of ns, and x stands there in xs
abbrev pub Leads : List (List ℕ) → List ℕ → ℕ → List ℕ → Type 0
Leads xs ns i x = (i < length ns) × PlaceOf x xs (get_or ns i 0)

pub reads-from : (ys : List (List ℕ)) (r : ℕ) (xs : List (List ℕ)) (ns : List ℕ) (i : ℕ) → r < length ys → Leads xs ns i (element ys r) → Reads ys r xs ns i
reads-from ys r xs ns i l h = record { there = l; numbered = h.0; within = h.1.0; same = h.1.1 }

-- ---- references

-- a reference of the corner i
pub ref_at : (r : List ℕ → ℕ) (cs : List VertexIndices) (i : ℕ) → i < length cs → get_or (map (λ c. r (refs c)) cs) i 0 ≡ r (refs_at cs i)
ref_at r [] i l = absurd (omega arith)
ref_at r (c ∷ cs) zero l = refl
ref_at r (c ∷ cs) (suc i) l = ref_at r cs i (omega arith)

pub named_some : (xs : List (List ℕ)) (r : ℕ) → names xs r ≡ true → some xs ≡ true
named_some xs r t = (and_parts (some xs) (not (eqb r missing)) t).0

pub named-there : (xs : List (List ℕ)) (r : ℕ) → names xs r ≡ true → eqb r missing ≡ false
named-there xs r t = not-true (eqb r missing) (and_parts (some xs) (not (eqb r missing)) t).1

pub length-carried : (r : ℕ) (xs : List ℕ) → length (carried r xs) ≡ length xs
length-carried r [] = refl
length-carried r (x ∷ xs) = elim (eqb x missing) as (λ b. length (cond b (r ∷ carried r xs) (x ∷ carried x xs)) ≡ suc (length xs)) [
  | true ↦ ap suc (length-carried r xs)
  | false ↦ ap suc (length-carried x xs)
]

-- a reference that is not missing stays as it is
pub carried-at : (r : ℕ) (xs : List ℕ) (i : ℕ) → i < length xs → eqb (get_or xs i 0) missing ≡ false → get_or (carried r xs) i 0 ≡ get_or xs i 0
carried-at r [] i l f = absurd (omega arith)
carried-at r (x ∷ xs) zero l f = ap (λ (ys : List ℕ). get_or ys 0 0) (cond-false (eqb x missing) (r ∷ carried r xs) (x ∷ carried x xs) f)
carried-at r (x ∷ xs) (suc i) l f = elim (eqb x missing) as (λ b. get_or (cond b (r ∷ carried r xs) (x ∷ carried x xs)) (suc i) 0 ≡ get_or xs i 0) [
  | true ↦ carried-at r xs i (omega arith) f
  | false ↦ carried-at x xs i (omega arith) f
]

-- ---- numbers of keys

-- where each key has its element, each number leads to that of its key
pub numbers_lead : (f : List ℕ → List ℕ) (ms : List (List ℕ)) (i : ℕ) → i < length ms → Leads (map f (distinct ms)) (numbers ms) i (f (get_or ms i []))
numbers_lead f ms i l =
    let p = numbers_back ms i l in
    let a = length-numbers ms in
    let b = length-map (distinct ms) f in
    (omega arith, (omega arith, get_or-map f (distinct ms) (get_or (numbers ms) i 0) [] [] p.0 ∙ ap f p.1))

-- each number of a key is that of some place
pub numbers-used : (ms : List (List ℕ)) → Used (length (distinct ms)) (numbers ms)
numbers-used ms j l =
    let k = get_or (distinct ms) j [] in
    let p = place_of ms k (has-distinct ms k (has-at (distinct ms) k j (l, refl))) in
    let below : place ms k < length (numbers ms) = omega (arith, p.0, length-numbers ms) in
    (place ms k, below, get_or-numbers ms (place ms k) p.0 ∙ ap (place (distinct ms)) p.1 ∙ sym (place_unique (distinct ms) k j (apart_distinct ms) (l, refl)))

any_named-at : (xs : List (List ℕ)) (ref : List ℕ → ℕ) (ks : List (List ℕ)) (i : ℕ) → i < length ks → names xs (ref (get_or ks i [])) ≡ true → any_named xs ref ks ≡ true
any_named-at xs ref [] i l t = absurd (omega arith)
any_named-at xs ref (k ∷ ks) zero l t = or_left (names xs (ref k)) (any_named xs ref ks) t
any_named-at xs ref (k ∷ ks) (suc i) l t = or_right (names xs (ref k)) (any_named xs ref ks) (any_named-at xs ref ks i (omega arith) t)

-- a key that asks for an element finds it, fillers or not
pub fillers_lead : (filler : List ℕ) (xs : List (List ℕ)) (ref : List ℕ → ℕ) (ms : List (List ℕ)) (i : ℕ) → i < length ms → names xs (ref (get_or ms i [])) ≡ true →
    Leads (with_fillers filler xs ref (distinct ms)) (numbers ms) i (element xs (ref (get_or ms i [])))
fillers_lead filler xs ref ms i l t =
    let p = numbers_back ms i l in
    let N : List ℕ → Type 0 = λ k. names xs (ref k) ≡ true in
    let any = any_named-at xs ref (distinct ms) (get_or (numbers ms) i 0) p.0 (subst N (sym p.1) t) in
    let found = cond-true (names xs (ref (get_or ms i []))) (element xs (ref (get_or ms i []))) filler t in
    let all = cond-true (any_named xs ref (distinct ms)) (map (named_or filler xs ref) (distinct ms)) [] any in
    let X : List ℕ → Type 0 = λ x. Leads (map (named_or filler xs ref) (distinct ms)) (numbers ms) i x in
    let L : List (List ℕ) → Type 0 = λ ys. Leads ys (numbers ms) i (element xs (ref (get_or ms i []))) in
    subst L (sym all) (subst X found (numbers_lead (named_or filler xs ref) ms i l))

-- numbers of references, where there are elements
pub picked_lead : (xs : List (List ℕ)) (rs : List ℕ) (i : ℕ) → i < length rs → some xs ≡ true → Leads (picked xs rs) (ref_numbers xs rs) i (element xs (get_or rs i 0))
picked_lead xs rs i l t =
    let f : List ℕ → List ℕ = λ k. element xs (v_of k) in
    let len = length-map rs one in
    let h = numbers_lead f (map one rs) i (omega arith) in
    let X : List ℕ → Type 0 = λ k. Leads (map f (distinct (map one rs))) (numbers (map one rs)) i (f k) in
    let h2 = subst X (get_or-map one rs i 0 [] l) h in
    let K : List (List ℕ) → Type 0 = λ ks. Leads (map f ks) (numbers (map one rs)) i (element xs (get_or rs i 0)) in
    let h3 = subst K (sym (cond-true (some xs) (distinct (map one rs)) [] t)) h2 in
    let M : List ℕ → Type 0 = λ ns. Leads (picked xs rs) ns i (element xs (get_or rs i 0)) in
    subst M (sym (cond-true (some xs) (numbers (map one rs)) [] t)) h3

-- ---- numbers after merging

-- the number at i becomes the place of what it led to
pub renumbered-at : (xs : List (List ℕ)) (ns : List ℕ) (i : ℕ) (x : List ℕ) → Leads xs ns i x → get_or (renumbered xs ns) i 0 ≡ place (distinct xs) x
renumbered-at xs ns i x h = get_or-map (λ n. place (distinct xs) (get_or xs n [])) ns i 0 0 h.0 ∙ ap (place (distinct xs)) h.1.1

pub has_led : (xs : List (List ℕ)) (ns : List ℕ) (i : ℕ) (x : List ℕ) → Leads xs ns i x → has (distinct xs) x ≡ true
has_led xs ns i x h = distinct-has xs x (has-at xs x (get_or ns i 0) h.1)

pub merged_lead : (xs : List (List ℕ)) (ns : List ℕ) (i : ℕ) (x : List ℕ) → Leads xs ns i x → Leads (distinct xs) (renumbered xs ns) i x
merged_lead xs ns i x h =
    let len = length-map ns (λ n. place (distinct xs) (get_or xs n [])) in
    let P : ℕ → Type 0 = λ n. PlaceOf x (distinct xs) n in
    (omega (arith, h.0), subst P (sym (renumbered-at xs ns i x h)) (place_of (distinct xs) x (has_led xs ns i x h)))

pub merged-apart : (xs : List (List ℕ)) (ns : List ℕ) (i j : ℕ) (x y : List ℕ) → Leads xs ns i x → Leads xs ns j y → get_or (renumbered xs ns) i 0 ≡ get_or (renumbered xs ns) j 0 → x ≡ y
merged-apart xs ns i j x y hx hy e =
    place_injective (distinct xs) x y (has_led xs ns i x hx) (has_led xs ns j y hy) (sym (renumbered-at xs ns i x hx) ∙ e ∙ renumbered-at xs ns j y hy)

pub merged_together : (xs : List (List ℕ)) (ns : List ℕ) (i j : ℕ) (x y : List ℕ) → Leads xs ns i x → Leads xs ns j y → x ≡ y → get_or (renumbered xs ns) i 0 ≡ get_or (renumbered xs ns) j 0
merged_together xs ns i j x y hx hy e = renumbered-at xs ns i x hx ∙ ap (place (distinct xs)) e ∙ sym (renumbered-at xs ns j y hy)

pub merged-used : (xs : List (List ℕ)) (ns : List ℕ) → Used (length xs) ns → Used (length (distinct xs)) (renumbered xs ns)
merged-used xs ns u j l =
    let x = get_or (distinct xs) j [] in
    let p = place_of xs x (has-distinct xs x (has-at (distinct xs) x j (l, refl))) in
    let w = u (place xs x) p.0 in
    let below : w.0 < length (renumbered xs ns) = omega (arith, w.1, length-map ns (λ n. place (distinct xs) (get_or xs n []))) in
    let P : ℕ → Type 0 = λ n. PlaceOf x xs n in
    (w.0, below, renumbered-at xs ns w.0 x (w.1, subst P (sym w.2) p) ∙ sym (place_unique (distinct xs) x j (apart_distinct xs) (l, refl)))
