-- The laws of first appearances: a caller cites these and need not open the definitions of specs/First.
use Rattle.std.proofs.Common.{◌≡◌, ℕ, zero, suc, ◌<◌, ◌≤◌, Bool, true, false, cond, ◌||◌, eqb, List, [], ◌∷◌, ◌++◌, map, length, get_or, take, drop, sym, refl, ap, ◌∙◌, subst, ⊎_elim, suc-le-suc, zero-le, arith}
use Rattle.std.proofs.lemmas.Bool.{eqb-true, eq-eqb, and_parts, and_from, or_from, or_parts, or_cases, or_left, or_right, cases_Bool, both_ways, cond-true, cond-false}
use Rattle.std.proofs.lemmas.List.{append-nil, length-map, get_or-map, map_push, take-append-drop}
use Rattle.elements.specs.First.{alike, has, without, distinct, place, entered, numbers, PlaceOf, Absent, Apart}

-- ---- the same key

pub alike_same : (m : List ℕ) → alike m m ≡ true
alike_same [] = refl
alike_same (x ∷ xs) = and_from _ _ (eq-eqb x x refl) (alike_same xs)

pub same_alike : (k m : List ℕ) → alike k m ≡ true → k ≡ m
same_alike [] [] e = refl
same_alike [] (y ∷ ys) e = absurd (both_ways false refl e)
same_alike (x ∷ xs) [] e = absurd (both_ways false refl e)
same_alike (x ∷ xs) (y ∷ ys) e =
    let p = and_parts (eqb x y) (alike xs ys) e in
    let a = eqb-true x y p.0 in
    let b = same_alike xs ys p.1 in
    cc

pub alike_from : (k m : List ℕ) → k ≡ m → alike k m ≡ true
alike_from k m e = let P : List ℕ → Type 0 = λ x. alike k x ≡ true in subst P e (alike_same k)

-- ---- has, and what stands where

pub has-at : (ks : List (List ℕ)) (m : List ℕ) (i : ℕ) → PlaceOf m ks i → has ks m ≡ true
has-at [] m i h = absurd (omega arith)
has-at (k ∷ ks) m zero h = or_left (alike k m) (has ks m) (alike_from k m h.1)
has-at (k ∷ ks) m (suc i) h = or_right (alike k m) (has ks m) (has-at ks m i (omega arith, h.1))

pub lacks_absent : (ks : List (List ℕ)) (m : List ℕ) → Absent m ks → has ks m ≡ false
lacks_absent [] m h = refl
lacks_absent (k ∷ ks) m h =
    or_from (alike k m) (has ks m)
    (⊎_elim (λ t. absurd (h 0 (suc-le-suc zero-le) (same_alike k m t))) (λ f. f) (cases_Bool (alike k m)))
    (lacks_absent ks m (λ i l e. h (suc i) (suc-le-suc l) e))

pub absent_lacks : (ks : List (List ℕ)) (m : List ℕ) → has ks m ≡ false → Absent m ks
absent_lacks ks m h i l e = both_ways (has ks m) h (has-at ks m i (l, e))

pub has-append : (xs ys : List (List ℕ)) (m : List ℕ) → has (xs ++ ys) m ≡ (has xs m || has ys m)
has-append [] ys m = refl
has-append (x ∷ xs) ys m = elim (alike x m) as (λ b. (b || has (xs ++ ys) m) ≡ ((b || has xs m) || has ys m)) [ true ↦ refl | false ↦ has-append xs ys m ]

pub has_left : (xs ys : List (List ℕ)) (m : List ℕ) → has xs m ≡ true → has (xs ++ ys) m ≡ true
has_left xs ys m h = has-append xs ys m ∙ or_left (has xs m) (has ys m) h

pub has-take : (n : ℕ) (xs : List (List ℕ)) (m : List ℕ) → has (take n xs) m ≡ true → has xs m ≡ true
has-take n xs m h = let P : List (List ℕ) → Type 0 = λ ys. has ys m ≡ true in subst P (take-append-drop n xs) (has_left (take n xs) (drop n xs) m h)

-- ---- the place of a key

pub place_of : (ks : List (List ℕ)) (m : List ℕ) → has ks m ≡ true → PlaceOf m ks (place ks m)
place_of [] m h = absurd (both_ways false refl h)
place_of (k ∷ ks) m h = ⊎_elim
    (λ t. let P : Bool → Type 0 = λ b. PlaceOf m (k ∷ ks) (cond b 0 (suc (place ks m))) in subst P (sym t) (suc-le-suc zero-le, same_alike k m t))
    (λ f. let P : Bool → Type 0 = λ b. PlaceOf m (k ∷ ks) (cond b 0 (suc (place ks m))) in
    let Q : Bool → Type 0 = λ b. (b || has ks m) ≡ true in
    let rest = place_of ks m (subst Q f h) in
    subst P (sym f) (suc-le-suc rest.0, rest.1))
    (cases_Bool (alike k m))

pub place_none : (ks : List (List ℕ)) (m : List ℕ) → has ks m ≡ false → place ks m ≡ length ks
place_none [] m h = refl
place_none (k ∷ ks) m h =
    let p = or_parts (alike k m) (has ks m) h in
    cond-false (alike k m) 0 (suc (place ks m)) p.0 ∙ ap suc (place_none ks m p.1)

pub place_unique : (ks : List (List ℕ)) (m : List ℕ) (i : ℕ) → Apart ks → PlaceOf m ks i → i ≡ place ks m
place_unique ks m i apart h =
    let p = place_of ks m (has-at ks m i h) in
    apart i (place ks m) h.0 p.0 (h.1 ∙ sym p.1)

pub place_injective : (ks : List (List ℕ)) (a b : List ℕ) → has ks a ≡ true → has ks b ≡ true → place ks a ≡ place ks b → a ≡ b
place_injective ks a b ha hb e =
    sym (place_of ks a ha).1 ∙ ap (λ (i : ℕ). get_or ks i []) e ∙ (place_of ks b hb).1

pub place-append : (xs ys : List (List ℕ)) (m : List ℕ) → has xs m ≡ true → place (xs ++ ys) m ≡ place xs m
place-append [] ys m h = absurd (both_ways false refl h)
place-append (x ∷ xs) ys m h = ⊎_elim
    (λ t. cond-true (alike x m) 0 (suc (place (xs ++ ys) m)) t ∙ sym (cond-true (alike x m) 0 (suc (place xs m)) t))
    (λ f. let Q : Bool → Type 0 = λ b. (b || has xs m) ≡ true in
    ap (λ (n : ℕ). cond (alike x m) 0 (suc n)) (place-append xs ys m (subst Q f h)))
    (cases_Bool (alike x m))

pub place_push : (ks : List (List ℕ)) (m : List ℕ) → has ks m ≡ false → place (ks ++ m ∷ []) m ≡ length ks
place_push [] m h = cond-true (alike m m) 0 1 (alike_same m)
place_push (k ∷ ks) m h =
    let p = or_parts (alike k m) (has ks m) h in
    cond-false (alike k m) 0 (suc (place (ks ++ m ∷ []) m)) p.0 ∙ ap suc (place_push ks m p.1)

-- ---- a key entered last

pub entered-old : (ks : List (List ℕ)) (m : List ℕ) → has ks m ≡ true → entered ks m ≡ ks
entered-old ks m h = cond-true (has ks m) ks (ks ++ m ∷ []) h

pub entered-new : (ks : List (List ℕ)) (m : List ℕ) → has ks m ≡ false → entered ks m ≡ ks ++ m ∷ []
entered-new ks m h = cond-false (has ks m) ks (ks ++ m ∷ []) h

pub place-entered : (ks : List (List ℕ)) (m : List ℕ) → place (entered ks m) m ≡ place ks m
place-entered ks m = ⊎_elim
    (λ t. ap (λ xs. place xs m) (entered-old ks m t))
    (λ f. ap (λ xs. place xs m) (entered-new ks m f) ∙ place_push ks m f ∙ sym (place_none ks m f))
    (cases_Bool (has ks m))

pub place_kept : (ks : List (List ℕ)) (m x : List ℕ) → has ks x ≡ true → place (entered ks m) x ≡ place ks x
place_kept ks m x h = ⊎_elim
    (λ t. ap (λ xs. place xs x) (entered-old ks m t))
    (λ f. ap (λ xs. place xs x) (entered-new ks m f) ∙ place-append ks (m ∷ []) x h)
    (cases_Bool (has ks m))

pub has-entered : (ks : List (List ℕ)) (m : List ℕ) → has (entered ks m) m ≡ true
has-entered ks m = ⊎_elim
    (λ t. ap (λ xs. has xs m) (entered-old ks m t) ∙ t)
    (λ f. ap (λ xs. has xs m) (entered-new ks m f) ∙ has-append ks (m ∷ []) m ∙ or_right (has ks m) (has (m ∷ []) m) (or_left (alike m m) false (alike_same m)))
    (cases_Bool (has ks m))

pub has_kept : (ks : List (List ℕ)) (m x : List ℕ) → has ks x ≡ true → has (entered ks m) x ≡ true
has_kept ks m x h = ⊎_elim
    (λ t. ap (λ xs. has xs x) (entered-old ks m t) ∙ h)
    (λ f. ap (λ xs. has xs x) (entered-new ks m f) ∙ has_left ks (m ∷ []) x h)
    (cases_Bool (has ks m))

-- ---- those that differ from a key

pub has-without : (m : List ℕ) (ks : List (List ℕ)) (x : List ℕ) → has (without m ks) x ≡ true → has ks x ≡ true
has-without m [] x h = h
has-without m (k ∷ ks) x h = ⊎_elim
    (λ t. or_right (alike k x) (has ks x) (has-without m ks x (let P : Bool → Type 0 = λ b. has (cond b (without m ks) (k ∷ without m ks)) x ≡ true in subst P t h)))
    (λ f. ⊎_elim
    (λ here. or_left (alike k x) (has ks x) here)
    (λ there. or_right (alike k x) (has ks x) (has-without m ks x there))
    (or_cases (alike k x) (has (without m ks) x) (let P : Bool → Type 0 = λ b. has (cond b (without m ks) (k ∷ without m ks)) x ≡ true in subst P f h)))
    (cases_Bool (alike k m))

-- one that differs stays
pub without_other : (m : List ℕ) (ks : List (List ℕ)) (x : List ℕ) → (x ≡ m → ⊥) → has ks x ≡ true → has (without m ks) x ≡ true
without_other m [] x ne h = h
without_other m (k ∷ ks) x ne h =
    let P : Bool → Type 0 = λ b. has (cond b (without m ks) (k ∷ without m ks)) x ≡ true in
    ⊎_elim
    (λ t. subst P (sym t) (⊎_elim
    (λ here. absurd (ne (sym (same_alike k x here) ∙ same_alike k m t)))
    (λ there. without_other m ks x ne there)
    (or_cases (alike k x) (has ks x) h)))
    (λ f. subst P (sym f) (⊎_elim
    (λ here. or_left (alike k x) (has (without m ks) x) here)
    (λ there. or_right (alike k x) (has (without m ks) x) (without_other m ks x ne there))
    (or_cases (alike k x) (has ks x) h)))
    (cases_Bool (alike k m))

pub lacks-without : (m : List ℕ) (ks : List (List ℕ)) → has (without m ks) m ≡ false
lacks-without m [] = refl
lacks-without m (k ∷ ks) =
    let P : Bool → Type 0 = λ b. has (cond b (without m ks) (k ∷ without m ks)) m ≡ false in
    ⊎_elim
    (λ t. subst P (sym t) (lacks-without m ks))
    (λ f. subst P (sym f) (or_from (alike k m) (has (without m ks) m) f (lacks-without m ks)))
    (cases_Bool (alike k m))

pub without-none : (m : List ℕ) (ks : List (List ℕ)) → has ks m ≡ false → without m ks ≡ ks
without-none m [] h = refl
without-none m (k ∷ ks) h =
    let p = or_parts (alike k m) (has ks m) h in
    cond-false (alike k m) (without m ks) (k ∷ without m ks) p.0 ∙ ap (λ xs. k ∷ xs) (without-none m ks p.1)

pub without-append : (m : List ℕ) (xs ys : List (List ℕ)) → without m (xs ++ ys) ≡ without m xs ++ without m ys
without-append m [] ys = refl
without-append m (x ∷ xs) ys = elim (alike x m) as (λ b. cond b (without m (xs ++ ys)) (x ∷ without m (xs ++ ys)) ≡ cond b (without m xs) (x ∷ without m xs) ++ without m ys) [
  | true ↦ without-append m xs ys
  | false ↦ ap (λ zs. x ∷ zs) (without-append m xs ys)
]

pub length-without-le : (m : List ℕ) (ks : List (List ℕ)) → length (without m ks) ≤ length ks
length-without-le m [] = omega arith
length-without-le m (k ∷ ks) =
    let again = length-without-le m ks in
    elim (alike k m) as (λ b. length (cond b (without m ks) (k ∷ without m ks)) ≤ suc (length ks)) [ true ↦ omega arith | false ↦ omega arith ]

pub length-without-lt : (m : List ℕ) (ks : List (List ℕ)) → has ks m ≡ true → length (without m ks) < length ks
length-without-lt m [] h = absurd (both_ways false refl h)
length-without-lt m (k ∷ ks) h =
    let P : Bool → Type 0 = λ b. length (cond b (without m ks) (k ∷ without m ks)) < suc (length ks) in
    ⊎_elim
    (λ t. let le = length-without-le m ks in subst P (sym t) (omega arith))
    (λ f. let Q : Bool → Type 0 = λ b. (b || has ks m) ≡ true in
    let lt = length-without-lt m ks (subst Q f h) in
    subst P (sym f) (omega arith))
    (cases_Bool (alike k m))

-- ---- each once

-- no key stands among those after it
abbrev Once : List (List ℕ) → Type 0
Once [] = Unit {0}
Once (k ∷ ks) = (has ks k ≡ false) × Once ks

once-apart : (ks : List (List ℕ)) → Once ks → Apart ks
once-apart [] o i j hi hj e = absurd (omega arith)
once-apart (k ∷ ks) o zero zero hi hj e = refl
once-apart (k ∷ ks) o zero (suc j) hi hj e = absurd (absent_lacks ks k o.0 j (omega arith) (sym e))
once-apart (k ∷ ks) o (suc i) zero hi hj e = absurd (absent_lacks ks k o.0 i (omega arith) e)
once-apart (k ∷ ks) o (suc i) (suc j) hi hj e = ap suc (once-apart ks o.1 i j (omega arith) (omega arith) e)

apart-once : (ks : List (List ℕ)) → Apart ks → Once ks
apart-once [] a = tt
apart-once (k ∷ ks) a = (
  lacks_absent ks k (λ i l e. let z : suc i ≡ 0 = a (suc i) 0 (suc-le-suc l) (suc-le-suc zero-le) e in omega arith),
  apart-once ks (λ i j hi hj e. let s : suc i ≡ suc j = a (suc i) (suc j) (suc-le-suc hi) (suc-le-suc hj) e in omega arith),
)

once-without : (m : List ℕ) (ks : List (List ℕ)) → Once ks → Once (without m ks)
once-without m [] o = tt
once-without m (k ∷ ks) o =
    elim (alike k m) as (λ b. Once (cond b (without m ks) (k ∷ without m ks))) [
      | true ↦ once-without m ks o.1
      | false ↦ (
        ⊎_elim (λ t. absurd (both_ways (has ks k) o.0 (has-without m ks k t))) (λ f. f) (cases_Bool (has (without m ks) k)),
        once-without m ks o.1,
      )
    ]

once-distinct : (ks : List (List ℕ)) → Once (distinct ks)
once-distinct [] = tt
once-distinct (k ∷ ks) = (lacks-without k (distinct ks), once-without k (distinct ks) (once-distinct ks))

-- the distinct ones stand once each
pub apart_distinct : (ks : List (List ℕ)) → Apart (distinct ks)
apart_distinct ks = once-apart (distinct ks) (once-distinct ks)

distinct-once : (ks : List (List ℕ)) → Once ks → distinct ks ≡ ks
distinct-once [] o = refl
distinct-once (k ∷ ks) o =
    ap (λ xs. k ∷ without k xs) (distinct-once ks o.1) ∙ ap (λ xs. k ∷ xs) (without-none k ks o.0)

pub distinct_apart : (ks : List (List ℕ)) → Apart ks → distinct ks ≡ ks
distinct_apart ks a = distinct-once ks (apart-once ks a)

pub distinct-distinct : (ks : List (List ℕ)) → distinct (distinct ks) ≡ distinct ks
distinct-distinct ks = distinct-once (distinct ks) (once-distinct ks)

-- the same keys stand in both
pub has-distinct : (ks : List (List ℕ)) (m : List ℕ) → has (distinct ks) m ≡ true → has ks m ≡ true
has-distinct [] m h = h
has-distinct (k ∷ ks) m h = ⊎_elim
    (λ here. or_left (alike k m) (has ks m) here)
    (λ there. or_right (alike k m) (has ks m) (has-distinct ks m (has-without k (distinct ks) m there)))
    (or_cases (alike k m) (has (without k (distinct ks)) m) h)

pub distinct-has : (ks : List (List ℕ)) (m : List ℕ) → has ks m ≡ true → has (distinct ks) m ≡ true
distinct-has [] m h = h
distinct-has (k ∷ ks) m h = ⊎_elim
    (λ here. or_left (alike k m) (has (without k (distinct ks)) m) here)
    (λ differs. or_right (alike k m) (has (without k (distinct ks)) m)
    (without_other k (distinct ks) m
    (λ e. both_ways (alike k m) differs (alike_from k m (sym e)))
    (distinct-has ks m (let Q : Bool → Type 0 = λ b. (b || has ks m) ≡ true in subst Q differs h))))
    (cases_Bool (alike k m))

pub same-has : (ks : List (List ℕ)) (m : List ℕ) → has (distinct ks) m ≡ has ks m
same-has ks m = ⊎_elim
    (λ t. distinct-has ks m t ∙ sym t)
    (λ f. ⊎_elim (λ t. absurd (both_ways (has ks m) f (has-distinct ks m t))) (λ g. g ∙ sym f) (cases_Bool (has (distinct ks) m)))
    (cases_Bool (has ks m))

pub length-distinct-le : (ks : List (List ℕ)) → length (distinct ks) ≤ length ks
length-distinct-le [] = omega arith
length-distinct-le (k ∷ ks) = omega (arith, length-without-le k (distinct ks), length-distinct-le ks)

-- ---- one key more

without-last : (k x : List ℕ) (ks : List (List ℕ)) → alike k x ≡ true → without k (ks ++ x ∷ []) ≡ without k ks
without-last k x ks t =
    without-append k ks (x ∷ []) ∙ ap (λ ys. without k ks ++ ys) (cond-true (alike x k) [] (x ∷ []) (alike_from x k (sym (same_alike k x t)))) ∙ append-nil (without k ks)

without_other_last : (k x : List ℕ) (ks : List (List ℕ)) → alike k x ≡ false → without k (ks ++ x ∷ []) ≡ without k ks ++ x ∷ []
without_other_last k x ks f =
    without-append k ks (x ∷ []) ∙ ap (λ ys. without k ks ++ ys) (cond-false (alike x k) [] (x ∷ [])
    (⊎_elim (λ t. absurd (both_ways (alike k x) f (alike_from k x (sym (same_alike x k t))))) (λ g. g) (cases_Bool (alike x k))))

pub distinct-new : (xs : List (List ℕ)) (x : List ℕ) → has xs x ≡ false → distinct (xs ++ x ∷ []) ≡ distinct xs ++ x ∷ []
distinct-new [] x h = refl
distinct-new (k ∷ ks) x h =
    let p = or_parts (alike k x) (has ks x) h in
    ap (λ xs. k ∷ without k xs) (distinct-new ks x p.1) ∙ ap (λ xs. k ∷ xs) (without_other_last k x (distinct ks) p.0)

pub distinct-old : (xs : List (List ℕ)) (x : List ℕ) → has xs x ≡ true → distinct (xs ++ x ∷ []) ≡ distinct xs
distinct-old [] x h = absurd (both_ways false refl h)
distinct-old (k ∷ ks) x h = ⊎_elim
    (λ t. ap (λ xs. k ∷ without k xs) (distinct-old ks x t))
    (λ f. ap (λ xs. k ∷ without k xs) (distinct-new ks x f) ∙ ap (λ xs. k ∷ xs) (without-last k x (distinct ks)
    (⊎_elim (λ here. here) (λ there. absurd (both_ways (has ks x) f there)) (or_cases (alike k x) (has ks x) h))))
    (cases_Bool (has ks x))

pub distinct_more : (xs : List (List ℕ)) (x : List ℕ) → distinct (xs ++ x ∷ []) ≡ entered (distinct xs) x
distinct_more xs x = ⊎_elim
    (λ t. distinct-old xs x t ∙ sym (entered-old (distinct xs) x (distinct-has xs x t)))
    (λ f. distinct-new xs x f ∙ sym (entered-new (distinct xs) x (same-has xs x ∙ f)))
    (cases_Bool (has xs x))

pub apart-entered : (ks : List (List ℕ)) (m : List ℕ) → Apart ks → Apart (entered ks m)
apart-entered ks m a =
    let P : List (List ℕ) → Type 0 = λ xs. Apart xs in
    subst P (distinct_more ks m ∙ ap (λ xs. entered xs m) (distinct_apart ks a)) (apart_distinct (ks ++ m ∷ []))

-- ---- the number of each

pub length-numbers : (xs : List (List ℕ)) → length (numbers xs) ≡ length xs
length-numbers xs = length-map xs (place (distinct xs))

has_each : (xs : List (List ℕ)) (i : ℕ) → i < length xs → has (distinct xs) (get_or xs i []) ≡ true
has_each xs i l = distinct-has xs (get_or xs i []) (has-at xs (get_or xs i []) i (l, refl))

pub get_or-numbers : (xs : List (List ℕ)) (i : ℕ) → i < length xs → get_or (numbers xs) i 0 ≡ place (distinct xs) (get_or xs i [])
get_or-numbers xs i l = get_or-map (place (distinct xs)) xs i [] 0 l

-- each number leads back to its key
pub numbers_back : (xs : List (List ℕ)) (i : ℕ) → i < length xs → PlaceOf (get_or xs i []) (distinct xs) (get_or (numbers xs) i 0)
numbers_back xs i l =
    let P : ℕ → Type 0 = λ n. PlaceOf (get_or xs i []) (distinct xs) n in
    subst P (sym (get_or-numbers xs i l)) (place_of (distinct xs) (get_or xs i []) (has_each xs i l))

-- two have one number exactly where they are the same key
pub numbers_apart : (xs : List (List ℕ)) (i j : ℕ) → i < length xs → j < length xs → get_or (numbers xs) i 0 ≡ get_or (numbers xs) j 0 → get_or xs i [] ≡ get_or xs j []
numbers_apart xs i j hi hj e = sym (numbers_back xs i hi).1 ∙ ap (λ (n : ℕ). get_or (distinct xs) n []) e ∙ (numbers_back xs j hj).1

pub numbers_shared : (xs : List (List ℕ)) (i j : ℕ) → i < length xs → j < length xs → get_or xs i [] ≡ get_or xs j [] → get_or (numbers xs) i 0 ≡ get_or (numbers xs) j 0
numbers_shared xs i j hi hj e = get_or-numbers xs i hi ∙ ap (place (distinct xs)) e ∙ sym (get_or-numbers xs j hj)

-- places stay where keys are appended
places_kept : (ks xs : List (List ℕ)) (m : List ℕ) → ((i : ℕ) → i < length xs → has ks (get_or xs i []) ≡ true) → map (place (entered ks m)) xs ≡ map (place ks) xs
places_kept ks [] m h = refl
places_kept ks (x ∷ xs) m h =
    let first = place_kept ks m x (h 0 (suc-le-suc zero-le)) in
    let rest = places_kept ks xs m (λ i l. h (suc i) (suc-le-suc l)) in
    cc

pub numbers_more : (xs : List (List ℕ)) (x : List ℕ) → numbers (xs ++ x ∷ []) ≡ numbers xs ++ place (distinct xs) x ∷ []
numbers_more xs x =
    ap (λ ks. map (place ks) (xs ++ x ∷ [])) (distinct_more xs x)
    ∙ map_push (place (entered (distinct xs) x)) xs x
    ∙ ap (λ ns. ns ++ place (entered (distinct xs) x) x ∷ []) (places_kept (distinct xs) xs x (has_each xs))
    ∙ ap (λ (n : ℕ). numbers xs ++ n ∷ []) (place-entered (distinct xs) x)

-- ---- no list that holds them all is shorter

once-fewest : (ks ys : List (List ℕ)) → Once ks → ((m : List ℕ) → has ks m ≡ true → has ys m ≡ true) → length ks ≤ length ys
once-fewest [] ys o h = omega arith
once-fewest (k ∷ ks) ys o h =
    let lt = length-without-lt k ys (h k (or_left (alike k k) (has ks k) (alike_same k))) in
    let P : List ℕ → Type 0 = λ x. has ks x ≡ true in
    let le = once-fewest ks (without k ys) o.1 (λ m t. without_other k ys m
    (λ e. both_ways (has ks k) o.0 (subst P e t))
    (h m (or_right (alike k m) (has ks m) t))) in
    omega arith

pub fewest : (xs ys : List (List ℕ)) → ((m : List ℕ) → has xs m ≡ true → has ys m ≡ true) → length (distinct xs) ≤ length ys
fewest xs ys h = once-fewest (distinct xs) ys (once-distinct xs) (λ m t. h m (has-distinct xs m t))

-- where each of xs can be read out of ys by an index list
pub fewest_read : (xs ys : List (List ℕ)) (at : List ℕ) → ((i : ℕ) → i < length xs → PlaceOf (get_or xs i []) ys (get_or at i 0)) → length (distinct xs) ≤ length ys
fewest_read xs ys at h = fewest xs ys (λ m t.
    let p = place_of xs m t in
    let P : List ℕ → Type 0 = λ x. PlaceOf x ys (get_or at (place xs m) 0) in
    has-at ys m (get_or at (place xs m) 0) (subst P p.1 (h (place xs m) p.0)))

pub distinct-le : (xs ys : List (List ℕ)) → ((m : List ℕ) → has xs m ≡ true → has ys m ≡ true) → length (distinct xs) ≤ length (distinct ys)
distinct-le xs ys h = fewest xs (distinct ys) (λ m t. distinct-has ys m (h m t))

pub same_members : (xs ys : List (List ℕ)) → ((m : List ℕ) → has xs m ≡ has ys m) → length (distinct xs) ≡ length (distinct ys)
same_members xs ys h =
    let le = distinct-le xs ys (λ m t. sym (h m) ∙ t) in
    let ge = distinct-le ys xs (λ m t. h m ∙ t) in
    omega arith

pub distinct-take-le : (n : ℕ) (xs : List (List ℕ)) → length (distinct (take n xs)) ≤ length (distinct xs)
distinct-take-le n xs = distinct-le (take n xs) xs (λ m t. has-take n xs m t)
