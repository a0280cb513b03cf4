-- The laws of merging: what a renumbered list of numbers is good for, over any elements xs and any numbers ns below their count.
use Rattle.std.proofs.Common.{◌≡◌, ℕ, suc, ◌<◌, ◌≤◌, true, List, [], ◌∷◌, map, length, get_or, sym, refl, ap, ◌∙◌, subst, suc-le-suc, zero-le, arith}
use Rattle.std.proofs.lemmas.List.{length-map, get_or-map, get_or_default}
use Rattle.elements.specs.First.{distinct, numbers, place, has, PlaceOf}
use Rattle.elements.proofs.FirstFacts.{get_or-numbers, length-numbers, has-at, distinct-has, place_of, place_injective, fewest, fewest_read}
use Rattle.mesh.specs.Merging.{renumbered}
use Rattle.mesh.specs.Merges.{Within, through, looked_up}
use Rattle.mesh.specs.MergeLaws.{named, FewestFor, Used, Faithful}

-- ---- numbers that follow their elements

pub within-head : (k n : ℕ) (ns : List ℕ) → Within k (n ∷ ns) → n < k
within-head k n ns w = w 0 (suc-le-suc zero-le)

pub within_tail : (k n : ℕ) (ns : List ℕ) → Within k (n ∷ ns) → Within k ns
within_tail k n ns w i l = w (suc i) (suc-le-suc l)

-- two functions that agree below k agree over numbers below k
map-within : (k : ℕ) (f g : ℕ → ℕ) → ((n : ℕ) → n < k → f n ≡ g n) → (ns : List ℕ) → Within k ns → map f ns ≡ map g ns
map-within k f g h [] w = refl
map-within k f g h (n ∷ ns) w =
    let first = h n (within-head k n ns w) in
    let rest = map-within k f g h ns (within_tail k n ns w) in
    cc

module _ (xs : List (List ℕ)) where
  -- the new number of an element
  abbrev pub new : ℕ → ℕ
  new n = place (distinct xs) (get_or xs n [])

  through-numbers : (n : ℕ) → n < length xs → through (numbers xs) n ≡ new n
  through-numbers n l =
      let k = length-numbers xs in
      get_or_default (numbers xs) n n 0 (omega arith) ∙ get_or-numbers xs n l

  -- a walk's numbers, looked up, are the new ones
  pub renumbered-through : (ns : List ℕ) → Within (length xs) ns → looked_up (numbers xs) ns ≡ renumbered xs ns
  renumbered-through ns w = map-within (length xs) (through (numbers xs)) new through-numbers ns w

  has-old : (n : ℕ) → n < length xs → has (distinct xs) (get_or xs n []) ≡ true
  has-old n l = distinct-has xs (get_or xs n []) (has-at xs (get_or xs n []) n (l, refl))

  -- an old number, read through the renumbering, gives the same element bit for bit
  pub new-reads : (n : ℕ) → n < length xs → PlaceOf (get_or xs n []) (distinct xs) (new n)
  new-reads n l = place_of (distinct xs) (get_or xs n []) (has-old n l)

  -- two old numbers become one exactly where their elements agree
  pub new_apart : (m n : ℕ) → m < length xs → n < length xs → new m ≡ new n → get_or xs m [] ≡ get_or xs n []
  new_apart m n hm hn e = place_injective (distinct xs) (get_or xs m []) (get_or xs n []) (has-old m hm) (has-old n hn) e

  pub new_shared : (m n : ℕ) → get_or xs m [] ≡ get_or xs n [] → new m ≡ new n
  new_shared m n e = ap (place (distinct xs)) e

  -- ---- the same of the numbers ns of corners

  pub length-renumbered : (ns : List ℕ) → length (renumbered xs ns) ≡ length ns
  length-renumbered ns = length-map ns new

  pub get_or-renumbered : (ns : List ℕ) (i : ℕ) → i < length ns → get_or (renumbered xs ns) i 0 ≡ new (get_or ns i 0)
  get_or-renumbered ns i l = get_or-map new ns i 0 0 l

  pub renumbered-reads : (ns : List ℕ) → Within (length xs) ns → (i : ℕ) → i < length ns → PlaceOf (get_or xs (get_or ns i 0) []) (distinct xs) (get_or (renumbered xs ns) i 0)
  renumbered-reads ns w i l =
      let P : ℕ → Type 0 = λ k. PlaceOf (get_or xs (get_or ns i 0) []) (distinct xs) k in
      subst P (sym (get_or-renumbered ns i l)) (new-reads (get_or ns i 0) (w i l))

  pub renumbered-within : (ns : List ℕ) → Within (length xs) ns → Within (length (distinct xs)) (renumbered xs ns)
  renumbered-within ns w i l = let n = length-renumbered ns in (renumbered-reads ns w i (omega arith)).0

  pub renumbered-apart : (ns : List ℕ) → Within (length xs) ns → (i j : ℕ) → i < length ns → j < length ns
      → get_or (renumbered xs ns) i 0 ≡ get_or (renumbered xs ns) j 0 → get_or xs (get_or ns i 0) [] ≡ get_or xs (get_or ns j 0) []
  renumbered-apart ns w i j hi hj e =
      new_apart (get_or ns i 0) (get_or ns j 0) (w i hi) (w j hj) (sym (get_or-renumbered ns i hi) ∙ (e ∙ get_or-renumbered ns j hj))

  pub renumbered_shared : (ns : List ℕ) (i j : ℕ) → i < length ns → j < length ns
      → get_or xs (get_or ns i 0) [] ≡ get_or xs (get_or ns j 0) [] → get_or (renumbered xs ns) i 0 ≡ get_or (renumbered xs ns) j 0
  renumbered_shared ns i j hi hj e =
      get_or-renumbered ns i hi ∙ (new_shared (get_or ns i 0) (get_or ns j 0) e ∙ sym (get_or-renumbered ns j hj))

  -- no list from which every old element can be read is shorter
  pub fewest-merged : (ys : List (List ℕ)) (at : List ℕ) → ((i : ℕ) → i < length xs → PlaceOf (get_or xs i []) ys (get_or at i 0)) → length (distinct xs) ≤ length ys
  fewest-merged ys at h = fewest_read xs ys at h

  -- where every one of xs is named by one of ns
  pub fewest-used : (ns : List ℕ) → Used xs ns → FewestFor (distinct xs) xs ns
  fewest-used ns used ys os h = fewest xs ys (λ m t.
      let p = place_of xs m t in
      let u = used (place xs m) p.0 in
      let is : named xs ns u.0 ≡ m = ap (λ (k : ℕ). get_or xs k []) u.1.1 ∙ p.1 in
      let P : List ℕ → Type 0 = λ x. PlaceOf x ys (get_or os u.0 0) in
      has-at ys m (get_or os u.0 0) (subst P is (h u.0 u.1.0)))

  -- merging keeps what can be read
  pub merging_faithful : (ns : List ℕ) → Within (length xs) ns → Faithful xs ns (distinct xs) (renumbered xs ns)
  merging_faithful ns w =
      record {
        long = length-renumbered ns;
        reads = renumbered-reads ns w;
        shares = λ i j hi hj. (renumbered-apart ns w i j hi hj, renumbered_shared ns i j hi hj);
        fewest = fewest-used ns;
      }
