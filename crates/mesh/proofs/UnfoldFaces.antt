-- The triangles of a face, corner by corner.
use Rattle.std.proofs.Common.{◌≡◌, ℕ, ◌≤◌, List, [], ◌∷◌, ◌++◌, map, length, get_or, take, drop, refl, arith}
use Rattle.mesh.specs.Unfold.{fan, triangles}

module _ {X : Type 0} where
  -- the triangles around a that end at the corners after the first
  abbrev pub around : X → List X → List X
  around a [] = []
  around a (b ∷ cs) = fan a b cs

  pub around_all : (cs : List X) (d : X) → 3 ≤ length cs → triangles cs ≡ around (get_or cs 0 d) (drop 1 cs)
  around_all [] d l = absurd (omega arith)
  around_all (a ∷ []) d l = absurd (omega arith)
  around_all (a ∷ b ∷ []) d l = absurd (omega arith)
  around_all (a ∷ b ∷ c ∷ cs) d l = refl

  -- one window w of n corners of cs, which leaves ds
  pub around_more : {Y : Type 0} (f : X → Y) (a : X) (cs : List X) {ds w : List X} {n : ℕ} (d : X) → n ≡ 2 → n ≤ length cs → w ≡ take n cs → ds ≡ drop 1 cs
      → map f (around a cs) ≡ (f a ∷ f (get_or w 0 d) ∷ f (get_or w 1 d) ∷ []) ++ map f (around a ds)
  around_more f a [] d two l e r = absurd (omega arith)
  around_more f a (b ∷ []) d two l e r = absurd (omega arith)
  around_more f a (b ∷ c ∷ cs) d two l e r = rw (e, r, two) refl
