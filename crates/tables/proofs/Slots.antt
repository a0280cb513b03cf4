-- How many slots are taken.
use Rattle.std.proofs.Common.{◌≡◌, ℕ, zero, suc, ◌+◌, ◌<◌, ◌≤◌, List, [], ◌∷◌, length, get_or, set, refl, ap, arith}
use Rattle.tables.specs.Hashing.{used, taken_bit}

bit_le : (x : ℕ) → taken_bit x ≤ 1
bit_le zero = omega arith
bit_le (suc n) = omega arith

bit_taken : (x : ℕ) → (x ≡ 0 → ⊥) → taken_bit x ≡ 1
bit_taken zero h = absurd (h refl)
bit_taken (suc n) h = refl

pub used_le : (ss : List ℕ) → used ss ≤ length ss
used_le [] = omega arith
used_le (x ∷ xs) = omega (arith, bit_le x, used_le xs)

pub used_all : (ss : List ℕ) → ((q : ℕ) → q < length ss → get_or ss q 0 ≡ 0 → ⊥) → used ss ≡ length ss
used_all [] h = refl
used_all (x ∷ xs) h = omega (arith, bit_taken x (h zero (omega arith)), used_all xs (λ q l. h (suc q) (omega arith)))

pub used-none : (ss : List ℕ) → ((q : ℕ) → get_or ss q 0 ≡ 0) → used ss ≡ 0
used-none [] h = refl
used-none (x ∷ xs) h = omega (arith, ap taken_bit (h zero), used-none xs (λ q. h (suc q)))

pub used-set : (ss : List ℕ) (p v : ℕ) → p < length ss → get_or ss p 0 ≡ 0 → (v ≡ 0 → ⊥) → used (set ss p v) ≡ used ss + 1
used-set [] p v h e nz = absurd (omega arith)
used-set (x ∷ xs) zero v h e nz = omega (arith, bit_taken v nz, ap taken_bit e)
used-set (x ∷ xs) (suc p) v h e nz = omega (arith, used-set xs p v (omega arith) e nz)
