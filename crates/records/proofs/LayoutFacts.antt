-- What stands on a tape.
use Rattle.std.proofs.Common.{◌≡◌, ℕ, zero, suc, ◌+◌, ◌<◌, ◌≤◌, List, get_or, sym, ◌∙◌, subst, ⊎_elim, pow_pos, ◌*◌, ap, not, nat_eq, bit_and, ◌^◌, ◌/◌, ◌%◌, ◌==◌, ◌-◌, drop, length, slice_index, arith}
use Rattle.std.proofs.lemmas.Bool.{cases_eq}
use Rattle.std.proofs.lemmas.List.{get_or-take, get_or-drop}
use Rattle.std.proofs.lemmas.Bool.Decides.{nat_tests}
use Rattle.std.proofs.lemmas.Nat.Bits.{and_pow, bit_at-lt}
use Rattle.std.specs.Int.{bit_at}
use Rattle.std.specs.Fn.{Called}
use Rattle.std.specs.List.{slice_range}
use Rattle.std.specs.Array.{IsFromFnResultFrom}
use denote.Param.Members.{Mut}

-- what `array::from_fn` makes by a closure that computes from the index alone
module _ {F B : Type 0} (g : Mut F (ℕ × Unit {0}) B) (f : F) (v : ℕ → B) (same : (i : ℕ) (y : B) (q : F) → Called g f (i, tt) y q → (q ≡ f) × (y ≡ v i)) where
  made_from : (ys : List B) (i n : ℕ) → IsFromFnResultFrom g f ys i n → (k : ℕ) (e : B) → i ≤ k → k < i + n → get_or ys k e ≡ v k
  made_from ys i zero h k e low high = absurd (omega arith)
  made_from ys i (suc n) h k e low high =
      let one = same i h.1 h.0 h.3 in
      let P : ℕ → Type 0 = λ m. get_or ys m e ≡ v m in
      let Q : F → Type 0 = λ p. IsFromFnResultFrom g p ys (i + 1) n in
      ⊎_elim
      (λ (x : k ≡ i). subst P (sym x) (h.2.1 e ∙ one.1))
      (λ (ne : k ≡ i → ⊥). made_from ys (i + 1) n (subst Q one.0 h.4) k e (omega arith) (omega arith))
      (cases_eq k i)

  pub made_at : (ys : List B) (n : ℕ) → IsFromFnResultFrom g f ys 0 n → (k : ℕ) (e : B) → k < n → get_or ys k e ≡ v k
  made_at ys n h k e l = made_from ys 0 n h k e (omega arith) (omega arith)

-- a part of zeros
pub zeros_within : (bs zs : List ℕ) (a b : ℕ) → zs ≡ slice_range bs a b → length zs + a ≡ b → ((k : ℕ) → k < length zs → slice_index zs k ≡ 0)
    → (i : ℕ) → a ≤ i → i < b → slice_index bs i ≡ 0
zeros_within bs zs a b part count all i low high =
    let k = i - a in
    let P : ℕ → Type 0 = λ j. get_or (drop a bs) (i - a) 0 ≡ slice_index bs j in
    let at : a + (i - a) ≡ i = omega arith in
    sym (subst P at (get_or-drop a bs k 0)) ∙ (sym (get_or-take (b - a) (drop a bs) k 0 (omega arith)) ∙ (ap (λ xs. slice_index xs k) (sym part) ∙ all k (omega arith)))

-- a flag is set where its bit is 1
pub flag_is : (n k : ℕ) → not (nat_eq (bit_and n (2 ^ k)) 0) ≡ (n / 2 ^ k % 2 == 1)
flag_is n k =
    let e = and_pow n k in
    let below = bit_at-lt n k in
    let least = pow_pos k in
    ⊎_elim
    (λ (one : bit_at n k ≡ 1). let set : bit_and n (2 ^ k) ≡ 1 * 2 ^ k = e ∙ ap (λ m. m * 2 ^ k) one in grind (arith, nat_tests, set, one))
    (λ (ne : bit_at n k ≡ 1 → ⊥). let none : bit_at n k ≡ 0 = omega arith in let clear : bit_and n (2 ^ k) ≡ 0 * 2 ^ k = e ∙ ap (λ m. m * 2 ^ k) none in grind (arith, nat_tests, clear, none))
    (cases_eq (bit_at n k) 1)
