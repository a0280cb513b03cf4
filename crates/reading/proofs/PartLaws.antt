use Rattle.std.proofs.Common.{◌≡◌, ℕ, ◌+◌, Bool, true, false, cond, not, List, [], ◌∷◌, length, sym, refl, ap, subst, arith}
use Rattle.std.proofs.lemmas.Bool.{and_from, not_from_false, eqb-true}
use Rattle.reading.specs.Pieces.{onto, pieces, stretches, slash, parts_from}
use Rattle.reading.specs.Laws.{uncut, Slashed, Reslashed}

-- a slash goes before the parts of what comes after it
slashed_slash : (i : ℕ) (cs : List ℕ) (ps : List (List ℕ)) → Slashed (i + 1) cs (stretches (i + 1) ps) → Slashed i (47 ∷ cs) (stretches i ([] ∷ ps))
slashed_slash i cs [] h = absurd h
slashed_slash i cs (p ∷ ps) h =
    let e : i + 1 ≡ i + 0 + 1 = omega arith in
    (cs, (refl, refl, refl, subst (λ (k : ℕ). Slashed k cs (stretches k (p ∷ ps))) e h))

-- any other byte goes onto the first of them
slashed_other : (i c : ℕ) (cs : List ℕ) (ps : List (List ℕ)) → slash c ≡ false → Slashed (i + 1) cs (stretches (i + 1) ps) → Slashed i (c ∷ cs) (stretches i (onto c ps))
slashed_other i c cs [] s h = absurd h
slashed_other i c cs (p ∷ []) s h = (ap (λ zs. c ∷ zs) h.0, refl, and_from (not (slash c)) (uncut slash p) (not_from_false (slash c) s) h.2)
slashed_other i c cs (p ∷ q ∷ ps) s h =
    let e : i + 1 + length p + 1 ≡ i + length (c ∷ p) + 1 = omega arith in (
      h.0,
      (
        ap (λ zs. c ∷ zs) h.1.0,
        refl,
        and_from (not (slash c)) (uncut slash p) (not_from_false (slash c) s) h.1.2,
        subst (λ (k : ℕ). Slashed k h.0 (stretches k (q ∷ ps))) e h.1.3,
      ),
    )

slashed_by : (i c : ℕ) (cs : List ℕ) (b : Bool) → slash c ≡ b → Slashed (i + 1) cs (parts_from (i + 1) cs) → Slashed i (c ∷ cs) (stretches i (cond b ([] ∷ pieces slash cs) (onto c (pieces slash cs))))
slashed_by i c cs true s h = subst (λ (d : ℕ). Slashed i (d ∷ cs) (stretches i ([] ∷ pieces slash cs))) (sym (eqb-true c 47 s)) (slashed_slash i cs (pieces slash cs) h)
slashed_by i c cs false s h = slashed_other i c cs (pieces slash cs) s h

pub reslashed : Reslashed
reslashed i [] = (refl, refl, refl)
reslashed i (c ∷ cs) = slashed_by i c cs (slash c) refl (reslashed (i + 1) cs)
