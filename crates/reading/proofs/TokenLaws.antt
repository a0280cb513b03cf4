use Rattle.std.proofs.Common.{◌≡◌, ℕ, ◌+◌, ◌<◌, Bool, true, false, cond, not, List, [], ◌∷◌, ◌++◌, length, get_or, drop, sym, refl, ap, ◌∙◌, subst, arith}
use Rattle.std.proofs.lemmas.List.{append-nil, nil_from_length}
use Rattle.std.proofs.lemmas.Bool.{cond-true, cond-false, and_parts, and_from, not_from_false, not-true}
use Rattle.reading.specs.Pieces.{Stretch, onto, pieces, stretches, filled, space, tokens_from}
use Rattle.reading.specs.Laws.{blank, uncut, ended, Laid, Rejoined}
use Rattle.reading.proofs.TokenFacts.{tokens-space, keep_cons}

-- a text is its tokens

blank-ended : (cs : List ℕ) → blank cs ≡ true → ended cs ≡ true
blank-ended [] h = refl
blank-ended (c ∷ cs) h = (and_parts (space c) (blank cs) h).0

laid_space : (i c : ℕ) (cs : List ℕ) (ts : List Stretch) → space c ≡ true → Laid (i + 1) cs ts → Laid i (c ∷ cs) ts
laid_space i c cs [] s h = and_from (space c) (blank cs) s h
laid_space i c cs (t ∷ ts) s h =
    record {
      gap = c ∷ h.gap;
      rest = h.rest;
      joined = ap (λ zs. c ∷ zs) h.joined;
      apart = and_from (space c) (blank h.gap) s h.apart;
      place = omega (arith, h.place);
      some = h.some;
      solid = h.solid;
      longest = h.longest;
      others = h.others;
    }

-- the first piece of a text says how the text begins

onto-full : (c : ℕ) (ps qs : List (List ℕ)) → [] ∷ qs ≡ onto c ps → ⊥
onto-full c [] qs e = absurd (omega (arith, ap (λ zs. length (get_or zs 0 [])) e))
onto-full c (p ∷ ps) qs e = absurd (omega (arith, ap (λ zs. length (get_or zs 0 [])) e))

first_empty_by : (c : ℕ) (ps qs : List (List ℕ)) (b : Bool) → space c ≡ b → [] ∷ qs ≡ cond b ([] ∷ ps) (onto c ps) → space c ≡ true
first_empty_by c ps qs true s e = s
first_empty_by c ps qs false s e = absurd (onto-full c ps qs e)

first_empty : (cs : List ℕ) (qs : List (List ℕ)) → [] ∷ qs ≡ pieces space cs → ended cs ≡ true
first_empty [] qs e = refl
first_empty (c ∷ cs) qs e = first_empty_by c (pieces space cs) qs (space c) refl e

solid-one : (c : ℕ) → space c ≡ false → uncut space (c ∷ []) ≡ true
solid-one c s = and_from (not (space c)) true (not_from_false (space c) s) refl

laid_at : (i j : ℕ) (text : List ℕ) (ts us : List Stretch) → i ≡ j → ts ≡ us → Laid i text ts → Laid j text us
laid_at i j text ts us e f h = subst (λ (vs : List Stretch). Laid j text vs) f (subst (λ (k : ℕ). Laid k text ts) e h)

-- a byte that is no separator goes before what the text after it is
laid_word : (i c : ℕ) (cs : List ℕ) (ps : List (List ℕ)) → space c ≡ false → ps ≡ pieces space cs → Laid (i + 1) cs (filled (stretches (i + 1) ps)) → Laid i (c ∷ cs) (filled (stretches i (onto c ps)))
laid_word i c cs [] s e h =
    record {
      gap = [];
      rest = cs;
      joined = refl;
      apart = refl;
      place = omega arith;
      some = omega arith;
      solid = solid-one c s;
      longest = blank-ended cs h;
      others = h;
    }
laid_word i c cs ([] ∷ ps) s e h =
    record {
      gap = [];
      rest = cs;
      joined = refl;
      apart = refl;
      place = omega arith;
      some = omega arith;
      solid = solid-one c s;
      longest = first_empty cs ps e;
      others = laid_at (i + 1) _ cs _ _ refl (ap (λ k. filled (stretches k ps)) (omega arith)) h;
    }
laid_word i c cs ((d ∷ p) ∷ ps) s e h =
    let z : h.gap ≡ [] = nil_from_length h.gap (omega (arith, h.place)) in
    record {
      gap = [];
      rest = h.rest;
      joined = ap (λ zs. c ∷ zs) (h.joined ∙ ap (λ zs. zs ++ ((d ∷ p) ++ h.rest)) z);
      apart = refl;
      place = omega arith;
      some = omega arith;
      solid = and_from (not (space c)) (uncut space (d ∷ p)) (not_from_false (space c) s) h.solid;
      longest = h.longest;
      others = laid_at (i + 1 + length (d ∷ p)) _ h.rest _ _ (omega arith) (ap (λ k. filled (stretches k ps)) (omega arith)) h.others;
    }

laid_by : (i c : ℕ) (cs : List ℕ) (b : Bool) → space c ≡ b → Laid (i + 1) cs (tokens_from (i + 1) cs) → Laid i (c ∷ cs) (tokens_from i (c ∷ cs))
laid_by i c cs true s h = subst (λ (ts : List Stretch). Laid i (c ∷ cs) ts) (sym (tokens-space i c cs s)) (laid_space i c cs (tokens_from (i + 1) cs) s h)
laid_by i c cs false s h =
    subst (λ (ps : List (List ℕ)). Laid i (c ∷ cs) (filled (stretches i ps)))
    (sym (cond-false (space c) ([] ∷ pieces space cs) (onto c (pieces space cs)) s))
    (laid_word i c cs (pieces space cs) s refl h)

laid : (i : ℕ) (text : List ℕ) → Laid i text (tokens_from i text)
laid i [] = refl
laid i (c ∷ cs) = laid_by i c cs (space c) refl (laid (i + 1) cs)

-- and of no others

tokens-gap : (gap : List ℕ) (i : ℕ) (xs : List ℕ) → blank gap ≡ true → tokens_from i (gap ++ xs) ≡ tokens_from (i + length gap) xs
tokens-gap [] i xs h = ap (λ k. tokens_from k xs) (omega arith)
tokens-gap (c ∷ cs) i xs h =
    let p = and_parts (space c) (blank cs) h in
    tokens-space i c (cs ++ xs) p.0 ∙ (tokens-gap cs (i + 1) xs p.1 ∙ ap (λ k. tokens_from k xs) (omega arith))

pieces-ended : (rest : List ℕ) → ended rest ≡ true → pieces space rest ≡ [] ∷ drop 1 (pieces space rest)
pieces-ended [] h = refl
pieces-ended (c ∷ cs) h =
    let e = cond-true (space c) ([] ∷ pieces space cs) (onto c (pieces space cs)) h in
    e ∙ ap (λ zs. [] ∷ drop 1 zs) (sym e)

pieces_word : (w rest : List ℕ) → uncut space w ≡ true → ended rest ≡ true → pieces space (w ++ rest) ≡ w ∷ drop 1 (pieces space rest)
pieces_word [] rest u h = pieces-ended rest h
pieces_word (c ∷ cs) rest u h =
    let p = and_parts (not (space c)) (uncut space cs) u in
    cond-false (space c) ([] ∷ pieces space (cs ++ rest)) (onto c (pieces space (cs ++ rest))) (not-true (space c) p.0)
    ∙ ap (onto c) (pieces_word cs rest p.1 h)

tokens_word : (i : ℕ) (w rest : List ℕ) → 0 < length w → uncut space w ≡ true → ended rest ≡ true → tokens_from i (w ++ rest) ≡ record { from = i; bytes = w } ∷ tokens_from (i + length w) rest
tokens_word i w rest l u h =
    ap (λ ps. filled (stretches i ps)) (pieces_word w rest u h)
    ∙ (keep_cons (record { from = i; bytes = w }) w (filled (stretches (i + length w + 1) (drop 1 (pieces space rest)))) l
    ∙ ap (λ zs. record { from = i; bytes = w } ∷ zs)
    (ap (λ k. filled (stretches k (drop 1 (pieces space rest)))) (omega arith) ∙ sym (ap (λ ps. filled (stretches (i + length w) ps)) (pieces-ended rest h))))

laid_only : (ts : List Stretch) (i : ℕ) (text : List ℕ) → Laid i text ts → ts ≡ tokens_from i text
laid_only [] i text h = sym (ap (tokens_from i) (sym (append-nil text)) ∙ tokens-gap text i [] h)
laid_only (t ∷ ts) i text h =
    sym
    (ap (tokens_from i) h.joined
    ∙ (tokens-gap h.gap i (t.bytes ++ h.rest) h.apart
    ∙ (ap (λ k. tokens_from k (t.bytes ++ h.rest)) (sym h.place)
    ∙ (tokens_word t.from t.bytes h.rest h.some h.solid h.longest
    ∙ ap (λ zs. t ∷ zs) (sym (laid_only ts (t.from + length t.bytes) h.rest h.others))))))

pub rejoined : Rejoined
rejoined = (laid 0, λ text ts h. laid_only ts 0 text h)
