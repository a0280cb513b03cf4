-- What a walk over the slots says of the keys, and a hashed table after a new key.
use Rattle.std.proofs.Common.{◌≡◌, ℕ, ◌+◌, ◌<◌, ◌≤◌, ◌≢◌, ◌⊎◌, List, [], ◌∷◌, ◌++◌, map, length, get_or, set, replicate, Some, None, sym, refl, ap, ◌∙◌, subst, inl, inr, arith}
use Rattle.std.proofs.lemmas.List.{length-map, length-set, get_or-set_same, get_or-set_other, get_or_append_left, get_or_push, get_or_past, get_or-replicate, length-replicate, length_push}
use Rattle.std.proofs.lemmas.Bool.{cases_eq, cases_lt}
use Rattle.elements.proofs.FirstFacts.{lacks_absent, place_none, entered-new}
use Rattle.tables.specs.Tables.{Found as Has, Placed}
use Rattle.tables.specs.Hashing.{slot_of, Taken, Leads, Reach, Hashed}
use Rattle.tables.specs.Probes.{Other, Passed, FoundAt, FreeAt, Probed}
use Rattle.tables.specs.declared.probe.Probe.{Probe}
use Rattle.tables.specs.declared.probe.Probe.TheVariants.{Found, Free, Past}
use Rattle.tables.proofs.Places.{at_meaning, found_some, entering_apart}
use Rattle.tables.proofs.Slots.{used_all, used-none, used-set}

pub found_found : (d : List ℕ → ℕ) (m : List ℕ) (ks : List (List ℕ)) (ss : List ℕ) (i : ℕ) → FoundAt m ks ss i → Hashed d ks ss → Has m ks (Some i)
found_found d m ks ss i h s = found_some m ks i s.apart (h.inside, h.means)

pub past_found : (d : List ℕ → ℕ) (m : List ℕ) (ks : List (List ℕ)) (ss : List ℕ) → Passed m ks ss 0 (length ss) → Hashed d ks ss → Has m ks None
past_found d m ks ss passed s = lacks_absent ks m (λ i hi e. let r = s.reach i hi in (passed r.at (omega arith) r.inside).1 i r.holds hi e)

split_le : (a b : ℕ) → (a ≤ b) ⊎ (b < a)
split_le a b = elim (cases_lt b a) [ inl h ↦ inr h | inr h ↦ inl h ]

zero-suc : (i : ℕ) → 0 ≡ i + 1 → ⊥
zero-suc i e = omega arith

-- where the walk for `m` from `s` came to the free slot `p`, no slot that a walk from `s` leads to has `m`
free_own : (m : List ℕ) (ks : List (List ℕ)) (ss : List ℕ) (s p i q : ℕ) → FreeAt m ks ss s p → i < length ks → get_or ks i [] ≡ m → q < length ss → get_or ss q 0 ≡ i + 1 → Leads ss s q → ⊥
free_own m ks ss s p i q h l e low holds leads =
    elim (split_le s p) [
      | inl sp ↦ elim (split_le s q) [
        | inl sq ↦ elim (split_le p q) [
          | inl pq ↦ elim (cases_eq p q) [
            | inl same ↦ zero-suc i (sym h.free ∙ ap (λ (x : ℕ). get_or ss x 0) same ∙ holds)
            | inr other ↦ leads.ahead sq p sp (omega arith) h.free
          ]
          | inr qp ↦ (h.ahead sp q sq qp).1 i holds l e
        ]
        | inr qs ↦ leads.round_end qs p sp h.inside h.free
      ]
      | inr ps ↦ elim (split_le s q) [
        | inl sq ↦ (h.round_end ps q sq low).1 i holds l e
        | inr qs ↦ elim (split_le p q) [
          | inl pq ↦ elim (cases_eq p q) [
            | inl same ↦ zero-suc i (sym h.free ∙ ap (λ (x : ℕ). get_or ss x 0) same ∙ holds)
            | inr other ↦ leads.round_start qs p (omega arith) (omega arith) h.free
          ]
          | inr qp ↦ (h.round_start ps q (omega arith) qp).1 i holds l e
        ]
      ]
    ]

pub free_found : (d : List ℕ → ℕ) (m : List ℕ) (ks : List (List ℕ)) (ss : List ℕ) (p : ℕ) → FreeAt m ks ss (slot_of (d m) (length ss)) p → Hashed d ks ss → Has m ks None
free_found d m ks ss p h s = lacks_absent ks m (λ i hi e.
    let r = s.reach i hi in
    let P : List ℕ → Type 0 = λ x. Leads ss (slot_of (d x) (length ss)) r.at in
    free_own m ks ss (slot_of (d m) (length ss)) p i r.at h hi e r.inside r.holds (subst P e r.leads))

-- a walk that found no key came to a free slot, or passed them all
pub probed_none : (d : List ℕ → ℕ) (m : List ℕ) (ks : List (List ℕ)) (ss : List ℕ) (r : Probe) → Probed d m ks ss r → ((i : ℕ) → r ≡ Found i → ⊥) → Hashed d ks ss → Has m ks None
probed_none d m ks ss (Found i) h none s = absurd (none i refl)
probed_none d m ks ss (Free p) h none s = free_found d m ks ss p h s
probed_none d m ks ss Past h none s = past_found d m ks ss h s

-- with more slots than keys some slot is free, so a walk never passes them all
pub past_never : (d : List ℕ → ℕ) (m : List ℕ) (ks : List (List ℕ)) (ss : List ℕ) → length ks < length ss → Passed m ks ss 0 (length ss) → Hashed d ks ss → ⊥
past_never d m ks ss more passed s = omega (arith, used_all ss (λ q h. (passed q (omega arith) h).0), s.count)

-- a taken slot stays taken where a free one is filled
set_taken : (ss : List ℕ) (p v q : ℕ) → p < length ss → (v ≡ 0 → ⊥) → (get_or ss q 0 ≡ 0 → ⊥) → get_or (set ss p v) q 0 ≡ 0 → ⊥
set_taken ss p v q h nz full e = elim (cases_eq q p) [
  | inl same ↦ nz (sym (get_or-set_same ss p v 0 h) ∙ ap (λ (x : ℕ). get_or (set ss p v) x 0) (sym same) ∙ e)
  | inr other ↦ full (sym (get_or-set_other ss p q v 0 other) ∙ e)
]

set_takes : (ss : List ℕ) (p v a b : ℕ) → p < length ss → (v ≡ 0 → ⊥) → Taken ss a b → Taken (set ss p v) a b
set_takes ss p v a b h nz t q low high = set_taken ss p v q h nz (t q low high)

set-leads : (ss : List ℕ) (p v s q : ℕ) → p < length ss → (v ≡ 0 → ⊥) → Leads ss s q → Leads (set ss p v) s q
set-leads ss p v s q h nz l = record {
  ahead = λ c. set_takes ss p v s q h nz (l.ahead c);
  round_end = λ c. let P : ℕ → Type 0 = λ x. Taken (set ss p v) s x in subst P (sym (length-set ss p v)) (set_takes ss p v s (length ss) h nz (l.round_end c));
  round_start = λ c. set_takes ss p v 0 q h nz (l.round_start c);
}

free-leads : (m : List ℕ) (ks : List (List ℕ)) (ss : List ℕ) (s p : ℕ) → FreeAt m ks ss s p → Leads ss s p
free-leads m ks ss s p h = record {
  ahead = λ c q a b. (h.ahead c q a b).0;
  round_end = λ c q a b. (h.round_end c q a b).0;
  round_start = λ c q a b. (h.round_start c q a b).0;
}

reach-old : (ss : List ℕ) (p n s i : ℕ) → p < length ss → get_or ss p 0 ≡ 0 → Reach ss s (i + 1) → Reach (set ss p (n + 1)) s (i + 1)
reach-old ss p n s i h free r =
    let ne : r.at ≢ p = λ e. zero-suc i (sym free ∙ ap (λ (x : ℕ). get_or ss x 0) (sym e) ∙ r.holds) in
    record {
      at = r.at;
      inside = simp length-set r.inside;
      holds = get_or-set_other ss p r.at (n + 1) 0 ne ∙ r.holds;
      leads = set-leads ss p (n + 1) s r.at h (λ e. omega arith) r.leads;
    }

reach-new : (ss : List ℕ) (p n s : ℕ) → p < length ss → Leads ss s p → Reach (set ss p (n + 1)) s (n + 1)
reach-new ss p n s h l = record {
  at = p;
  inside = simp length-set h;
  holds = get_or-set_same ss p (n + 1) 0 h;
  leads = set-leads ss p (n + 1) s p h (λ e. omega arith) l;
}

reach_push : (d : List ℕ → ℕ) (n : ℕ) (ms : List (List ℕ)) (ss : List ℕ) (m : List ℕ) (p : ℕ) → length ms ≡ n → p < length ss → get_or ss p 0 ≡ 0 → Leads ss (slot_of (d m) (length ss)) p → ((i : ℕ) → i < n → Reach ss (slot_of (d (get_or ms i [])) (length ss)) (i + 1)) → (i : ℕ) → i < n + 1 → Reach (set ss p (n + 1)) (slot_of (d (get_or (ms ++ m ∷ []) i [])) (length (set ss p (n + 1)))) (i + 1)
reach_push d n ms ss m p len h free leads reach i l = rw (length-set ss p (n + 1)) (elim (cases_eq i n) [
  | inl same ↦
      let P : ℕ → Type 0 = λ x. Reach (set ss p (n + 1)) (slot_of (d (get_or (ms ++ m ∷ []) x [])) (length ss)) (x + 1) in
      let Q : List ℕ → Type 0 = λ x. Reach (set ss p (n + 1)) (slot_of (d x) (length ss)) (n + 1) in
      subst P (sym same) (subst Q (sym (get_or_push ms m [] n len)) (reach-new ss p n (slot_of (d m) (length ss)) h leads))
  | inr other ↦
      let k : i < n = omega arith in
      let k2 : i < length ms = omega arith in
      let Q : List ℕ → Type 0 = λ x. Reach (set ss p (n + 1)) (slot_of (d x) (length ss)) (i + 1) in
      subst Q (sym (get_or_append_left ms (m ∷ []) [] i k2)) (reach-old ss p n (slot_of (d (get_or ms i [])) (length ss)) i h free (reach i k))
])

held_push : (ss : List ℕ) (p n : ℕ) → p < length ss → ((q : ℕ) → get_or ss q 0 ≤ n) → (q : ℕ) → get_or (set ss p (n + 1)) q 0 ≤ n + 1
held_push ss p n h held q = elim (cases_eq q p) [
  | inl same ↦ let P : ℕ → Type 0 = λ x. get_or (set ss p (n + 1)) x 0 ≤ n + 1 in subst P (sym same) (rw (get_or-set_same ss p (n + 1) 0 h) (omega arith))
  | inr other ↦ rw (get_or-set_other ss p q (n + 1) 0 other) (omega (arith, held q))
]

-- a hashed table after a new key, whose place went into the free slot
pub hashed_placed : (cap : ℕ) (d : List ℕ → ℕ) (m : List ℕ) (ks ls : List (List ℕ)) (ss : List ℕ) (i p : ℕ) → FreeAt m ks ss (slot_of (d m) (length ss)) p → Placed cap m ks ls i → Hashed d ks ss → Hashed d ls (set ss p (i + 1))
hashed_placed cap d m ks ls ss i p free h s =
    let lacks = free_found d m ks ss p free s in
    let at : i ≡ length ks = h.at ∙ place_none ks m lacks in
    let more : ls ≡ ks ++ m ∷ [] = h.holds ∙ entered-new ks m lacks in
    let len : length ls ≡ length ks + 1 = ap length more ∙ length_push ks m in
    rw at record {
      apart = entering_apart cap m ks ls (Some i) h s.apart;
      count = used-set ss p (length ks + 1) free.inside free.free (λ e. omega arith) ∙ ap (λ (x : ℕ). x + 1) s.count ∙ sym len;
      held = rw len (held_push ss p (length ks) free.inside s.held);
      reach = rw (len, more) (reach_push d (length ks) ks ss m p refl free.inside free.free (free-leads m ks ss (slot_of (d m) (length ss)) p free) s.reach);
    }

-- a hashed table whose slots are all free
pub hashed_none : (d : List ℕ → ℕ) (ks : List (List ℕ)) (ss : List ℕ) (n : ℕ) → ks ≡ [] → ss ≡ replicate n 0 → Hashed d ks ss
hashed_none d ks ss n none free =
    let all : (q : ℕ) → get_or ss q 0 ≡ 0 = λ q. ap (λ (xs : List ℕ). get_or xs q 0) free ∙ elim (cases_lt q n) [
      | inl h ↦ get_or-replicate n q 0 0 h
      | inr h ↦ get_or_past (replicate n 0) q 0 (omega (arith, length-replicate {A = ℕ} n 0))
    ] in
    rw none record {
      apart = λ i j h. absurd (omega arith);
      count = used-none ss all;
      held = λ p. omega (arith, all p);
      reach = λ i h. absurd (omega arith);
    }

-- one slot more was passed
pub passed_more : (m : List ℕ) (ks : List (List ℕ)) (ss : List ℕ) (a p n : ℕ) → Passed m ks ss a p → n ≡ p + 1 → Other m ks (get_or ss p 0) → Passed m ks ss a n
passed_more m ks ss a p n passed more here q low high = elim (cases_eq q p) [
  | inl same ↦ let P : ℕ → Type 0 = λ x. Other m ks (get_or ss x 0) in subst P (sym same) here
  | inr other ↦ passed q low (omega arith)
]

-- a slot with a place where no key is, or one that differs
pub other_place : {K : Type 0} (f : K → List ℕ) (m : List ℕ) (ks : List K) (v p : ℕ) → v ≡ p + 1 → ((d : K) → p < length ks → f (get_or ks p d) ≡ m → ⊥) → Other m (map f ks) v
other_place f m ks v p is differs = (
  λ e. omega arith,
  λ i e l means.
      let same : i ≡ p = omega arith in
      let inside : i < length ks = omega (arith, length-map ks f) in
      let P : List ℕ → Type 0 = λ x. x ≡ m → ⊥ in
      at_meaning P f ks i inside (rw same (λ d. differs d (omega arith))) means,
)
