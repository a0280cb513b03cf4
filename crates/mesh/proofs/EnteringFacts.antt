-- A table's answer, told apart by whether the key was new.
use Rattle.std.proofs.Common.{◌≡◌, ℕ, List, length, sym, ◌∙◌, subst, inl, inr, ⊎_elim}
use Rattle.std.proofs.lemmas.Bool.{cases_Bool}
use Rattle.elements.specs.First.{has, PlaceOf, Absent}
use Rattle.elements.proofs.FirstFacts.{absent_lacks, place_of, place_none, entered-old, entered-new}
use Rattle.tables.specs.Tables.{Refused, Placed as Entered}
use Rattle.mesh.specs.Entering.{Placed}

pub took : (cap : ℕ) (m : List ℕ) (ms ns : List (List ℕ)) (i : ℕ) → Entered cap m ms ns i → Placed m ms ns i
took cap m ms ns i h =
    ⊎_elim
    (λ t. inl (subst (PlaceOf m ms) (sym h.at) (place_of ms m t), h.holds ∙ entered-old ms m t))
    (λ f. inr (absent_lacks ms m f, h.at ∙ place_none ms m f, h.holds ∙ entered-new ms m f))
    (cases_Bool (has ms m))

pub met_full : (cap : ℕ) (m : List ℕ) (ms ns : List (List ℕ)) → Refused cap m ms ns → Absent m ms × (length ms ≡ cap) × (ns ≡ ms)
met_full cap m ms ns h = (absent_lacks ms m h.new, h.full, h.holds)
