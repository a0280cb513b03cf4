-- Laws of rows.
use Rattle.std.proofs.Common.{◌≡◌, List, length, sym, ap, ◌∙◌, arith}
use Rattle.std.specs.Vec.{with_items}
use Rattle.std.proofs.lemmas.List.{length-take-le, with_items_is}
use Rattle.elements.specs.declared.row.Row.{Row}
use Rattle.elements.specs.Cells.{blanked}
use Rattle.elements.specs.Rows.{held, items}
use Rattle.elements.proofs.CellFacts.{length-blanked}

module _ {X : Type 0} (r : Row X) where
  -- a row holds as many elements as it counts
  pub length-items : length (items r) ≡ r.count
  length-items = let h = r.fits in length-take-le r.count (held r) (omega arith)

  -- what is left after every cell was blanked
  pub blanked_refill : (xs ws : List X) (z : X) → xs ≡ held r → ws ≡ blanked xs z → (with_items r.cells ws).items ≡ blanked (held r) z
  blanked_refill xs ws z e w =
      let n = ap length w ∙ (ap (λ ys. length (blanked ys z)) e ∙ length-blanked (held r) z) in
      with_items_is r.cells ws (n ∙ sym r.cells.ok.0) ∙ (w ∙ ap (λ ys. blanked ys z) e)
